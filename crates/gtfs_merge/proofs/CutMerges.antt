-- The merge of two trimmed feeds is that of both feeds with a cutoff, and the feed of its rows is the merged feed.
use Rattle.std.proofs.Common.{◌≡◌, ◌∙◌, ℕ, Bool, false, Option, Some, None, ap, sym, subst, ℤ}
use Rattle.std.specs.Prelude.{IfErr, IfOk, Result, Ok, Err}
use Rattle.gtfs_days.specs.declared.cut.Cut.TheVariants.{Before, From}
use Rattle.gtfs_rows.specs.Content.{Content}
use Rattle.gtfs_rows.specs.TrimmedContent.{first_part, second_part, trimmed}
use Rattle.gtfs_rows.specs.RowsInMemory.{content_of_parts}
use Rattle.gtfs_rows.specs.declared.parts.Parts.{Parts}
use Rattle.gtfs_merge.specs.Merged.{is_too_large, merged, zone_texts_differ}
use Rattle.gtfs_merge.specs.Merging.{AreNamesOf, AreRowsOfMerge, IsFeedOf, IsLimitFault, IsMergeOf, IsRefusal}
use Rattle.gtfs_merge.specs.Names.{AllNames}
use Rattle.gtfs_merge.specs.NearStops.{nearness}
use Rattle.gtfs_merge.specs.declared.merging.Merged.{Merged}
use Rattle.gtfs_merge.specs.declared.merging.fault.MergeFault.{MergeFault}
use Rattle.gtfs_merge.specs.declared.merging.fault.MergeFault.TheVariants as fault

-- what was told of the zones of feeds that are lent on is told of the feeds
pub zone-told : (a b r s : Parts) (answer : Bool) → r ≡ a → s ≡ b → answer ≡ zone_texts_differ (content_of_parts r) (content_of_parts s) → answer ≡ false
    → zone_texts_differ (content_of_parts a) (content_of_parts b) ≡ false
zone-told a b r s answer is-a is-b told one = (λ i. zone_texts_differ (content_of_parts (sym is-a i)) (content_of_parts (sym is-b i))) ∙ sym told ∙ one

module _ (near : Option ℕ) (day : ℤ) (a b first second : Content) (is_first : first ≡ trimmed (Before day) a) (is_second : second ≡ trimmed (From day) b) where
  of-trimmed : (rows : Parts × AllNames) → AreRowsOfMerge near None first second rows → AreRowsOfMerge near (Some day) a b rows
  of-trimmed rows are = record {
    sound = are.sound;
    content = are.content ∙ (λ i. merged (nearness near) (is_first i) (is_second i));
    names = subst (λ (f : Content × Content). AreNamesOf near f.0 f.1 rows.1) (λ i. (is_first i, is_second i)) are.names;
  }

  pub rows-of-trimmed : {E : Type 0} (r : Result (Parts × AllNames) E) → IfOk r (AreRowsOfMerge near None first second) → IfOk r (AreRowsOfMerge near (Some day) a b)
  rows-of-trimmed (Ok rows) are = of-trimmed rows are
  rows-of-trimmed (Err x) are = are

module _ (near : Option ℕ) (cutoff : Option ℤ) (a b : Content) (zone : zone_texts_differ a b ≡ false) (limit : ℕ) (rows : Parts × AllNames)
    (are : AreRowsOfMerge near cutoff a b rows) where
  merge-of : (m : Merged) → IsFeedOf rows limit m → IsMergeOf near cutoff a b limit m
  merge-of m is = record {
    zone = zone;
    small = ap (is_too_large limit) (sym are.content) ∙ is.small;
    content = ap content_of_parts is.feed ∙ are.content;
    names = subst (AreNamesOf near (first_part cutoff a) (second_part cutoff b)) (sym is.names) are.names;
  }

  refusal-of : (x : MergeFault) → IsLimitFault (content_of_parts rows.0) limit x → IsRefusal near cutoff a b limit x
  refusal-of fault.ZoneDiffers is = elim is [ ]
  refusal-of fault.TooLarge is = (zone, ap (is_too_large limit) (sym are.content) ∙ is)
  refusal-of fault.OutOfMemory is = zone

  pub merged-of-rows : (r : Result Merged MergeFault) → IfOk r (IsFeedOf rows limit) → IfOk r (IsMergeOf near cutoff a b limit)
  merged-of-rows (Ok m) is = merge-of m is
  merged-of-rows (Err x) is = is

  pub refused-of-rows : (r : Result Merged MergeFault) → IfErr r (IsLimitFault (content_of_parts rows.0) limit) → IfErr r (IsRefusal near cutoff a b limit)
  refused-of-rows (Ok m) is = is
  refused-of-rows (Err x) is = refusal-of x is
