-- Both feeds of a merge on the days that a cutoff leaves to them: they are feeds with the ids and zones that they had, so the law of
-- merging holds of them.
use Rattle.std.proofs.Common.{◌≡◌, ◌<◌, ◌+◌, ◌^◌, ℕ, true, Option, Some, None, refl, sym, subst, length, ℤ}
use Rattle.std.specs.Prelude.{IfSome}
use Rattle.std.proofs.lemmas.Simd.{map-map}
use Rattle.gtfs_days.specs.Service.{is_service_day}
use Rattle.gtfs_days.specs.declared.cut.Cut.{Cut}
use Rattle.gtfs_days.specs.declared.cut.Cut.TheVariants.{Before, From}
use Rattle.gtfs_rows.specs.Content.{Content}
use Rattle.gtfs_rows.specs.SoundContent.{IsSound}
use Rattle.gtfs_rows.specs.TrimmedContent.{first_part, second_part, trimmed, trimmed_row}
use Rattle.gtfs_rows.proofs.TrimmedSound.{trimmed-sound}
use Rattle.gtfs_merge.specs.MergedDepartures.{AreFew}
use Rattle.gtfs_merge.specs.Merging.{KeepsDepartures}
use Rattle.gtfs_merge.specs.NearStops.{nearness}
use Rattle.gtfs_merge.specs.Renaming.{ids}
use Rattle.gtfs_merge.specs.declared.kind.Kind.{Kind}
use Rattle.gtfs_merge.specs.declared.kind.Kind.TheVariants as kind
use Rattle.gtfs_merge.proofs.CutDepartures.{first-days, second-days}
use Rattle.gtfs_merge.proofs.MergeLaws.{merge-boards, merge-shares-exactly, merge-union}
use Rattle.gtfs_merge.proofs.Stops.{is-nearness}

abbrev pub IsServiceDay : Option ℤ → Type 0
IsServiceDay cutoff = IfSome cutoff (λ d. is_service_day d ≡ true)

sound-first : (cutoff : Option ℤ) (f : Content) → IsServiceDay cutoff → IsSound f → IsSound (first_part cutoff f)
sound-first None f day sound = sound
sound-first (Some d) f day sound = trimmed-sound (Before d) day f sound

sound-second : (cutoff : Option ℤ) (f : Content) → IsServiceDay cutoff → IsSound f → IsSound (second_part cutoff f)
sound-second None f day sound = sound
sound-second (Some d) f day sound = trimmed-sound (From d) day f sound

ids-stay : (c : Cut) (f : Content) (k : Kind) → ids k (trimmed c f) ≡ ids k f
ids-stay c f kind.Agency = refl
ids-stay c f kind.Stop = refl
ids-stay c f kind.Route = refl
ids-stay c f kind.Service = map-map (λ s. s.service_id) (trimmed_row c) f.services
ids-stay c f kind.Trip = refl

few-parts : (cutoff : Option ℤ) (a b : Content) (k : Kind) → AreFew k a b → AreFew k (first_part cutoff a) (second_part cutoff b)
few-parts None a b k few = few
few-parts (Some d) a b k few = subst (λ n. n + 2 < 10 ^ 64) (sym (λ i. length (ids-stay (Before d) a k i) + length (ids-stay (From d) b k i))) few

module _ (near : Option ℕ) (cutoff : Option ℤ) (a b : Content) (day : IsServiceDay cutoff) (sound_a : IsSound a) (sound_b : IsSound b) (few : (k : Kind) → AreFew k a b) where
  pub keeps-departures : KeepsDepartures near cutoff a b
  keeps-departures = record {
    union = λ times. merge-union times (nearness near) (is-nearness near) _ _ (sound-first cutoff a day sound_a) (sound-second cutoff b day sound_b) (λ k. few-parts cutoff a b k (few k));
    shares = λ times. merge-shares-exactly times (nearness near) (is-nearness near) _ _ (sound-first cutoff a day sound_a) (sound-second cutoff b day sound_b) (λ k. few-parts cutoff a b k (few k));
    boards = λ times. merge-boards times (nearness near) (is-nearness near) _ _ (sound-first cutoff a day sound_a) (sound-second cutoff b day sound_b) (λ k. few-parts cutoff a b k (few k));
    first_days = first-days cutoff a;
    second_days = second-days cutoff b;
  }
