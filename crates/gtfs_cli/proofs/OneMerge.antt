-- A merge has one outcome.
use Rattle.std.proofs.Common.{◌≡◌, ◌∙◌, ap, sym, subst, refl, ℕ, ◌<◌, true, false, Bool, List, [], length, Option, Some, None, ℤ, codes, inl, inr, arith}
use Rattle.std.specs.Prelude.{unwrap_or}
use Rattle.gtfs_devices.specs.Device.{Rises}
use Rattle.gtfs_devices.specs.Folder.{Store}
use Rattle.gtfs_table.specs.TablesRead.{kept_files}
use Rattle.gtfs_rows.specs.Content.{Content}
use Rattle.gtfs_rows.specs.ContentRead.{content_of}
use Rattle.gtfs_merge.specs.Merged.{is_too_large, zone_texts_differ}
use Rattle.gtfs_commands.specs.Words.{MergeTexts}
use Rattle.gtfs_cli.specs.FilesInFolders.{HoldsPassing}
use Rattle.gtfs_cli.specs.RefusalOrder.{feed, followed_by, sending, values, Judged}
use Rattle.gtfs_cli.specs.MergeOptions.{first_bad_merge, judged_merge, IsMergeRequest, MergeRequest}
use Rattle.gtfs_cli.specs.MergeCommand.{file_limit, merge_judges, merge_of, merge_plan, merging, report_for, with_files, writing, CanMerge, HasLargeMerge, IsFolderMerge, IsMerged, IsMergingCause, IsWritingCause, MergeLeaves, MergeSetting}
use Rattle.gtfs_cli.specs.RefusalMessages.{line_of, message}
use Rattle.gtfs_cli.specs.CommandOutcomes.{IsPlainRefusal}
use Rattle.gtfs_cli.specs.Refusals.{status_of}
use Rattle.gtfs_cli.specs.declared.commands.refusal.Refusal.{Refusal}
use Rattle.gtfs_cli.specs.declared.commands.refusal.Refusal.TheVariants.{MergeTooLarge, OutputFailed, OutOfMemory, Unwritable, ZonesDiffer}
use Rattle.gtfs_cli.proofs.FolderEnds.{excludes-feed, one_dataset, one-feed, quiet-feed}
use Rattle.gtfs_cli.proofs.OneOutcome.{IsOne}
use Rattle.gtfs_cli.proofs.OneRefusal.{excludes-by, excludes-chain, excludes-last, excludes-values, line-at, one-chain, one-last, one-values, quiet-chain, quiet-last, quiet-values, Alike, Excludes, One, Quiet}
use Rattle.gtfs_cli.proofs.Unmerged.{none-bad-merge}

one_request : (asked : MergeTexts) (p q : MergeRequest) → IsMergeRequest asked p → IsMergeRequest asked q → p ≡ q
one_request asked p q a b =
    let near : p.near ≡ q.near = ap (λ (o : Option (Option ℕ)). unwrap_or o p.near) (sym a.near ∙ b.near) in
    let cutoff : p.cutoff ≡ q.cutoff = ap (λ (o : Option (Option ℤ)). unwrap_or o p.cutoff) (sym a.cutoff ∙ b.cutoff) in
    λ i. record { near = near i; cutoff = cutoff i }

module _ (limit : ℕ) (store : Store) (asked : MergeTexts) where
  abbrev held : Option Store
  held = Some store

  module _ (s t : MergeSetting limit (Some store) asked) where
    same_first : content_of s.first ≡ content_of t.first
    same_first = ap content_of (one_dataset limit store asked.a s.first t.first s.holds_first t.holds_first)

    same_second : content_of s.second ≡ content_of t.second
    same_second = ap content_of (one_dataset limit store asked.b s.second t.second s.holds_second t.holds_second)

    same_request : s.request ≡ t.request
    same_request = one_request asked s.request t.request s.is_request t.is_request

    -- what is so of two feeds is so of them
    of_feeds : (P : Content → Content → Type 0) → P (content_of s.first) (content_of s.second) → P (content_of t.first) (content_of t.second)
    of_feeds P is = subst (λ (f : Content). P f (content_of t.second)) same_first (subst (λ (f : Content). P (content_of s.first) f) same_second is)

    -- and what is so of them as the options say
    of_merge : (P : MergeRequest → Content → Content → Type 0) → P s.request (content_of s.first) (content_of s.second)
        → P t.request (content_of t.first) (content_of t.second)
    of_merge P is = subst (λ (q : MergeRequest). P q (content_of t.first) (content_of t.second)) same_request (of_feeds (P s.request) is)

    not_differing : zone_texts_differ (content_of s.first) (content_of s.second) ≡ true → zone_texts_differ (content_of t.first) (content_of t.second) ≡ false → ⊥
    not_differing differ one =
        let both = of_feeds (λ f g. zone_texts_differ f g ≡ true) differ in
        cc (sym both ∙ one)

  module _ (c d : Content) (told report : List ℕ) (a : IsFolderMerge limit (Some store) asked c told) (b : IsFolderMerge limit (Some store) asked d report) where
    same_content : c ≡ d
    same_content = of_merge a.setting b.setting (λ q f g. c ≡ merge_of q f g) a.content ∙ sym b.content

    same_report : told ≡ report
    same_report = of_merge a.setting b.setting (λ q f g. told ≡ report_for q f g) a.is_report ∙ sym b.is_report

  not_large : HasLargeMerge limit (Some store) asked → (c : Content) (report : List ℕ) → IsFolderMerge limit (Some store) asked c report → ⊥
  not_large large c report is =
      let both = of_merge large.0 is.setting (λ q f g. is_too_large file_limit (merge_of q f g) ≡ true) large.2 in
      cc (sym (ap (is_too_large file_limit) is.content ∙ both) ∙ is.small)

  -- ---- the merge

  one-merging-cause : (r s : Refusal) → IsMergingCause limit held asked r → IsMergingCause limit held asked s → Alike r s
  one-merging-cause ZonesDiffer ZonesDiffer a b = (refl, refl)
  one-merging-cause ZonesDiffer MergeTooLarge a b = absurd (not_differing a.0 b.0 a.1 b.1)
  one-merging-cause MergeTooLarge ZonesDiffer a b = absurd (not_differing b.0 a.0 b.1 a.1)
  one-merging-cause MergeTooLarge MergeTooLarge a b = (refl, refl)
  one-merging-cause ZonesDiffer _ a b = absurd b
  one-merging-cause MergeTooLarge _ a b = absurd b
  one-merging-cause _ s a b = absurd a

  one-merging : One (merging limit held asked)
  one-merging r s g h = one-merging-cause r s g.cause h.cause

  no-merging-cause : CanMerge limit held asked → (r : Refusal) → IsMergingCause limit held asked r → ⊥
  no-merging-cause can ZonesDiffer a = not_differing a.0 can.2.setting a.1 can.2.zone
  no-merging-cause can MergeTooLarge a = not_large a can.0 can.1 can.2
  no-merging-cause can _ a = absurd a

  excludes-merging : Excludes (CanMerge limit held asked) (merging limit held asked)
  excludes-merging can r h = no-merging-cause can r h.cause

  quiet-merging : Quiet (merging limit held asked)
  quiet-merging h = h.cause

  -- ---- the third folder

  writing-path : (before after : ℕ) (r : Refusal) → (Rises before after → ⊥) → IsWritingCause asked before after r
      → (message r ≡ line_of asked.out (codes " cannot be written")) × (status_of r ≡ 3) × (asked.out ≡ [])
  writing-path before after (Unwritable path) still (at, inl none) = (line-at path.now asked.out (codes " cannot be written") at, refl, none)
  writing-path before after (Unwritable path) still (at, inr rises) = absurd (still rises)
  writing-path before after _ still h = absurd h

  unwritten : (r : Refusal) (h : IsPlainRefusal (writing asked) r) → (message r ≡ line_of asked.out (codes " cannot be written")) × (status_of r ≡ 3) × (asked.out ≡ [])
  unwritten r h = writing-path h.before.folders h.after.folders r h.nowhere.folders h.cause

  one-writing : One (writing asked)
  one-writing r s g h =
      let a = unwritten r g in
      let b = unwritten s h in
      (a.0 ∙ sym b.0, a.1 ∙ sym b.1)

  named-or-not : 0 < length asked.out → asked.out ≡ [] → ⊥
  named-or-not named none = omega (arith, named, ap (λ (t : List ℕ). length t) none)

  excludes-writing : Excludes (0 < length asked.out) (writing asked)
  excludes-writing named r h = named-or-not named (unwritten r h).2

  quiet-writing : Quiet (writing asked)
  quiet-writing h = h.cause

  -- ---- all that is judged

  abbrev last : Judged
  last = followed_by (writing asked) sending

  abbrev after_second : Judged
  after_second = followed_by (merging limit held asked) last

  abbrev after_first : Judged
  after_first = followed_by (feed limit held asked.b) after_second

  abbrev after_values : Judged
  after_values = followed_by (feed limit held asked.a) after_first

  one-judges : One (merge_judges limit held asked)
  one-judges = one-chain (values (judged_merge asked)) after_values (one-values (judged_merge asked)) (excludes-values (judged_merge asked))
      (one-chain (feed limit held asked.a) after_first (one-feed limit store asked.a) (excludes-feed limit store asked.a)
      (one-chain (feed limit held asked.b) after_second (one-feed limit store asked.b) (excludes-feed limit store asked.b)
      (one-chain (merging limit held asked) last one-merging excludes-merging (one-last (writing asked) one-writing))))

  abbrev Merged : Type 0
  Merged = (now : Option Store) × (text : List ℕ) × IsMerged limit held asked now text

  excludes-judges : Excludes Merged (merge_judges limit held asked)
  excludes-judges = excludes-chain (values (judged_merge asked)) after_values Merged
      (excludes-by Merged (first_bad_merge asked ≡ None) (values (judged_merge asked)) (λ m. none-bad-merge asked m.2.merges.setting.request m.2.merges.setting.is_request)
      (excludes-values (judged_merge asked)))
      (excludes-chain (feed limit held asked.a) after_first Merged
      (excludes-by Merged (HoldsPassing limit held asked.a) (feed limit held asked.a)
      (λ m. (m.2.merges.setting.first, m.2.merges.setting.holds_first, m.2.merges.setting.first_passes)) (excludes-feed limit store asked.a))
      (excludes-chain (feed limit held asked.b) after_second Merged
      (excludes-by Merged (HoldsPassing limit held asked.b) (feed limit held asked.b)
      (λ m. (m.2.merges.setting.second, m.2.merges.setting.holds_second, m.2.merges.setting.second_passes)) (excludes-feed limit store asked.b))
      (excludes-chain (merging limit held asked) last Merged
      (excludes-by Merged (CanMerge limit held asked) (merging limit held asked) (λ m. (m.2.content, m.2.report, m.2.merges)) excludes-merging)
      (excludes-last Merged (writing asked) (excludes-by Merged (0 < length asked.out) (writing asked) (λ m. m.2.named) excludes-writing)))))

  quiet-judges : Quiet (merge_judges limit held asked)
  quiet-judges = quiet-chain (values (judged_merge asked)) after_values (quiet-values (judged_merge asked))
      (quiet-chain (feed limit held asked.a) after_first (quiet-feed limit store asked.a)
      (quiet-chain (feed limit held asked.b) after_second (quiet-feed limit store asked.b)
      (quiet-chain (merging limit held asked) last quiet-merging (quiet-last (writing asked) quiet-writing))))

  -- ---- what is left

  -- a folder that could not be written, though nothing failed, has no name
  unnamed : (path : _) (h : IsPlainRefusal (merge_judges limit held asked) (Unwritable path)) → asked.out ≡ []
  unnamed path h = by h.cause
    where
      by : (merge_judges limit held asked).Refuses h.before h.after (Unwritable path) → asked.out ≡ []
      by (inl bad) = absurd bad
      by (inr (a, inl bad)) = absurd bad
      by (inr (a, inr (b, inl bad))) = absurd bad
      by (inr (a, inr (b, inr (c, inl bad)))) = absurd bad
      by (inr (a, inr (b, inr (c, inr (d, inl (at, inl none)))))) = none
      by (inr (a, inr (b, inr (c, inr (d, inl (at, inr rises)))))) = absurd (h.nowhere.folders rises)
      by (inr (a, inr (b, inr (c, inr (d, inr (e, bad)))))) = absurd bad

  nothing-left : (now : Option Store) (part : List ℕ) (r : Refusal) → IsPlainRefusal (merge_judges limit held asked) r → MergeLeaves limit held asked now part r → (now ≡ held) × (part ≡ [])
  nothing-left now part (Unwritable path) h left =
      elim left.ends [ inl same ↦ (same.1, left.nothing) | inr stopped ↦ absurd (named-or-not stopped.0 (unnamed path h)) ]
  nothing-left now part OutputFailed h left = absurd (quiet-judges h)
  nothing-left now part OutOfMemory h left = absurd (h.enough refl)
  nothing-left now part _ h left = left

  one-done : (now later : Option Store) (t u : List ℕ) (f g : Bool) → (f ≡ false) × IsMerged limit held asked now t → (g ≡ false) × IsMerged limit held asked later u
      → (now ≡ later) × (t ≡ u) × (f ≡ g)
  one-done now later t u f g (clean, m) (pure, n) =
      let content = same_content m.content n.content m.report n.report m.merges n.merges in
      let report = same_report m.content n.content m.report n.report m.merges n.merges in (
        m.files ∙ ap (λ (c : Content). Some (with_files c asked.out kept_files store)) content ∙ sym n.files,
        m.of_report ∙ report ∙ sym n.of_report,
        clean ∙ sym pure,
      )

  pub one-merge : IsOne (merge_plan limit held asked) held
  one-merge = record {
    done = one-done;
    refusal = one-judges;
    apart = λ now t f m r h. excludes-judges (now, t, m.1) r h;
    nothing = nothing-left;
  }
