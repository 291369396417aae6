-- Why two folders are not merged, and what is left then.
use Rattle.std.proofs.Common.{◌≡◌, ◌∙◌, ap, refl, subst, ℕ, ◌<◌, length, ◌⊎◌, inl, inr, true, false, List, [], ◌++◌, Option, None, Result, Ok, Err, sym}
use Rattle.gtfs_devices.specs.Folder.{Store}
use Rattle.gtfs_table.specs.TablesRead.{kept_files}
use Rattle.gtfs_rows.specs.Content.{Content}
use Rattle.gtfs_rows.specs.ContentRead.{content_of}
use Rattle.gtfs_rows.specs.RowsInMemory.{content_of_parts}
use Rattle.gtfs_rows.specs.declared.parts.Parts.{Parts as Feed}
use Rattle.gtfs_rows.specs.TrimmedContent.{first_part, second_part}
use Rattle.gtfs_merge.specs.Merged.{is_too_large, zone_texts_differ}
use Rattle.gtfs_merge.specs.Merging.{IsMergeOf, KeepsDepartures}
use Rattle.gtfs_merge.specs.declared.merging.Merged.{Merged}
use Rattle.gtfs_commands.specs.Words.{MergeTexts}
use Rattle.gtfs_cli.specs.FilesInFolders.{HoldsFeed}
use Rattle.gtfs_cli.specs.Failures.{FailedNowhere, Failures}
use Rattle.gtfs_cli.specs.MergeOptions.{first_bad_merge, IsMergeRequest, MergeRequest}
use Rattle.gtfs_cli.specs.MergeParts.{HoldsMerge}
use Rattle.gtfs_cli.specs.MergeCommand.{file_limit, merge_judges, merge_of, merge_plan, report_for, HoldsFiles, IsFolderMerge, IsFoldersCause, IsMerged, IsMergeFault, IsMergingCause, IsWritingCause, IsWritingEnd, MergeLeaves, MergeSetting, ReadsAgain}
use Rattle.gtfs_cli.specs.MergeReport.{names_report}
use Rattle.gtfs_cli.specs.CommandPlan.{answer_of, Ends, IsRefusedIn}
use Rattle.gtfs_cli.specs.FolderCalls.{CallsFolders}
use Rattle.gtfs_cli.specs.ReadingCauses.{IsReadingCause}
use Rattle.gtfs_cli.specs.DevicesSeen.{Device, Output}
use Rattle.gtfs_cli.specs.SentText.{IsSendingCause, IsSent}
use Rattle.gtfs_cli.specs.declared.commands.refusal.Refusal.{Refusal}
use Rattle.gtfs_cli.specs.declared.commands.refusal.Refusal.TheVariants.{ZonesDiffer, MergeTooLarge, Unwritable, OutputFailed, OutOfMemory}
use Rattle.gtfs_cli.proofs.FailuresTold.{sending-told}
use Rattle.gtfs_cli.proofs.NamesTold.{report-told}
use Rattle.gtfs_cli.proofs.Plans.{asks-answered}

-- no value is bad
pub none-bad-merge : (asked : MergeTexts) (r : MergeRequest) → IsMergeRequest asked r → first_bad_merge asked ≡ None
none-bad-merge asked r is = rw (is.near, is.cutoff) refl

module _ (limit : ℕ) (held : Option Store) (asked : MergeTexts) where
  -- nothing is written and nothing goes out where neither is at fault
  pub none-merged : (now : Option Store) → now ≡ held → (r : Refusal) → (r ≡ OutputFailed → ⊥) → ((path : _) → r ≡ Unwritable path → ⊥) → MergeLeaves limit held asked now [] r
  none-merged now same OutputFailed other write = absurd (other refl)
  none-merged now same (Unwritable path) other write = absurd (write path refl)
  none-merged now same OutOfMemory other write = inl (same, refl)
  none-merged now same _ other write = (same, refl)

  -- ---- the feeds that are merged

  module _ (a b : Feed) (first : HoldsFeed limit held asked.a a) (second : HoldsFeed limit held asked.b b) (q : MergeRequest) (is_request : IsMergeRequest asked q) where
    abbrev setting : MergeSetting limit held asked
    setting = record {
      first = first.dataset;
      second = second.dataset;
      request = q;
      holds_first = first.holds;
      first_passes = first.is_feed.0;
      holds_second = second.holds;
      second_passes = second.is_feed.0;
      is_request = is_request;
    }

    -- what is so of the feeds is so of the datasets
    of_datasets : (P : Content → Content → Type 0) → P (content_of_parts a) (content_of_parts b) → P (content_of first.dataset) (content_of second.dataset)
    of_datasets P h = subst (λ (f : Content). P f (content_of second.dataset)) first.is_feed.1 (subst (λ (f : Content). P (content_of_parts a) f) second.is_feed.1 h)

    pub unmerged : (r : Refusal) → IsMergeFault q (content_of_parts a) (content_of_parts b) r → IsMergingCause limit held asked r ⊎ (r ≡ OutOfMemory)
    unmerged ZonesDiffer h = inl (setting, of_datasets (λ f g. zone_texts_differ f g ≡ true) h)
    unmerged MergeTooLarge h = inl (
      setting,
      of_datasets (λ f g. zone_texts_differ f g ≡ false) h.0,
      of_datasets (λ f g. is_too_large file_limit (merge_of q f g) ≡ true) h.1,
    )
    unmerged OutOfMemory h = inr refl
    unmerged _ h = absurd h

    pub unmerged-by : (before after : ℕ) → after ≡ before → (r : Refusal) → IsMergeFault q (content_of_parts a) (content_of_parts b) r → IsFoldersCause limit held asked before after r
    unmerged-by before after same r h = elim (unmerged r h) [
      | inl cause ↦ inr ((first.dataset, first.holds, first.is_feed.0), inr ((second.dataset, second.holds, second.is_feed.0), cause))
      | inr memory ↦ inl (subst (λ (e : Refusal). IsReadingCause limit held asked.a before after e) (sym memory) same)
    ]

    pub is-merged : (m : Merged) → IsMergeOf q.near q.cutoff (content_of_parts a) (content_of_parts b) file_limit m
        → KeepsDepartures q.near q.cutoff (content_of_parts a) (content_of_parts b) → HoldsMerge limit held asked q.near m
    is-merged m is keeps = record {
      setting = setting;
      zone = of_datasets (λ f g. zone_texts_differ f g ≡ false) is.zone;
      content = of_datasets (λ f g. content_of_parts m.feed ≡ merge_of q f g) is.content;
      small = ap (is_too_large file_limit) is.content ∙ is.small;
      keeps = of_datasets (λ f g. KeepsDepartures q.near q.cutoff f g) keeps;
      is_report = of_datasets (λ f g. names_report q.near m.names ≡ report_for q f g)
          (report-told q.near (first_part q.cutoff (content_of_parts a)) (second_part q.cutoff (content_of_parts b)) m.names is.names);
    }

  -- ---- why there is no merge

  pub no-folders-cause : (x y : ℕ) → IsFoldersCause limit held asked x y OutputFailed → ⊥
  no-folders-cause x y (inl h) = h
  no-folders-cause x y (inr (pass, inl h)) = h
  no-folders-cause x y (inr (pass, inr (also, h))) = h

  pub no-written-folders : (x y : ℕ) (path : _) → IsFoldersCause limit held asked x y (Unwritable path) → ⊥
  no-written-folders x y path (inl h) = h
  no-written-folders x y path (inr (pass, inl h)) = h
  no-written-folders x y path (inr (pass, inr (also, h))) = h

  module _ (x y : Failures) (none : first_bad_merge asked ≡ None) where
    pub folders-cause : (r : Refusal) → IsFoldersCause limit held asked x.folders y.folders r → IsRefusedIn (merge_judges limit held asked) x y r
    folders-cause r (inl h) = inl (inr (none, inl h))
    folders-cause r (inr (pass, inl h)) = inl (inr (none, inr (pass, inl h)))
    folders-cause r (inr (pass, inr (also, h))) = inl (inr (none, inr (pass, inr (also, inl h))))

    module _ (c : Content) (report : List ℕ) (is : IsFolderMerge limit held asked c report) where
      -- the folders and their merge were found good
      after : (r : Refusal) → IsWritingCause asked x.folders y.folders r
          ⊎ ((0 < length asked.out) × IsSendingCause x.output y.output r) → IsRefusedIn (merge_judges limit held asked) x y r
      after r h =
          let s = is.setting in
          inl (inr (none, inr ((s.first, s.holds_first, s.first_passes), inr ((s.second, s.holds_second, s.second_passes), inr ((c, report, is), h)))))

      pub writing-cause : (mid now : Option Store) → (r : Refusal) → (r ≡ OutOfMemory → FailedNowhere x y)
          → IsWritingEnd mid now x.folders y.folders asked.out c r → IsRefusedIn (merge_judges limit held asked) x y r
      writing-cause mid now (Unwritable path) nowhere h = after (Unwritable path) (inl (h.0, elim h.1 [ inl unnamed ↦ inl unnamed.0 | inr stopped ↦ inr stopped.1 ]))
      writing-cause mid now OutOfMemory nowhere h = inr (refl, nowhere refl)
      writing-cause mid now _ nowhere h = absurd h

      pub sending-cause : 0 < length asked.out → (r : Refusal) → IsSendingCause x.output y.output r → IsRefusedIn (merge_judges limit held asked) x y r
      sending-cause named r h = after r (inr (named, h))

  -- ---- the files that are not written, and the report that is not printed

  module _ (c : Content) (report : List ℕ) (is : IsFolderMerge limit held asked c report) where
    pub writing-left : (x y : ℕ) (now : Option Store) (r : Refusal) → IsWritingEnd held now x y asked.out c r → MergeLeaves limit held asked now [] r
    writing-left x y now (Unwritable path) h = record {
      content = c;
      report = report;
      merges = is;
      ends = elim h.1 [ inl unnamed ↦ inl unnamed | inr stopped ↦ inr (stopped.0, stopped.2) ];
      nothing = refl;
    }
    writing-left x y now OutOfMemory h = inr (inl (record { content = c; report = report; merges = is; ends = h.0; nothing = refl }))
    writing-left x y now _ h = absurd h

    module _ (now : Option Store) (named : 0 < length asked.out) (files : HoldsFiles held now asked.out c kept_files) (again : ReadsAgain held now asked.out c) where
      pub merged : IsMerged limit held asked now report
      merged = record { content = c; report = report; merges = is; named = named; files = files; again = again; of_report = refl }

      pub sending-left : (x y : ℕ) (r : Refusal) → IsSendingCause x y r → (part left : List ℕ) → report ≡ part ++ left → MergeLeaves limit held asked now part r
      sending-left x y OutputFailed h part left whole = record { text = report; left = left; is_text = merged; whole = whole }
      sending-left x y OutOfMemory h part left whole = inr (inr (record { text = report; left = left; is_text = merged; whole = whole }))
      sending-left x y _ h part left whole = absurd h

      -- how the merge ends whose report was to be sent out
      pub ends-merged : {A : Type 0} (a b : Device) (x y : Output) → a.held ≡ held → b.held ≡ now → first_bad_merge asked ≡ None → (r : Result A Refusal) → CallsFolders 29 a b r → IsSent report x y r
          → Ends (merge_plan limit held asked) (record { folders = a; output = x }) (record { folders = b; output = y }) (answer_of r)
      ends-merged a b x y before after none (Ok v) asks sent = record {
        done = (report, (refl, subst (λ (n : Option Store). IsMerged limit held asked n report) (sym after) merged), sent.sent);
        left = tt;
        refused = tt;
        told = tt;
        grows = sent.grows;
        no_failure = sent.no_failure;
        asks = asks-answered 29 a b (Ok v) asks;
      }
      ends-merged a b x y before after none (Err e) asks sent =
          let cut = sent.cut_short in
          record {
            done = tt;
            left = (
              cut.sent,
              subst (λ (n : Option Store). MergeLeaves limit held asked n cut.sent e) (sym after) (sending-left x.failures y.failures e sent.refused cut.sent cut.left cut.whole),
              cut.out,
            );
            refused = sending-cause (record { folders = a.failures; output = x.failures }) (record { folders = b.failures; output = y.failures }) none c report is named e sent.refused;
            told = sending-told x.failures y.failures e sent.refused;
            grows = sent.grows;
            no_failure = tt;
            asks = asks-answered 29 a b (Err e) asks;
          }
