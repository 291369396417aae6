-- What `gtfs merge` makes of two folders: the merged feed, the files of its written form, and its report.
use Rattle.std.specs.Prelude.{◌≡◌, ◌<◌, ◌⊎◌, ⊤, ℕ, true, false, length, List, [], ◌∷◌, ◌++◌, Option, Some, None, unwrap_or}
use Rattle.gtfs_devices.specs.Device.{Rises}
use Rattle.gtfs_table.specs.FileNames.{file_name}
use Rattle.gtfs_devices.specs.Folder.{put, Disturbs, Store}
use Rattle.gtfs_table.specs.TablesRead.{kept_files, HoldsDataset}
use Rattle.gtfs_table.specs.Tables.{table_of, Dataset}
use Rattle.gtfs_table.specs.TableTexts.{text_of_table}
use Rattle.gtfs_table.specs.declared.file.File.{File}
use Rattle.gtfs_schema.specs.Problems.{Passes}
use Rattle.gtfs_rows.specs.Content.{Content}
use Rattle.gtfs_rows.specs.ContentRead.{content_of}
use Rattle.gtfs_rows.specs.WrittenContent.{written}
use Rattle.gtfs_rows.specs.TrimmedContent.{first_part, second_part}
use Rattle.gtfs_merge.specs.Cutoff.{merged_as}
use Rattle.gtfs_merge.specs.Merged.{is_too_large, zone_texts_differ}
use Rattle.gtfs_merge.specs.Merging.{KeepsDepartures}
use Rattle.gtfs_merge.specs.NearStops.{report as report_of}
use Rattle.gtfs_commands.specs.Words.{MergeTexts}
use Rattle.gtfs_cli.specs.MergeOptions.{judged_merge, IsMergeRequest, MergeRequest}
use Rattle.gtfs_cli.specs.FilesInFolders.{HoldsPassing, HoldsTables}
use Rattle.gtfs_cli.specs.ReadingCauses.{IsReadingCause}
use Rattle.gtfs_cli.specs.SentText.{Begins}
use Rattle.gtfs_cli.specs.RefusalOrder.{feed, followed_by, sending, values, Judged}
use Rattle.gtfs_cli.specs.CommandPlan.{Plan}
use Rattle.gtfs_cli.specs.declared.commands.refusal.Refusal.{Refusal}
use Rattle.gtfs_cli.specs.declared.commands.refusal.Refusal.TheVariants.{ZonesDiffer, MergeTooLarge, Unwritable, OutputFailed, OutOfMemory}

-- the most bytes that a written file may have
abbrev pub file_limit : ℕ
file_limit = 1_073_741_824

-- ---- the merge of two folders

-- what a merge is made of: the datasets that both folders hold and that pass, and the values of the options
pub record MergeSetting (limit : ℕ) (held : Option Store) (asked : MergeTexts) : Type 0 where
  pub first : Dataset
  pub second : Dataset
  pub request : MergeRequest
  pub holds_first : HoldsTables limit held asked.a first
  pub first_passes : Passes first
  pub holds_second : HoldsTables limit held asked.b second
  pub second_passes : Passes second
  pub is_request : IsMergeRequest asked request

-- the merge of two feeds, as the values of the options say
abbrev pub merge_of : MergeRequest → Content → Content → Content
merge_of r a b = merged_as r.near r.cutoff a b

-- its report, which is that of the parts of both that a cutoff leaves
abbrev pub report_for : MergeRequest → Content → Content → List ℕ
report_for r a b = report_of r.near (first_part r.cutoff a) (second_part r.cutoff b)

-- both feeds have one zone; the content is their merge as the options say, with every departure on the days that a cutoff leaves to
-- each and every board; no file of its written form is over the limit, and the text is the report of the merge
pub record IsFolderMerge (limit : ℕ) (held : Option Store) (asked : MergeTexts) (c : Content) (report : List ℕ) : Type 0 where
  pub setting : MergeSetting limit held asked
  pub zone : zone_texts_differ (content_of setting.first) (content_of setting.second) ≡ false
  pub content : c ≡ merge_of setting.request (content_of setting.first) (content_of setting.second)
  pub small : is_too_large file_limit c ≡ false
  pub keeps : KeepsDepartures setting.request.near setting.request.cutoff (content_of setting.first) (content_of setting.second)
  pub is_report : report ≡ report_for setting.request (content_of setting.first) (content_of setting.second)

-- there is such a merge
abbrev pub CanMerge : ℕ → Option Store → MergeTexts → Type 0
CanMerge limit held asked = (c : Content) × (report : List ℕ) × IsFolderMerge limit held asked c report

-- both feeds have zones of different names
abbrev pub HasTwoZones : ℕ → Option Store → MergeTexts → Type 0
HasTwoZones limit held asked = (s : MergeSetting limit held asked) × (zone_texts_differ (content_of s.first) (content_of s.second) ≡ true)

-- they have one zone, and some file of their merge is over the limit
abbrev pub HasLargeMerge : ℕ → Option Store → MergeTexts → Type 0
HasLargeMerge limit held asked = (s : MergeSetting limit held asked) × (zone_texts_differ (content_of s.first) (content_of s.second) ≡ false)
    × (is_too_large file_limit (merge_of s.request (content_of s.first) (content_of s.second)) ≡ true)

-- ---- the files of the written form, in order

abbrev pub file_text : Content → File → List ℕ
file_text c x = unwrap_or (text_of_table (table_of (written c) x)) []

-- the folders with these files of the written form in one of them, which is made where it is absent; each takes the place of a file of its name
abbrev pub with_files : Content → List ℕ → List File → Store → Store
with_files c dir [] store = store
with_files c dir (x ∷ xs) store = with_files c dir xs (put store dir (file_name x) (file_text c x))

-- the device holds these files, and else what it held
abbrev pub HoldsFiles : Option Store → Option Store → List ℕ → Content → List File → Type 0
HoldsFiles None new dir c xs = ⊤
HoldsFiles (Some store) new dir c xs = new ≡ Some (with_files c dir xs store)

-- it holds the first some of the nine
pub record HoldsSome (old new : Option Store) (dir : List ℕ) (c : Content) : Type 0 where
  pub files : List File
  pub left : List File
  pub order : kept_files ≡ files ++ left
  pub holds : HoldsFiles old new dir c files

-- after these files were put there one more is open, and all else is as it was
abbrev pub DisturbsAfter : Option Store → Option Store → List ℕ → Content → List File → File → Type 0
DisturbsAfter None new dir c xs x = ⊤
DisturbsAfter (Some store) new dir c xs x = Disturbs (Some (with_files c dir xs store)) new dir (file_name x)

-- writing stopped at one of the nine, the content of which is open: those before it were written, and no later one
pub record StopsAtOne (old new : Option Store) (dir : List ℕ) (c : Content) : Type 0 where
  pub files : List File
  pub one : File
  pub left : List File
  pub order : kept_files ≡ files ++ one ∷ left
  pub disturbs : DisturbsAfter old new dir c files one

-- what the folder holds, read again, passes and has this content; this says nothing of a device whose contents are unknown
abbrev pub ReadsAgain : Option Store → Option Store → List ℕ → Content → Type 0
ReadsAgain None new dir c = ⊤
ReadsAgain (Some store) new dir c = (d : Dataset) → HoldsDataset new dir d → Passes d × (content_of d ≡ c)

-- ---- when a merge is refused

-- when two feeds are not merged
abbrev pub IsMergingCause : ℕ → Option Store → MergeTexts → Refusal → Type 0
IsMergingCause limit held asked ZonesDiffer = HasTwoZones limit held asked
IsMergingCause limit held asked MergeTooLarge = HasLargeMerge limit held asked
IsMergingCause limit held asked _ = ⊥

-- why two folders are not merged, the first of which is judged before the second; the counts are those of the folders' failures, before and
-- after
abbrev pub IsFoldersCause : ℕ → Option Store → MergeTexts → ℕ → ℕ → Refusal → Type 0
IsFoldersCause limit held asked before after refusal = IsReadingCause limit held asked.a before after refusal
    ⊎ (HoldsPassing limit held asked.a × (IsReadingCause limit held asked.b before after refusal
    ⊎ (HoldsPassing limit held asked.b × IsMergingCause limit held asked refusal)))

abbrev pub merging : ℕ → Option Store → MergeTexts → Judged
merging limit held asked = record { Refuses = λ before after. IsMergingCause limit held asked; Holds = CanMerge limit held asked }

-- when the third folder is not written; the counts are those of the folders' failures, before and after
abbrev pub IsWritingCause : MergeTexts → ℕ → ℕ → Refusal → Type 0
IsWritingCause asked before after (Unwritable path) = (path.now ≡ asked.out) × ((asked.out ≡ []) ⊎ Rises before after)
IsWritingCause asked before after _ = ⊥

abbrev pub writing : MergeTexts → Judged
writing asked = record { Refuses = λ before after. IsWritingCause asked before.folders after.folders; Holds = 0 < length asked.out }

-- the values, the first folder, the second, their merge and the third folder are judged in this order
abbrev pub merge_judges : ℕ → Option Store → MergeTexts → Judged
merge_judges limit held asked = followed_by (values (judged_merge asked)) (followed_by (feed limit held asked.a) (followed_by (feed limit held asked.b)
    (followed_by (merging limit held asked) (followed_by (writing asked) sending))))

-- ---- what the folders hold then, and what went out

-- all files of the merge were written, into a folder that has a name, and this is so of its report
pub record IsWritten (limit : ℕ) (held : Option Store) (asked : MergeTexts) (now : Option Store) (OfReport : List ℕ → Type 0) : Type 0 where
  pub content : Content
  pub report : List ℕ
  pub merges : IsFolderMerge limit held asked content report
  pub named : 0 < length asked.out
  pub files : HoldsFiles held now asked.out content kept_files
  pub again : ReadsAgain held now asked.out content
  pub of_report : OfReport report

-- the report went out whole
abbrev pub IsMerged : ℕ → Option Store → MergeTexts → Option Store → List ℕ → Type 0
IsMerged limit held asked now text = IsWritten limit held asked now (λ report. text ≡ report)

-- a beginning of it did
abbrev pub BeginsReport : ℕ → Option Store → MergeTexts → Option Store → List ℕ → Type 0
BeginsReport limit held asked now part = Begins (IsMerged limit held asked now) part

-- writing ended early, as this says of the content, and nothing went out
pub record IsUnwritten (limit : ℕ) (held : Option Store) (asked : MergeTexts) (part : List ℕ) (Ends : Content → Type 0) : Type 0 where
  pub content : Content
  pub report : List ℕ
  pub merges : IsFolderMerge limit held asked content report
  pub ends : Ends content
  pub nothing : part ≡ []

-- what the folders hold and what went out where a refusal came
abbrev pub MergeLeaves : ℕ → Option Store → MergeTexts → Option Store → List ℕ → Refusal → Type 0
MergeLeaves limit held asked now part (Unwritable path) =
    IsUnwritten limit held asked part (λ c. ((asked.out ≡ []) × (now ≡ held)) ⊎ ((0 < length asked.out) × StopsAtOne held now asked.out c))
MergeLeaves limit held asked now part OutputFailed = BeginsReport limit held asked now part
MergeLeaves limit held asked now part OutOfMemory = ((now ≡ held) × (part ≡ []))
    ⊎ (IsUnwritten limit held asked part (λ c. HoldsSome held now asked.out c) ⊎ BeginsReport limit held asked now part)
MergeLeaves limit held asked now part _ = (now ≡ held) × (part ≡ [])

-- the merge of two folders into a third
abbrev pub merge_plan : ℕ → Option Store → MergeTexts → Plan
merge_plan limit held asked = record {
  judges = merge_judges limit held asked;
  Done = λ now text failed. (failed ≡ false) × IsMerged limit held asked now text;
  Left = MergeLeaves limit held asked;
  calls = 29;
}

-- ---- what the parts of the work give

-- why two feeds are not merged
abbrev pub IsMergeFault : MergeRequest → Content → Content → Refusal → Type 0
IsMergeFault r a b ZonesDiffer = zone_texts_differ a b ≡ true
IsMergeFault r a b MergeTooLarge = (zone_texts_differ a b ≡ false) × (is_too_large file_limit (merge_of r a b) ≡ true)
IsMergeFault r a b OutOfMemory = ⊤
IsMergeFault r a b _ = ⊥

-- why a file is not written, and what the device holds then; the counts are those of its failures, before and after
abbrev pub IsFileEnd : Option Store → Option Store → ℕ → ℕ → List ℕ → File → Refusal → Type 0
IsFileEnd old new before after dir x (Unwritable path) = (path.now ≡ dir) × Rises before after × Disturbs old new dir (file_name x)
IsFileEnd old new before after dir x OutOfMemory = (new ≡ old) × (after ≡ before)
IsFileEnd old new before after dir x _ = ⊥

-- why the files of a feed are not all written, and what the device holds then
abbrev pub IsWritingEnd : Option Store → Option Store → ℕ → ℕ → List ℕ → Content → Refusal → Type 0
IsWritingEnd old new before after dir c (Unwritable path) =
    (path.now ≡ dir) × (((dir ≡ []) × (new ≡ old)) ⊎ ((0 < length dir) × Rises before after × StopsAtOne old new dir c))
IsWritingEnd old new before after dir c OutOfMemory = HoldsSome old new dir c × (after ≡ before)
IsWritingEnd old new before after dir c _ = ⊥
