-- What a folder holds is judged in one way.
use Rattle.std.proofs.Common.{◌≡◌, ◌≢◌, ◌⊎◌, ◌∙◌, ap, sym, subst, refl, ℕ, ◌<◌, inl, inr, List, [], length, Option, Some, codes, arith}
use Rattle.std.specs.Prelude.{option_map, unwrap_or}
use Rattle.std.specs.List.{All}
use Rattle.std.specs.FinMap as map
use Rattle.gtfs_devices.specs.Device.{Rises}
use Rattle.gtfs_devices.specs.Folder.{Store}
use Rattle.gtfs_table.specs.TablesRead.{dataset_of, kept_files, HoldsWithin}
use Rattle.gtfs_table.specs.Tables.{Dataset}
use Rattle.gtfs_table.specs.declared.file.File.{File}
use Rattle.gtfs_table.specs.declared.file.File.TheVariants as file
use Rattle.gtfs_schema.specs.Problems.{Passes}
use Rattle.gtfs_cli.specs.FilesInFolders.{HoldsErrors, HoldsKeptFile, HoldsPassing, HoldsTables, LacksFeed}
use Rattle.gtfs_cli.specs.RefusalOrder.{feed, tables}
use Rattle.gtfs_cli.specs.RefusalMessages.{line_of}
use Rattle.gtfs_cli.specs.CommandOutcomes.{IsPlainRefusal}
use Rattle.gtfs_cli.specs.ReadingCauses.{IsReadingCause, IsTablesCause}
use Rattle.gtfs_cli.specs.declared.commands.refusal.Refusal.{Refusal}
use Rattle.gtfs_cli.specs.declared.commands.refusal.Refusal.TheVariants.{NotThere, Unreadable, OverLimit, HasErrors, OutOfMemory}
use Rattle.gtfs_cli.proofs.OneRefusal.{alike, line-at, Alike, Excludes, One, Quiet, Says}

-- ---- what folders hold

module _ (limit : ℕ) (store : Store) (dir : List ℕ) where
  pub one_dataset : (d e : Dataset) → HoldsTables limit (Some store) dir d → HoldsTables limit (Some store) dir e → d ≡ e
  one_dataset d e h k = ap (λ (o : Option Dataset). unwrap_or o d) (sym h.holds ∙ k.holds)

  nameless : 0 < length dir → dir ≡ [] → ⊥
  nameless named none = let no : 0 < length dir = named in omega (arith, no, ap (λ (t : List ℕ). length t) none)

  pub not_lacking : (d : Dataset) → HoldsTables limit (Some store) dir d → LacksFeed (Some store) dir → ⊥
  not_lacking d h (inl none) = nameless h.named none
  not_lacking d h (inr none) = cc (ap (option_map dataset_of) (sym none) ∙ h.holds)

  pub not_lacking_over : LacksFeed (Some store) dir → HoldsKeptFile limit (Some store) dir → ⊥
  not_lacking_over (inl none) over = nameless over.0 none
  not_lacking_over (inr none) over = cc (sym (ap (option_map (λ files. map.get files _)) none) ∙ over.2.1)

  each_kept : (P : File → Type 0) → All P kept_files → (x : File) → P x
  each_kept P all file.Agency = all 0 file.Agency (omega arith)
  each_kept P all file.Stops = all 1 file.Agency (omega arith)
  each_kept P all file.Routes = all 2 file.Agency (omega arith)
  each_kept P all file.Trips = all 3 file.Agency (omega arith)
  each_kept P all file.StopTimes = all 4 file.Agency (omega arith)
  each_kept P all file.Calendar = all 5 file.Agency (omega arith)
  each_kept P all file.CalendarDates = all 6 file.Agency (omega arith)
  each_kept P all file.Frequencies = all 7 file.Agency (omega arith)
  each_kept P all file.Transfers = all 8 file.Agency (omega arith)

  pub not_over : (d : Dataset) → HoldsTables limit (Some store) dir d → HoldsKeptFile limit (Some store) dir → ⊥
  not_over d h over =
      let x = over.1 in
      let bytes = over.2.0 in
      let within = each_kept (HoldsWithin limit (Some store) dir) h.within x bytes over.2.1 in
      omega (arith, within, over.2.2)

  pub not_errors : (d : Dataset) → HoldsTables limit (Some store) dir d → Passes d → HoldsErrors limit (Some store) dir → ⊥
  not_errors d h passing (e, holds, fails) = fails (subst Passes (one_dataset d e h holds) passing)

  -- ---- the tables

  abbrev Lacking : Refusal → Type 0
  Lacking r = LacksFeed (Some store) dir × Says r (line_of dir (codes " is not there")) 3

  abbrev Over : Refusal → Type 0
  Over r = HoldsKeptFile limit (Some store) dir × Says r (line_of dir (codes " holds a file over the limit")) 3

  tables-reason : (before after : ℕ) → (Rises before after → ⊥) → (r : Refusal) → r ≢ OutOfMemory → IsTablesCause limit (Some store) dir before after r → Lacking r ⊎ Over r
  tables-reason before after still (NotThere path) enough h = inl (h.1, (line-at path.now dir (codes " is not there") h.0, refl))
  tables-reason before after still (Unreadable path) enough h = absurd (still h.1)
  tables-reason before after still (OverLimit path) enough h = inr (h.1, (line-at path.now dir (codes " holds a file over the limit") h.0, refl))
  tables-reason before after still OutOfMemory enough h = absurd (enough refl)
  tables-reason before after still _ enough h = absurd h

  reason-of-tables : (r : Refusal) → IsPlainRefusal (tables limit (Some store) dir) r → Lacking r ⊎ Over r
  reason-of-tables r h = tables-reason h.before.folders h.after.folders h.nowhere.folders r h.enough h.cause

  one-reason : (r s : Refusal) → Lacking r ⊎ Over r → Lacking s ⊎ Over s → Alike r s
  one-reason r s (inl a) (inl b) = alike r s (line_of dir (codes " is not there")) 3 a.1 b.1
  one-reason r s (inl a) (inr b) = absurd (not_lacking_over a.0 b.0)
  one-reason r s (inr a) (inl b) = absurd (not_lacking_over b.0 a.0)
  one-reason r s (inr a) (inr b) = alike r s (line_of dir (codes " holds a file over the limit")) 3 a.1 b.1

  no-reason : (d : Dataset) → HoldsTables limit (Some store) dir d → (r : Refusal) → Lacking r ⊎ Over r → ⊥
  no-reason d holds r (inl a) = not_lacking d holds a.0
  no-reason d holds r (inr a) = not_over d holds a.0

  pub one-tables : One (tables limit (Some store) dir)
  one-tables r s g h = one-reason r s (reason-of-tables r g) (reason-of-tables s h)

  pub excludes-tables : Excludes ((d : Dataset) × HoldsTables limit (Some store) dir d) (tables limit (Some store) dir)
  excludes-tables holds r h = no-reason holds.0 holds.1 r (reason-of-tables r h)

  pub quiet-tables : Quiet (tables limit (Some store) dir)
  quiet-tables h = h.cause

  -- ---- the feed

  abbrev Errors : Refusal → Type 0
  Errors r = HoldsErrors limit (Some store) dir × Says r (line_of dir (codes " has errors")) 1

  feed-reason : (before after : ℕ) → (Rises before after → ⊥) → (r : Refusal) → r ≢ OutOfMemory → IsReadingCause limit (Some store) dir before after r
      → Errors r ⊎ (Lacking r ⊎ Over r)
  feed-reason before after still (HasErrors path) enough h = inl (h.1, (line-at path.now dir (codes " has errors") h.0, refl))
  feed-reason before after still (NotThere path) enough h = inr (tables-reason before after still (NotThere path) enough h)
  feed-reason before after still (Unreadable path) enough h = absurd (still h.1)
  feed-reason before after still (OverLimit path) enough h = inr (tables-reason before after still (OverLimit path) enough h)
  feed-reason before after still OutOfMemory enough h = absurd (enough refl)
  feed-reason before after still _ enough h = absurd h

  reason-of-feed : (r : Refusal) → IsPlainRefusal (feed limit (Some store) dir) r → Errors r ⊎ (Lacking r ⊎ Over r)
  reason-of-feed r h = feed-reason h.before.folders h.after.folders h.nowhere.folders r h.enough h.cause

  pub one-feed : One (feed limit (Some store) dir)
  one-feed r s g h = by (reason-of-feed r g) (reason-of-feed s h)
    where
      by : Errors r ⊎ (Lacking r ⊎ Over r) → Errors s ⊎ (Lacking s ⊎ Over s) → Alike r s
      by (inl a) (inl b) = alike r s (line_of dir (codes " has errors")) 1 a.1 b.1
      by (inl a) (inr b) = absurd (no-reason a.0.0 a.0.1 s b)
      by (inr a) (inl b) = absurd (no-reason b.0.0 b.0.1 r a)
      by (inr a) (inr b) = one-reason r s a b

  pub excludes-feed : Excludes (HoldsPassing limit (Some store) dir) (feed limit (Some store) dir)
  excludes-feed holds r h = elim (reason-of-feed r h) [ inl a ↦ not_errors holds.0 holds.1 holds.2 a.0 | inr a ↦ no-reason holds.0 holds.1 r a ]

  pub quiet-feed : Quiet (feed limit (Some store) dir)
  quiet-feed h = h.cause
