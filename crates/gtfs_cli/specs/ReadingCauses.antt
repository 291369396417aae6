-- Why a file that the words name is not read, or is no zone file, and why the tables of a folder or its feed are not read.
use Rattle.std.specs.Prelude.{◌≡◌, ◌⊎◌, ⊤, ℕ, List, Option}
use Rattle.gtfs_devices.specs.Device.{Rises}
use Rattle.gtfs_devices.specs.Folder.{Store}
use Rattle.gtfs_devices.specs.declared.folders.FolderFault.{FolderFault}
use Rattle.gtfs_devices.specs.declared.folders.FolderFault.TheVariants as faults
use Rattle.gtfs_table.specs.Tables.{Dataset}
use Rattle.gtfs_schema.specs.Problems.{Passes}
use Rattle.gtfs_cli.specs.FilesInFolders.{HoldsErrors, HoldsFile, HoldsKeptFile, HoldsNoZone, LacksFeed, LacksFile, NamesNoFile}
use Rattle.gtfs_cli.specs.declared.commands.refusal.Refusal.{Refusal}
use Rattle.gtfs_cli.specs.declared.commands.refusal.Refusal.TheVariants.{NotThere, Unreadable, OverLimit, HasErrors, NoZone, OutOfMemory}

-- why the folders do not read the file of a path; the counts are those of their failures, before and after
abbrev pub IsFileCause : ℕ → Option Store → List ℕ → ℕ → ℕ → FolderFault → Type 0
IsFileCause limit held path before after faults.Read = Rises before after
IsFileCause limit held path before after faults.TooLarge = HoldsFile limit held path
IsFileCause limit held path before after faults.OutOfMemory = after ≡ before
IsFileCause limit held path before after faults.NoFolder = LacksFile held path
IsFileCause limit held path before after faults.Write = ⊥

-- why the file of a path is not read, and that the refusal names the path; the counts are those of the folders' failures, before and after
abbrev pub IsPathCause : ℕ → Option Store → List ℕ → ℕ → ℕ → Refusal → Type 0
IsPathCause limit held path before after (NotThere named) = (named.now ≡ path) × LacksFile held path
IsPathCause limit held path before after (Unreadable named) = (named.now ≡ path) × (Rises before after ⊎ NamesNoFile path)
IsPathCause limit held path before after (OverLimit named) = (named.now ≡ path) × HoldsFile limit held path
IsPathCause limit held path before after OutOfMemory = after ≡ before
IsPathCause limit held path before after _ = ⊥

-- why there is no zone of the file of a path
abbrev pub IsZoneCause : ℕ → Option Store → List ℕ → ℕ → ℕ → Refusal → Type 0
IsZoneCause limit held path before after (NoZone named) = (named.now ≡ path) × HoldsNoZone limit held path
IsZoneCause limit held path before after refusal = IsPathCause limit held path before after refusal

-- why the tables of a folder are not read, and that the refusal names the folder; the counts are those of the folders' failures, before and after
abbrev pub IsTablesCause : ℕ → Option Store → List ℕ → ℕ → ℕ → Refusal → Type 0
IsTablesCause limit held dir before after (NotThere path) = (path.now ≡ dir) × LacksFeed held dir
IsTablesCause limit held dir before after (Unreadable path) = (path.now ≡ dir) × Rises before after
IsTablesCause limit held dir before after (OverLimit path) = (path.now ≡ dir) × HoldsKeptFile limit held dir
IsTablesCause limit held dir before after OutOfMemory = after ≡ before
IsTablesCause limit held dir before after _ = ⊥

-- why its feed is not read
abbrev pub IsReadingCause : ℕ → Option Store → List ℕ → ℕ → ℕ → Refusal → Type 0
IsReadingCause limit held dir before after (HasErrors path) = (path.now ≡ dir) × HoldsErrors limit held dir
IsReadingCause limit held dir before after refusal = IsTablesCause limit held dir before after refusal

-- why there is no feed of a dataset
abbrev pub IsFeedCause : Dataset → List ℕ → Refusal → Type 0
IsFeedCause d dir (HasErrors path) = (path.now ≡ dir) × (Passes d → ⊥)
IsFeedCause d dir OutOfMemory = ⊤
IsFeedCause d dir _ = ⊥
