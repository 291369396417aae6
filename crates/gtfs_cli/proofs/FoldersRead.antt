-- Why tables, feeds, files and zones are not read.
use Rattle.std.proofs.Common.{◌≡◌, ℕ, ◌<◌, length, inl, List, Option}
use Rattle.gtfs_devices.specs.Folder.{CountsFault, RefusesRead, Store}
use Rattle.gtfs_devices.specs.declared.folders.FolderFault.{FolderFault}
use Rattle.gtfs_devices.specs.declared.folders.FolderFault.TheVariants as faults
use Rattle.gtfs_table.specs.Tables.{Dataset}
use Rattle.gtfs_rows.specs.declared.parts.Parts.{Parts as Feed}
use Rattle.gtfs_cli.specs.FilesInFolders.{HoldsFeed, HoldsPassing, HoldsTables, IsFileOf}
use Rattle.gtfs_cli.specs.ReadingCauses.{IsFeedCause, IsFileCause, IsPathCause, IsZoneCause, IsReadingCause, IsTablesCause}
use Rattle.gtfs_cli.specs.declared.commands.refusal.Refusal.{Refusal}
use Rattle.gtfs_cli.specs.declared.commands.refusal.Refusal.TheVariants.{HasErrors, NoZone, OutOfMemory}

-- ---- the feed of a folder

-- what keeps its tables from being read keeps its feed from being read
pub tables-cause : (limit : ℕ) (held : Option Store) (dir : List ℕ) (before after : ℕ) (r : Refusal) → IsTablesCause limit held dir before after r
    → IsReadingCause limit held dir before after r
tables-cause limit held dir before after (HasErrors path) h = absurd h
tables-cause limit held dir before after _ h = h

-- and so does what its tables hold
pub feed-cause : (limit : ℕ) (held : Option Store) (dir : List ℕ) (before after : ℕ) → after ≡ before → (d : Dataset) → HoldsTables limit held dir d → (r : Refusal)
    → IsFeedCause d dir r → IsReadingCause limit held dir before after r
feed-cause limit held dir before after same d holds (HasErrors path) h = (h.0, (d, holds, h.1))
feed-cause limit held dir before after same d holds OutOfMemory h = same
feed-cause limit held dir before after same d holds _ h = absurd h

pub has-passing : (limit : ℕ) (held : Option Store) (dir : List ℕ) (feed : Feed) → HoldsFeed limit held dir feed → HoldsPassing limit held dir
has-passing limit held dir feed h = (h.dataset, h.holds, h.is_feed.0)

-- ---- a file that the words name

pub file-cause : (limit : ℕ) (held : Option Store) (path : List ℕ) (before after : ℕ) (folder name : List ℕ) (fault : FolderFault) → IsFileOf path folder name → 0 < length name
    → CountsFault fault before after → RefusesRead fault limit held folder name before after → IsFileCause limit held path before after fault
file-cause limit held path before after folder name faults.Read of named count h = h
file-cause limit held path before after folder name faults.TooLarge of named count h = record { folder = folder; name = name; file = of; fact = (named, h) }
file-cause limit held path before after folder name faults.OutOfMemory of named count h = count
file-cause limit held path before after folder name faults.NoFolder of named count h = record { folder = folder; name = name; file = of; fact = (named, inl h) }
file-cause limit held path before after folder name faults.Write of named count h = h

-- what keeps a file from being read keeps it from being a zone file
pub path-cause : (limit : ℕ) (held : Option Store) (path : List ℕ) (before after : ℕ) (r : Refusal) → IsPathCause limit held path before after r
    → IsZoneCause limit held path before after r
path-cause limit held path before after (NoZone named) h = absurd h
path-cause limit held path before after _ h = h
