-- What the folders hold under a path: a file, a zone file, a text, and the folder of a feed.
-- These definitions say nothing about folders whose contents are unknown, such as those of a disk.
use Rattle.std.specs.Prelude.{◌≡◌, ◌≢◌, ◌<◌, ◌≤◌, ◌++◌, ◌⊎◌, ℕ, slice_index, codes, length, List, [], ◌∷◌, Option, Some, None, IsUtf8}
use Rattle.std.specs.Path.{slash}
use Rattle.gtfs_days.specs.Zone.{IsTooLong, IsUnreadable, IsZoneOf}
use Rattle.gtfs_days.specs.declared.zone.Zone.{Zone}
use Rattle.gtfs_table.specs.FileNames.{file_name}
use Rattle.gtfs_devices.specs.Folder.{Store, Finds, HasFileOver, LacksFolder}
use Rattle.gtfs_table.specs.TablesRead.{kept_files, AllHoldWithin, HoldsDataset}
use Rattle.gtfs_table.specs.Tables.{without_marks, Dataset}
use Rattle.gtfs_table.specs.declared.file.File.{File}
use Rattle.gtfs_schema.specs.Problems.{Passes}
use Rattle.gtfs_rows.specs.ContentRead.{content_of}
use Rattle.gtfs_rows.specs.RowsInMemory.{content_of_parts}
use Rattle.gtfs_rows.specs.declared.parts.Parts.{Parts as Feed}

-- ---- the file that a path names

-- no byte is a slash
abbrev pub LacksSlash : List ℕ → Type 0
LacksSlash text = (i : ℕ) → i < length text → slice_index text i ≢ slash

-- a file's name is what stands after the last slash of its path, and its folder what stands before it; the folder is `.`
-- where there is no slash, and `/` where nothing stands before it
pub record IsFileOf (path folder name : List ℕ) : Type 0 where
  pub last : LacksSlash name
  pub cut : ((path ≡ name) × (folder ≡ codes ".")) ⊎ (((path ≡ slash ∷ name) × (folder ≡ codes "/")) ⊎ ((path ≡ folder ++ slash ∷ name) × (0 < length folder)))

-- this is so of the folder and the name that a path stands for
pub record OfFile (path : List ℕ) (Fact : List ℕ → List ℕ → Type 0) : Type 0 where
  pub folder : List ℕ
  pub name : List ℕ
  pub file : IsFileOf path folder name
  pub fact : Fact folder name

-- the file has a name, under which the folders hold these bytes
abbrev pub HasBytes : Option Store → List ℕ → List ℕ → List ℕ → Type 0
HasBytes held bytes folder name = (0 < length name) × Finds held folder name (Some bytes)

-- the folders hold these bytes under the path, and no more than the limit
abbrev pub HoldsBytes : ℕ → Option Store → List ℕ → List ℕ → Type 0
HoldsBytes limit held path bytes = OfFile path (HasBytes held bytes) × (length bytes ≤ limit)

-- the path names a file, and they hold one over the limit under it
abbrev pub HoldsFile : ℕ → Option Store → List ℕ → Type 0
HoldsFile limit held path = OfFile path (λ folder name. (0 < length name) × HasFileOver limit held folder name)

-- the path names a file, and there is no such file, or not its folder
abbrev pub LacksFile : Option Store → List ℕ → Type 0
LacksFile held path = OfFile path (λ folder name. (0 < length name) × (LacksFolder held folder ⊎ Finds held folder name None))

-- the path ends in a slash, or is empty
abbrev pub NamesNoFile : List ℕ → Type 0
NamesNoFile path = OfFile path (λ folder name. name ≡ [])

-- a zone file may have so many bytes
abbrev pub FitsZone : List ℕ → Type 0
FitsZone bytes = IsTooLong bytes → ⊥

-- the zone is that of the bytes under the path, which are no more than a zone file may have
pub record HoldsZone (limit : ℕ) (held : Option Store) (path : List ℕ) (zone : Zone) : Type 0 where
  pub bytes : List ℕ
  pub holds : HoldsBytes limit held path bytes
  pub fits : FitsZone bytes
  pub is_zone : IsZoneOf bytes zone

-- the bytes under the path are no zone file
pub record HoldsNoZone (limit : ℕ) (held : Option Store) (path : List ℕ) : Type 0 where
  pub bytes : List ℕ
  pub holds : HoldsBytes limit held path bytes
  pub unreadable : IsUnreadable bytes

-- there is a zone of the file of a path
abbrev pub HoldsSomeZone : ℕ → Option Store → List ℕ → Type 0
HoldsSomeZone limit held path = (zone : Zone) × HoldsZone limit held path zone

-- the folders hold these bytes under the path, and they are UTF-8 past their byte order marks
abbrev pub HoldsUtf8 : ℕ → Option Store → List ℕ → List ℕ → Type 0
HoldsUtf8 limit held path bytes = HoldsBytes limit held path bytes × IsUtf8 (without_marks bytes)

-- they hold bytes under the path that are not
abbrev pub HoldsNoUtf8 : ℕ → Option Store → List ℕ → Type 0
HoldsNoUtf8 limit held path = (bytes : List ℕ) × HoldsBytes limit held path bytes × (IsUtf8 (without_marks bytes) → ⊥)

-- ---- the folder of the feed

-- there is no such folder, as none has an empty name
abbrev pub LacksFeed : Option Store → List ℕ → Type 0
LacksFeed held dir = (dir ≡ []) ⊎ LacksFolder held dir

-- it has a name and holds one of the files that are read, and that is over the limit
abbrev pub HoldsKeptFile : ℕ → Option Store → List ℕ → Type 0
HoldsKeptFile limit held dir = (0 < length dir) × (x : File) × HasFileOver limit held dir (file_name x)

-- the folder has a name, it holds this dataset, and none of its files is over the limit
pub record HoldsTables (limit : ℕ) (held : Option Store) (dir : List ℕ) (d : Dataset) : Type 0 where
  pub named : 0 < length dir
  pub holds : HoldsDataset held dir d
  pub within : AllHoldWithin limit held dir kept_files

-- the dataset of the folder passes
abbrev pub HoldsPassing : ℕ → Option Store → List ℕ → Type 0
HoldsPassing limit held dir = (d : Dataset) × HoldsTables limit held dir d × Passes d

-- the dataset that the folder holds does not pass
abbrev pub HoldsErrors : ℕ → Option Store → List ℕ → Type 0
HoldsErrors limit held dir = (d : Dataset) × HoldsTables limit held dir d × (Passes d → ⊥)

-- the dataset passes, and the feed is its content
abbrev pub IsFeedOf : Dataset → Feed → Type 0
IsFeedOf d feed = Passes d × (content_of_parts feed ≡ content_of d)

-- it is the feed of the dataset that the folder holds
pub record HoldsFeed (limit : ℕ) (held : Option Store) (dir : List ℕ) (feed : Feed) : Type 0 where
  pub dataset : Dataset
  pub holds : HoldsTables limit held dir dataset
  pub is_feed : IsFeedOf dataset feed
