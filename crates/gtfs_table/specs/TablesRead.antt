-- The tables of a folder's files, and why they could not be read.
-- GTFS Schedule Reference, "Dataset Files".
use Rattle.std.specs.Prelude.{ℕ, not, bytes_eq, filter, length, Bool, false, List, [], ◌∷◌, Option, Some, None, option_map, ◌≡◌, ◌≤◌, ⊤}
use Rattle.std.specs.List.{All, list_any}
use Rattle.std.specs.FinMap as map
use Rattle.gtfs_devices.specs.Device.{Rises}
use Rattle.gtfs_table.specs.FileNames.{file_name}
use Rattle.gtfs_devices.specs.Folder.{file_in, Files, Store, HasFileOver, IsByBytes, LacksFolder}
use Rattle.gtfs_table.specs.Tables.{Dataset, Table, table_of_bytes, with_table}
use Rattle.gtfs_table.specs.declared.file.File.{File}
use Rattle.gtfs_table.specs.declared.file.File.TheVariants as file
use Rattle.gtfs_devices.specs.declared.folders.FolderFault.{FolderFault}
use Rattle.gtfs_devices.specs.declared.folders.FolderFault.TheVariants.{Read, TooLarge, OutOfMemory, NoFolder, Write}

abbrev pub kept_files : List File
kept_files = file.Agency ∷ file.Stops ∷ file.Routes ∷ file.Trips ∷ file.StopTimes ∷ file.Calendar ∷ file.CalendarDates ∷ file.Frequencies ∷ file.Transfers ∷ []

-- whether a name is that of a kept file
abbrev pub is_kept : List ℕ → Bool
is_kept name = list_any (λ x. bytes_eq (file_name x) name) kept_files

-- the names that are none of the kept files
abbrev pub other_names : List (List ℕ) → List (List ℕ)
other_names names = filter (λ name. not (is_kept name)) names

-- the names of what else a folder holds: by their bytes, and none is that of a kept file
pub record AreOthers (names : List (List ℕ)) : Type 0 where
  pub ordered : IsByBytes names
  pub not_kept : All (λ name. is_kept name ≡ false) names

-- the table of a folder's file
abbrev pub table_in : Files → File → Table
table_in files x = table_of_bytes (map.get files (file_name x))

-- the tables of a folder, and its other names
abbrev pub dataset_of : Files → Dataset
dataset_of files = record {
  agency = table_in files file.Agency;
  stops = table_in files file.Stops;
  routes = table_in files file.Routes;
  trips = table_in files file.Trips;
  stop_times = table_in files file.StopTimes;
  calendar = table_in files file.Calendar;
  calendar_dates = table_in files file.CalendarDates;
  frequencies = table_in files file.Frequencies;
  transfers = table_in files file.Transfers;
  others = other_names (map.keys files);
}

-- ---- what a device answers, told is what it holds

-- the table is that of the folder's file
abbrev pub HoldsTable : Option Store → List ℕ → File → Table → Type 0
HoldsTable None dir x t = ⊤
HoldsTable (Some store) dir x t = option_map (λ files. table_in files x) (map.get store dir) ≡ Some t

-- the dataset is that of the folder
abbrev pub HoldsDataset : Option Store → List ℕ → Dataset → Type 0
HoldsDataset None dir d = ⊤
HoldsDataset (Some store) dir d = option_map dataset_of (map.get store dir) ≡ Some d

-- the folder's file of this name, where there is one, is no longer than the limit
abbrev pub HoldsWithin : ℕ → Option Store → List ℕ → File → Type 0
HoldsWithin limit None dir x = ⊤
HoldsWithin limit (Some store) dir x = (bytes : List ℕ) → file_in store dir (file_name x) ≡ Some (Some bytes) → length bytes ≤ limit

-- none of these files of the folder is longer than the limit
abbrev pub AllHoldWithin : ℕ → Option Store → List ℕ → List File → Type 0
AllHoldWithin limit told dir xs = All (λ x. HoldsWithin limit told dir x) xs

-- a dataset with the tables of these files in place of its own
abbrev pub tables_set : (File → Table) → List File → Dataset → Dataset
tables_set table [] d = d
tables_set table (x ∷ xs) d = tables_set table xs (with_table d x (table x))

-- the tables of these files are those of the folder, and the rest is as it was
abbrev pub SetsTables : Option Store → List ℕ → List File → Dataset → Dataset → Type 0
SetsTables None dir xs old new = ⊤
SetsTables (Some store) dir xs old new = (files : Files) → map.get store dir ≡ Some files → new ≡ tables_set (table_in files) xs old

-- reading a folder is refused for a fault of the device, for one of the kept files over its limit, for want
-- of memory, or for a folder that is not there; the counts are those of failures, before and after
abbrev pub RefusesDataset : FolderFault → ℕ → Option Store → List ℕ → ℕ → ℕ → Type 0
RefusesDataset Read limit told dir before after = Rises before after
RefusesDataset TooLarge limit told dir before after = (x : File) × HasFileOver limit told dir (file_name x)
RefusesDataset OutOfMemory limit told dir before after = ⊤
RefusesDataset NoFolder limit told dir before after = LacksFolder told dir
RefusesDataset Write limit told dir before after = ⊥
