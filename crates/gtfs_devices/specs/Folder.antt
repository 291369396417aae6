-- Folders of files: what they hold, and what their calls answer.
-- GTFS Schedule Reference, "Dataset Files": a dataset lies in one folder, each file under its own name.
-- The contents of a device may be unknown (None); then the words below that speak of them say nothing.
use Rattle.std.specs.Prelude.{ℕ, Bool, true, false, IsTrue, is_some, length, List, [], Option, Some, None, option_map, unwrap_or, IsSorted, ◌≡◌, ◌≢◌, ◌<◌, ◌≤◌, ⊤}
use Rattle.std.specs.FinMap as map
use Rattle.gtfs_field.specs.TextOrder.{text_cmp}
use Rattle.gtfs_devices.specs.Device.{Rises}
use Rattle.gtfs_devices.specs.declared.folders.FolderFault.{FolderFault}
use Rattle.gtfs_devices.specs.declared.folders.FolderFault.TheVariants.{Read, TooLarge, OutOfMemory, NoFolder, Write}

-- the files of a folder, from their names to their bytes
abbrev pub Files : Type 0
Files = map.FinMap text_cmp (List ℕ)

-- folders, from their names to their files
abbrev pub Store : Type 0
Store = map.FinMap text_cmp Files

-- the files of a folder, and none where there is no such folder
abbrev pub files_of : Store → List ℕ → Files
files_of store dir = unwrap_or (map.get store dir) map.empty

-- the names of a folder's files in byte order, where there is such a folder
abbrev pub names_in : Store → List ℕ → Option (List (List ℕ))
names_in store dir = option_map (λ files. map.keys files) (map.get store dir)

-- the file of a folder, if it has it, where there is such a folder
abbrev pub file_in : Store → List ℕ → List ℕ → Option (Option (List ℕ))
file_in store dir name = option_map (λ files. map.get files name) (map.get store dir)

-- the store with this file; its folder is made where it is absent
abbrev pub put : Store → List ℕ → List ℕ → List ℕ → Store
put store dir name bytes = map.insert store dir (map.insert (files_of store dir) name bytes)

-- the store with this folder, which is empty where it was absent
abbrev pub put_folder : Store → List ℕ → Store
put_folder store dir = map.insert store dir (files_of store dir)

-- names by their bytes, none before a lesser one
abbrev pub IsByBytes : List (List ℕ) → Type 0
IsByBytes = IsSorted text_cmp

-- ---- what a call answers, beside what the device tells that it holds

-- the names are those that the folder has
abbrev pub Lists : Option Store → List ℕ → List (List ℕ) → Type 0
Lists None dir names = ⊤
Lists (Some store) dir names = names_in store dir ≡ Some names

-- a folder's file was read, or was not there
abbrev pub Finds : Option Store → List ℕ → List ℕ → Option (List ℕ) → Type 0
Finds None dir name file = ⊤
Finds (Some store) dir name file = file_in store dir name ≡ Some file

-- a folder's file of no more than the limit is all that was taken; has_taken holds of all bytes that a reader took
pub record LendsFile (held : Option Store) (limit : ℕ) (dir name : List ℕ) (has_taken : List ℕ → Type 0) : Type 0 where
  pub bytes : List ℕ
  pub finds : Finds held dir name (Some bytes)
  pub within : length bytes ≤ limit
  pub taken : has_taken bytes

-- a folder's file was lent to a reader, or was not there and nothing was taken
abbrev pub Lends : Option Store → ℕ → List ℕ → List ℕ → (List ℕ → Type 0) → Bool → Type 0
Lends held limit dir name has_taken true = LendsFile held limit dir name has_taken
Lends held limit dir name has_taken false = Finds held dir name None × has_taken []

-- there is no such folder
abbrev pub LacksFolder : Option Store → List ℕ → Type 0
LacksFolder None dir = ⊤
LacksFolder (Some store) dir = map.get store dir ≡ None

-- there is such a file, and it is longer than the limit
abbrev pub HasFileOver : ℕ → Option Store → List ℕ → List ℕ → Type 0
HasFileOver limit None dir name = ⊤
HasFileOver limit (Some store) dir name = (bytes : List ℕ) × (file_in store dir name ≡ Some (Some bytes)) × (limit < length bytes)

-- the device holds these bytes in that file, and else what it held
abbrev pub Writes : Option Store → Option Store → List ℕ → List ℕ → List ℕ → Type 0
Writes None new dir name bytes = ⊤
Writes (Some old) new dir name bytes = new ≡ Some (put old dir name bytes)

-- each other folder and each other file is as it was, and no folder went
pub record DiffersAt (old new : Store) (dir name : List ℕ) : Type 0 where
  pub folders : (other : List ℕ) → other ≢ dir → map.get new other ≡ map.get old other
  pub files : (other : List ℕ) → other ≢ name → map.get (files_of new dir) other ≡ map.get (files_of old dir) other
  pub stays : IsTrue (is_some (map.get old dir)) → IsTrue (is_some (map.get new dir))

-- that one file is open, and all else is as it was
abbrev pub Disturbs : Option Store → Option Store → List ℕ → List ℕ → Type 0
Disturbs None new dir name = ⊤
Disturbs (Some old) new dir name = (store : Store) × (new ≡ Some store) × DiffersAt old store dir name

-- ---- why a call was refused; the counts are those of failures, before the call and after it

-- the count rose where the device failed, and stayed as it was at each other fault
abbrev pub CountsFault : FolderFault → ℕ → ℕ → Type 0
CountsFault Read before after = Rises before after
CountsFault TooLarge before after = after ≡ before
CountsFault OutOfMemory before after = after ≡ before
CountsFault NoFolder before after = after ≡ before
CountsFault Write before after = Rises before after

-- `names` is refused for a fault of the device, a folder that is not there, or want of memory
abbrev pub RefusesNames : FolderFault → Option Store → List ℕ → ℕ → ℕ → Type 0
RefusesNames Read told dir before after = Rises before after
RefusesNames TooLarge told dir before after = ⊥
RefusesNames OutOfMemory told dir before after = ⊤
RefusesNames NoFolder told dir before after = LacksFolder told dir
RefusesNames Write told dir before after = ⊥

-- `read` is refused for these and for a file over the limit
abbrev pub RefusesRead : FolderFault → ℕ → Option Store → List ℕ → List ℕ → ℕ → ℕ → Type 0
RefusesRead Read limit told dir name before after = Rises before after
RefusesRead TooLarge limit told dir name before after = HasFileOver limit told dir name
RefusesRead OutOfMemory limit told dir name before after = ⊤
RefusesRead NoFolder limit told dir name before after = LacksFolder told dir
RefusesRead Write limit told dir name before after = ⊥

-- `write` is refused for want of memory, and then nothing changed, or for a fault of the device
abbrev pub RefusesWrite : FolderFault → Option Store → Option Store → List ℕ → List ℕ → ℕ → ℕ → Type 0
RefusesWrite Read old new dir name before after = ⊥
RefusesWrite TooLarge old new dir name before after = ⊥
RefusesWrite OutOfMemory old new dir name before after = new ≡ old
RefusesWrite NoFolder old new dir name before after = ⊥
RefusesWrite Write old new dir name before after = Rises before after × Disturbs old new dir name
