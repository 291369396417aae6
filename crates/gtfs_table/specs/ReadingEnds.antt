-- Where a reading of a folder ended that was refused.
use Rattle.std.specs.Prelude.{ℕ, length, List, ◌∷◌, ◌++◌, Option, ◌≡◌, ◌+◌, ◌⊎◌}
use Rattle.gtfs_devices.specs.Device.{Calls, MakesCalls}
use Rattle.gtfs_table.specs.FileNames.{file_name}
use Rattle.gtfs_devices.specs.Folder.{Store, RefusesNames, RefusesRead}
use Rattle.gtfs_table.specs.TablesRead.{kept_files, AllHoldWithin}
use Rattle.gtfs_table.specs.declared.file.File.{File}
use Rattle.gtfs_devices.specs.declared.folders.FolderFault.{FolderFault}

-- The counts are those of failures, before the reading and after it; then come the calls before and after.

-- the names of the folder were refused, and asked for by one call
pub record EndsAtNames (fault : FolderFault) (told : Option Store) (dir : List ℕ) (before after : ℕ) (old new : Option Calls) : Type 0 where
  pub refused : RefusesNames fault told dir before after
  pub called : MakesCalls 1 old new

-- a kept file was refused; each one before it is within the limit, and there was one call for each of these and for it
pub record EndsAtFile (fault : FolderFault) (limit : ℕ) (told : Option Store) (dir : List ℕ) (before after : ℕ) (old new : Option Calls) : Type 0 where
  pub earlier : List File
  pub file : File
  pub later : List File
  pub order : earlier ++ file ∷ later ≡ kept_files
  pub within : AllHoldWithin limit told dir earlier
  pub refused : RefusesRead fault limit told dir (file_name file) before after
  pub called : MakesCalls (length earlier + 1) old new

-- the reading ended at the names, or at a file after one call for the names
abbrev pub EndsReading : FolderFault → ℕ → Option Store → List ℕ → ℕ → ℕ → Option Calls → Option Calls → Type 0
EndsReading fault limit told dir before after old new =
    EndsAtNames fault told dir before after old new ⊎ ((named : Option Calls) × MakesCalls 1 old named × EndsAtFile fault limit told dir before after named new)
