-- Folders on a disk, which tell nothing of what they hold: what their answers rest on.
use Rattle.std.specs.Prelude.{ℕ, Bool, true, false, length, List, [], ◌∷◌, ◌++◌, Option, None, Some, Result, Ok, Err, ◌≡◌, ◌<◌, ◌≤◌, ◌⊎◌, ⊤, IfSome}
use Rattle.std.specs.Io.KnownBytes.{Appends, Consumes}
use Rattle.gtfs_devices.specs.Device.{counted, Calls}
use Rattle.gtfs_devices.specs.Folder.{Store}
use Rattle.std.specs.declared.io.ErrorKind.{ErrorKind}
use Rattle.std.specs.declared.io.ErrorKind.TheVariants.{NotFound, OutOfMemory as no_memory}
use Rattle.gtfs_devices.specs.declared.system.Entry.{Entry}
use Rattle.gtfs_devices.specs.declared.system.Entry.TheVariants.{File, Folder, Device, Other}
use Rattle.gtfs_devices.specs.declared.folders.FolderFault.{FolderFault}
use Rattle.gtfs_devices.specs.declared.folders.FolderFault.TheVariants.{Read, TooLarge, OutOfMemory, NoFolder, Write}

-- the greatest length of a file that is read, the most entries of a folder that is listed, and how many
-- calls failed
pub record Disk : Type 0 where
  pub limit : ℕ
  pub entries : ℕ
  pub failures : ℕ

-- it tells nothing of what it holds
abbrev pub told : Disk → Option Store
told disk = None

-- nor how often it was called
abbrev pub calls : Disk → Option Calls
calls disk = None

-- the state after a call that ended in a fault: the count rises where the device failed
abbrev pub after_fault : FolderFault → Disk → Disk
after_fault Read disk = record disk { failures = counted disk.failures }
after_fault TooLarge disk = disk
after_fault OutOfMemory disk = disk
after_fault NoFolder disk = disk
after_fault Write disk = record disk { failures = counted disk.failures }

-- why a folder is not listed, or a file is not opened
abbrev pub RefusesOpen : FolderFault → Type 0
RefusesOpen Read = ⊤
RefusesOpen TooLarge = ⊥
RefusesOpen OutOfMemory = ⊤
RefusesOpen NoFolder = ⊤
RefusesOpen Write = ⊥

-- a reader gave at most so many bytes
pub record GivesAtMost (most : ℕ) (old new : Option (List ℕ)) : Type 0 where
  pub bytes : List ℕ
  pub given : Consumes old new bytes
  pub few : length bytes ≤ most

-- a reader gave more bytes than the limit
pub record GivesMoreThan (limit : ℕ) (old new : Option (List ℕ)) : Type 0 where
  pub bytes : List ℕ
  pub given : Consumes old new bytes
  pub over : limit < length bytes

-- some file gave more bytes than the limit; remaining is what a file has left, where it tells that
pub record ReadsOver {F : Type 0} (remaining : F → Option (List ℕ)) (limit : ℕ) : Type 0 where
  pub before : F
  pub after : F
  pub more : GivesMoreThan limit (remaining before) (remaining after)

-- these bytes are all that some file had left, where it tells that
pub record IsAllOf {F : Type 0} (remaining : F → Option (List ℕ)) (bytes : List ℕ) : Type 0 where
  pub file : F
  pub all : IfSome (remaining file) (λ left. bytes ≡ left)

-- what a reader took is all that a file had left, where it tells that, and no more than the limit; has_taken holds of all bytes that the reader took
pub record TakesWhole (limit : ℕ) (left : Option (List ℕ)) (has_taken : List ℕ → Type 0) : Type 0 where
  pub bytes : List ℕ
  pub taken : has_taken bytes
  pub within : length bytes ≤ limit
  pub all : IfSome left (λ left. bytes ≡ left)

-- some file took all these bytes; contents is what a file holds, where it tells that
pub record TakesAll {F : Type 0} (contents : F → Option (List ℕ)) (bytes : List ℕ) : Type 0 where
  pub before : F
  pub after : F
  pub taken : Appends (contents before) (contents after) bytes

-- why a file is not read
abbrev pub RefusesFile : FolderFault → Type 0
RefusesFile Read = ⊤
RefusesFile TooLarge = ⊤
RefusesFile OutOfMemory = ⊤
RefusesFile NoFolder = ⊤
RefusesFile Write = ⊥

-- why a file that was opened is not read
abbrev pub RefusesReading : FolderFault → Type 0
RefusesReading Read = ⊤
RefusesReading TooLarge = ⊤
RefusesReading OutOfMemory = ⊤
RefusesReading NoFolder = ⊥
RefusesReading Write = ⊥

-- why a file is not written
abbrev pub RefusesStore : FolderFault → Type 0
RefusesStore Read = ⊥
RefusesStore TooLarge = ⊥
RefusesStore OutOfMemory = ⊤
RefusesStore NoFolder = ⊥
RefusesStore Write = ⊤

-- why the names of a folder that is there are not listed
abbrev pub RefusesListing : FolderFault → Type 0
RefusesListing Read = ⊤
RefusesListing TooLarge = ⊥
RefusesListing OutOfMemory = ⊤
RefusesListing NoFolder = ⊥
RefusesListing Write = ⊥

-- ---- what the system said before a disk told something; each relation is between a path and the answer

-- the path of a folder's file
abbrev pub path_in : List ℕ → List ℕ → List ℕ
path_in dir name = dir ++ 47 ∷ name

-- there is no folder of this path: it is empty, or it was not found and no entry has it
abbrev pub LacksDir : {A : Type 0} → (List ℕ → Result A ErrorKind → Type 0) → (List ℕ → Result Entry ErrorKind → Type 0) → List ℕ → Type 0
LacksDir asks looks dir = (dir ≡ []) ⊎ (asks dir (Err NotFound) × looks dir (Err NotFound))

-- the folder is there, and has no file of this path: it was not found, and no entry has it
abbrev pub LacksFile : (List ℕ → Result Entry ErrorKind → Type 0) → (List ℕ → Result Entry ErrorKind → Type 0) → List ℕ → List ℕ → Type 0
LacksFile finds looks dir path = finds path (Err NotFound) × looks path (Err NotFound) × finds dir (Ok Folder)

-- a file or a device, which alone is opened
abbrev pub IsOpenable : Entry → Type 0
IsOpenable File = ⊤
IsOpenable Folder = ⊥
IsOpenable Device = ⊤
IsOpenable Other = ⊥

-- what is written: a file or a device, or what is not there yet
abbrev pub IsWritable : Result Entry ErrorKind → Type 0
IsWritable (Ok entry) = IsOpenable entry
IsWritable (Err kind) = kind ≡ NotFound

-- this file of the path was just opened, when what there is had been found to be a file or a device
pub record IsOpened {F : Type 0} (finds : List ℕ → Result Entry ErrorKind → Type 0) (opens : List ℕ → Result F ErrorKind → Type 0) (path : List ℕ) (file : F) : Type 0 where
  pub entry : Entry
  pub found : finds path (Ok entry)
  pub openable : IsOpenable entry
  pub opened : opens path (Ok file)

-- what a folder has under a path is a file that was just opened, or the folder lacks it
abbrev pub OpensOrLacks : {F : Type 0} → (List ℕ → Result Entry ErrorKind → Type 0) → (List ℕ → Result Entry ErrorKind → Type 0) → (List ℕ → Result F ErrorKind → Type 0) → List ℕ → List ℕ → Option F → Type 0
OpensOrLacks finds looks opens dir path None = LacksFile finds looks dir path
OpensOrLacks finds looks opens dir path (Some file) = IsOpened finds opens path file

-- these bytes are all that was left in a file which was just opened
pub record ReadsOpened {F : Type 0} (finds : List ℕ → Result Entry ErrorKind → Type 0) (opens : List ℕ → Result F ErrorKind → Type 0) (remaining : F → Option (List ℕ)) (path bytes : List ℕ) : Type 0 where
  pub file : F
  pub opened : IsOpened finds opens path file
  pub all : IfSome (remaining file) (λ left. bytes ≡ left)

-- what is read of a folder's path is such bytes, or the folder lacks it
abbrev pub ReadsOrLacks : {F : Type 0} → (List ℕ → Result Entry ErrorKind → Type 0) → (List ℕ → Result Entry ErrorKind → Type 0) → (List ℕ → Result F ErrorKind → Type 0) → (F → Option (List ℕ)) → List ℕ → List ℕ → Option (List ℕ) → Type 0
ReadsOrLacks finds looks opens remaining dir path None = LacksFile finds looks dir path
ReadsOrLacks finds looks opens remaining dir path (Some bytes) = ReadsOpened finds opens remaining path bytes

-- what a reader took is all that was left in a file which was just opened, and no more than the limit
pub record LendsOpened {F : Type 0} (finds : List ℕ → Result Entry ErrorKind → Type 0) (opens : List ℕ → Result F ErrorKind → Type 0) (remaining : F → Option (List ℕ)) (path : List ℕ) (limit : ℕ) (has_taken : List ℕ → Type 0) : Type 0 where
  pub bytes : List ℕ
  pub taken : has_taken bytes
  pub within : length bytes ≤ limit
  pub reads : ReadsOpened finds opens remaining path bytes

-- a folder's path was lent so, or the folder lacks it and nothing was taken
abbrev pub LendsOrLacks : {F : Type 0} → (List ℕ → Result Entry ErrorKind → Type 0) → (List ℕ → Result Entry ErrorKind → Type 0) → (List ℕ → Result F ErrorKind → Type 0) → (F → Option (List ℕ)) → List ℕ → List ℕ → ℕ → (List ℕ → Type 0) → Bool → Type 0
LendsOrLacks finds looks opens remaining dir path limit has_taken true = LendsOpened finds opens remaining path limit has_taken
LendsOrLacks finds looks opens remaining dir path limit has_taken false = LacksFile finds looks dir path × has_taken []

-- a file that was just opened gave more bytes than the limit
pub record OverflowsOpened {F : Type 0} (finds : List ℕ → Result Entry ErrorKind → Type 0) (opens : List ℕ → Result F ErrorKind → Type 0) (remaining : F → Option (List ℕ)) (path : List ℕ) (limit : ℕ) : Type 0 where
  pub before : F
  pub after : F
  pub opened : IsOpened finds opens path before
  pub more : GivesMoreThan limit (remaining before) (remaining after)

-- a file that was just made took all these bytes, where there had been a file, a device or nothing
pub record FillsMade {F : Type 0} (finds : List ℕ → Result Entry ErrorKind → Type 0) (makes : List ℕ → Result F ErrorKind → Type 0) (contents : F → Option (List ℕ)) (path bytes : List ℕ) : Type 0 where
  pub answer : Result Entry ErrorKind
  pub found : finds path answer
  pub writable : IsWritable answer
  pub before : F
  pub after : F
  pub made : makes path (Ok before)
  pub taken : Appends (contents before) (contents after) bytes

-- what is told of a folder whose listing was refused for this: absence where it is not found and has no entry, want of memory where that was the reason
abbrev pub TellsUnlisted : (List ℕ → Result Entry ErrorKind → Type 0) → List ℕ → ErrorKind → FolderFault → Type 0
TellsUnlisted looks dir kind Read = ⊤
TellsUnlisted looks dir kind TooLarge = ⊥
TellsUnlisted looks dir kind OutOfMemory = kind ≡ no_memory
TellsUnlisted looks dir kind NoFolder = (kind ≡ NotFound) × looks dir (Err NotFound)
TellsUnlisted looks dir kind Write = ⊥
