-- What a refused call on folders in memory means for every device.
use Rattle.std.proofs.Common.{◌≡◌, ◌<◌, ℕ, Bool, true, false, cond, List, length, nat_le, refl, sym, subst, arith, ◌⊎◌, inl, inr, Option, Some, None, Ok, Err, option_map}
use Rattle.std.specs.FinMap as fin
use Rattle.std.proofs.lemmas.Bool.{leb-false}
use Rattle.gtfs_devices.specs.Device.{Rises}
use Rattle.gtfs_devices.specs.Folder.{Store, file_in, RefusesRead, DiffersAt}
use Rattle.gtfs_devices.specs.Held.{Held, is_failing, after_call, file_answer, Refuses}
use Rattle.gtfs_devices.specs.declared.folders.FolderFault.{FolderFault}
use Rattle.gtfs_devices.specs.declared.folders.FolderFault.TheVariants.{Read, TooLarge, OutOfMemory, NoFolder, Write}

-- the count rose at the call that failed
pub rises : (old new : Held) → is_failing old ≡ true → new ≡ after_call old → Rises old.failures new.failures
rises old new f a = rw (a, f) (omega arith)

-- what is inl as it was differs nowhere
pub differs-nowhere : (old new : Store) (dir name : List ℕ) → new ≡ old → DiffersAt old new dir name
differs-nowhere old new dir name e = subst (λ s. DiffersAt old s dir name) (sym e) (record { folders = λ other _. refl; files = λ other _. refl; stays = λ h. h })

-- a look-up in a folder that finds no folder
absent : {A B : Type 0} (f : A → B) (found : Option A) → option_map f found ≡ None → found ≡ None
absent f None e = refl
absent f (Some a) e = cc

longer : (limit : ℕ) (bytes : List ℕ) (within : Bool) → nat_le (length bytes) limit ≡ within → cond within (Ok (Some bytes)) (Err TooLarge) ≡ Err TooLarge → limit < length bytes
longer limit bytes true e h = absurd (cc h)
longer limit bytes false e h = leb-false (length bytes) limit e

large : (limit : ℕ) (found : Option (Option (List ℕ))) → file_answer limit found ≡ Err TooLarge → (bytes : List ℕ) × (found ≡ Some (Some bytes)) × (limit < length bytes)
large limit None e = cc
large limit (Some None) e = cc
large limit (Some (Some bytes)) e = (bytes, refl, longer limit bytes (nat_le (length bytes) limit) refl e)

-- a file that is over the limit is refused as such
over : (within : Bool) (bytes : List ℕ) (fault : FolderFault) → cond within (Ok (Some bytes)) (Err TooLarge) ≡ Err fault → fault ≡ TooLarge
over true bytes fault e = cc
over false bytes fault e = cc

missing : (limit : ℕ) (found : Option (Option (List ℕ))) → file_answer limit found ≡ Err NoFolder → found ≡ None
missing limit None e = refl
missing limit (Some None) e = cc
missing limit (Some (Some bytes)) e = cc (over (nat_le (length bytes) limit) bytes NoFolder e)

-- without a failure of the device, the folder is missing or the file too large
told : (limit : ℕ) (found : Option (Option (List ℕ))) (fault : FolderFault) → file_answer limit found ≡ Err fault → (fault ≡ NoFolder) ⊎ (fault ≡ TooLarge)
told limit None fault e = inl (cc)
told limit (Some None) fault e = cc
told limit (Some (Some bytes)) fault e = inr (over (nat_le (length bytes) limit) bytes fault e)

neither-read : (Read ≡ NoFolder) ⊎ (Read ≡ TooLarge) → ⊥
neither-read (inl e) = cc
neither-read (inr e) = cc

neither-write : (Write ≡ NoFolder) ⊎ (Write ≡ TooLarge) → ⊥
neither-write (inl e) = cc
neither-write (inr e) = cc

-- a read that was refused, not by its number
pub read-refused : (limit : ℕ) (store : Store) (dir name : List ℕ) (before after : ℕ) (fault : FolderFault) → Refuses fault (file_answer limit (file_in store dir name)) → RefusesRead fault limit (Some store) dir name before after
read-refused limit store dir name before after Read r = absurd (neither-read (told limit _ Read r))
read-refused limit store dir name before after TooLarge r = large limit (file_in store dir name) r
read-refused limit store dir name before after OutOfMemory r = tt
read-refused limit store dir name before after NoFolder r = absent (λ files. fin.get files name) (fin.get store dir) (missing limit (file_in store dir name) r)
read-refused limit store dir name before after Write r = neither-write (told limit _ Write r)
