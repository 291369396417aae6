-- How many calls of the folders are made.
use Rattle.std.proofs.Common.{◌≡◌, ◌≢◌, ℕ, ◌+◌, ◌≤◌, Option, refl, arith}
use Rattle.gtfs_devices.specs.Device.{Calls, MakesCalls, MakesSomeCalls}
use Rattle.gtfs_devices.specs.Folder.{CountsFault}
use Rattle.gtfs_devices.specs.declared.folders.FolderFault.{FolderFault}
use Rattle.gtfs_devices.specs.declared.folders.FolderFault.TheVariants as faults
use Rattle.gtfs_table.proofs.FolderFacts.{calls-more, calls-none}
use Rattle.gtfs_cli.specs.FolderCalls.{MakesAtMost}

pub no-calls : (most : ℕ) (a : Option Calls) → MakesAtMost most a a
no-calls most a = record { count = 0; few = omega arith; made = calls-none a }

pub so-many : (most n : ℕ) (a b : Option Calls) → n ≤ most → MakesCalls n a b → MakesAtMost most a b
so-many most n a b few made = record { count = n; few = few; made = made }

-- fewer than so many are at most more
pub at-most : (most n : ℕ) (a b : Option Calls) → n ≤ most → MakesAtMost n a b → MakesAtMost most a b
at-most most n a b few h = record { count = h.count; few = omega (arith, few, h.few); made = h.made }

pub some-calls : (most : ℕ) (a b : Option Calls) → MakesSomeCalls most a b → MakesAtMost most a b
some-calls most a b h = record { count = h.count; few = h.few; made = h.made }

-- so many, and then at most so many more
pub few-more : (n m : ℕ) (a b c : Option Calls) → MakesCalls n a b → MakesAtMost m b c → MakesAtMost (n + m) a c
few-more n m a b c first h = record { count = n + h.count; few = omega (arith, h.few); made = calls-more n h.count a b c first h.made }

-- the call that failed was the last one
pub last-of : (fault : FolderFault) (before after : ℕ) (Last : Type 0) → CountsFault fault before after → (fault ≡ faults.Read → Last) → (fault ≡ faults.Write → Last)
    → after ≢ before → Last
last-of faults.Read before after Last count read write differ = read refl
last-of faults.TooLarge before after Last count read write differ = absurd (differ count)
last-of faults.OutOfMemory before after Last count read write differ = absurd (differ count)
last-of faults.NoFolder before after Last count read write differ = absurd (differ count)
last-of faults.Write before after Last count read write differ = write refl
