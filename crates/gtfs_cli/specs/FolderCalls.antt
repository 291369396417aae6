-- Calls of the folders that a part of the work makes, and what the folders are after them. Folders may count no calls: then nothing is said of them.
use Rattle.std.specs.Prelude.{◌≡◌, ◌≢◌, ◌≤◌, ℕ, Option, Result, IfErr, OnOk}
use Rattle.gtfs_devices.specs.Device.{Calls, FailsAtLast, MakesCalls}
use Rattle.gtfs_cli.specs.Refusals.{TellsFolders}
use Rattle.gtfs_cli.specs.DevicesSeen.{Device}
use Rattle.gtfs_cli.specs.declared.commands.refusal.Refusal.{Refusal}

-- at most so many more calls were made
pub record MakesAtMost (most : ℕ) (old new : Option Calls) : Type 0 where
  pub count : ℕ
  pub few : count ≤ most
  pub made : MakesCalls count old new

-- at most so many calls were made, and just so many where all was done; the folders failed only where the refusal tells so, and then the
-- call that failed was the last
pub record CallsFolders (count : ℕ) {T : Type 0} (before after : Device) (ended : Result T Refusal) : Type 0 where
  pub grows : before.failures ≤ after.failures
  pub no_failure : OnOk ended (after.failures ≡ before.failures)
  pub told : IfErr ended (TellsFolders before.failures after.failures)
  pub called : OnOk ended (MakesCalls count before.calls after.calls)
  pub few : MakesAtMost count before.calls after.calls
  pub last : after.failures ≢ before.failures → FailsAtLast after.calls

-- they were so made, and the folders hold what they held, under the limit that they had
pub record Reads (count : ℕ) {T : Type 0} (before after : Device) (ended : Result T Refusal) : Type 0 where
  pub unchanged : after.held ≡ before.held
  pub same_limit : after.limit ≡ before.limit
  pub asks : CallsFolders count before after ended
