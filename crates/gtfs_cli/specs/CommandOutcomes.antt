-- How a command ends where its devices work and memory suffices.
use Rattle.std.specs.Prelude.{◌≡◌, ◌≢◌, ◌⊎◌, ℕ, Bool, cond, List, [], Option}
use Rattle.std.specs.Io.KnownBytes.{Appends}
use Rattle.gtfs_devices.specs.Device.{Rises}
use Rattle.gtfs_devices.specs.Folder.{Store}
use Rattle.gtfs_cli.specs.Failures.{Failures}
use Rattle.gtfs_cli.specs.RefusalOrder.{Judged}
use Rattle.gtfs_cli.specs.RefusalMessages.{message}
use Rattle.gtfs_cli.specs.CommandPlan.{failures_of, Plan}
use Rattle.gtfs_cli.specs.Refusals.{status_of}
use Rattle.gtfs_cli.specs.DevicesSeen.{Devices, Output}
use Rattle.gtfs_cli.specs.SentText.{Sends}
use Rattle.gtfs_cli.specs.declared.commands.refusal.Refusal.{Refusal}
use Rattle.gtfs_cli.specs.declared.commands.refusal.Refusal.TheVariants.{OutOfMemory}

-- what the folders hold then, what goes to the output, what the error output is told, and the status
pub record Outcome : Type 0 where
  pub folders : Option Store
  pub text : List ℕ
  pub told : List ℕ
  pub status : ℕ

-- neither the folders nor the output failed
pub record FailNowhere (before after : Failures) : Type 0 where
  pub folders : Rises before.folders after.folders → ⊥
  pub output : Rises before.output after.output → ⊥

-- all was done
pub record IsDone (plan : Plan) (o : Outcome) : Type 0 where
  pub failed : Bool
  pub done : plan.Done o.folders o.text failed
  pub told : o.told ≡ []
  pub status : o.status ≡ cond failed 1 0

-- a refusal that neither a failure nor want of memory is the cause of
pub record IsPlainRefusal (judges : Judged) (refusal : Refusal) : Type 0 where
  pub before : Failures
  pub after : Failures
  pub nowhere : FailNowhere before after
  pub cause : judges.Refuses before after refusal
  pub enough : refusal ≢ OutOfMemory

-- such a refusal came: its line is told, nothing is printed, and the folders hold what they held
pub record IsRefused (plan : Plan) (held : Option Store) (o : Outcome) : Type 0 where
  pub refusal : Refusal
  pub is_refusal : IsPlainRefusal plan.judges refusal
  pub folders : o.folders ≡ held
  pub text : o.text ≡ []
  pub told : o.told ≡ message refusal
  pub status : o.status ≡ status_of refusal

abbrev pub IsOutcome : Plan → Option Store → Outcome → Type 0
IsOutcome plan held o = IsDone plan o ⊎ IsRefused plan held o

-- ---- how a run ends with an outcome

-- the folders and the output did not fail, and memory did not run out; the error output may have failed
pub record IsUnhindered (before after : Devices) (status : ℕ) : Type 0 where
  pub nowhere : FailNowhere (failures_of before) (failures_of after)
  pub memory : status ≢ 4

-- the folders hold what the outcome says; its text went out, and its line, or a beginning of that where the error output failed; the status
-- is its own
pub record EndsWith (before after : Devices) (err told : Output) (status : ℕ) (o : Outcome) : Type 0 where
  pub folders : after.folders.held ≡ o.folders
  pub text : Appends before.output.told after.output.told o.text
  pub line : Sends err told o.told
  pub gives : status ≡ o.status

-- it ends with an outcome of which this is so
abbrev pub EndsAsOne : Devices → Devices → Output → Output → ℕ → (Outcome → Type 0) → Type 0
EndsAsOne before after err told status IsOne = (o : Outcome) × IsOne o × EndsWith before after err told status o
