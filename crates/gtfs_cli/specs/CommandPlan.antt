-- What a command does over the folders as they are, how it ends, and how the program ends by it.
use Rattle.std.specs.Prelude.{◌≡◌, ◌≤◌, ◌⊎◌, ℕ, Bool, false, List, Option, Result, Ok, Err, IfOk, IfErr, OnOk}
use Rattle.std.specs.Io.KnownBytes.{Keeps}
use Rattle.gtfs_devices.specs.Folder.{Store}
use Rattle.gtfs_cli.specs.Failures.{FailedNowhere, Failures}
use Rattle.gtfs_cli.specs.RefusalOrder.{Judged}
use Rattle.gtfs_cli.specs.RefusalMessages.{message}
use Rattle.gtfs_cli.specs.FolderCalls.{CallsFolders}
use Rattle.gtfs_cli.specs.Refusals.{status_in, TellsOutput}
use Rattle.gtfs_cli.specs.DevicesSeen.{Devices, Output}
use Rattle.gtfs_cli.specs.SentText.{or_none, text_left, Sends, SendsSome}
use Rattle.gtfs_cli.specs.declared.commands.refusal.Refusal.{Refusal}
use Rattle.gtfs_cli.specs.declared.commands.refusal.Refusal.TheVariants.{OutOfMemory}

-- ---- what a command does

-- what is judged in order; what the folders hold and what went out once all is done, and whether a check found an error; what they hold and
-- what went out where a refusal came; and how many calls of the folders are made
pub record Plan : Type 1 where
  pub judges : Judged
  pub Done : Option Store → List ℕ → Bool → Type 0
  pub Left : Option Store → List ℕ → Refusal → Type 0
  pub calls : ℕ

-- a command that prints a text and changes no folder; where memory ran out, nothing of the text went out or a part that stopped
abbrev pub prints : Option Store → Judged → (List ℕ → Bool → Type 0) → (List ℕ → Type 0) → (List ℕ → Type 0) → ℕ → Plan
prints held judges Text Cut Stopped calls = record {
  judges = judges;
  Done = λ now text failed. (now ≡ held) × Text text failed;
  Left = λ now part refusal. (now ≡ held) × text_left Cut (or_none Stopped) part refusal;
  calls = calls;
}

-- a text, where no check found an error
abbrev pub passed : (List ℕ → Type 0) → List ℕ → Bool → Type 0
passed Text text failed = (failed ≡ false) × Text text

-- ---- how a command ends

-- the answer of a command that is no check: no check found an error
abbrev pub answer_of : {T : Type 0} → Result T Refusal → Result Bool Refusal
answer_of (Ok x) = Ok false
answer_of (Err refusal) = Err refusal

abbrev pub failures_of : Devices → Failures
failures_of devices = record { folders = devices.folders.failures; output = devices.output.failures }

-- the first thing that is refused is told, or memory ran out
abbrev pub IsRefusedIn : Judged → Failures → Failures → Refusal → Type 0
IsRefusedIn judges before after refusal =
    judges.Refuses before after refusal ⊎ ((refusal ≡ OutOfMemory) × FailedNowhere before after)

-- it answers whether a check found an error, or why it was not done; the devices were so before, and are so after it
pub record Ends (plan : Plan) (before after : Devices) (ended : Result Bool Refusal) : Type 0 where
  pub done : IfOk ended (λ failed. SendsSome (λ text. plan.Done after.folders.held text failed) before.output after.output)
  pub left : IfErr ended (λ refusal. SendsSome (λ part. plan.Left after.folders.held part refusal) before.output after.output)
  pub refused : IfErr ended (IsRefusedIn plan.judges (failures_of before) (failures_of after))
  pub told : IfErr ended (TellsOutput before.output.failures after.output.failures)
  pub grows : before.output.failures ≤ after.output.failures
  pub no_failure : OnOk ended (after.output.failures ≡ before.output.failures)
  pub asks : CallsFolders plan.calls before.folders after.folders ended

-- ---- how the program ends

-- the error output is told nothing where the command was done, and else the line of the refusal, or a beginning of it where that output failed
abbrev pub TellsEnd : Output → Output → Result Bool Refusal → Type 0
TellsEnd err told (Ok failed) = Keeps err.told told.told
TellsEnd err told (Err refusal) = Sends err told (message refusal)

-- the status is that of what the command ended with
pub record IsRun (plan : Plan) (before after : Devices) (err told : Output) (status : ℕ) : Type 0 where
  pub ended : Result Bool Refusal
  pub ends : Ends plan before after ended
  pub gives : status ≡ status_in ended
  pub line : TellsEnd err told ended
