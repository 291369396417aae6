-- What the status tells of how a command ended.
use Rattle.std.proofs.Common.{◌≡◌, ◌≢◌, ◌∙◌, ◌≤◌, ℕ, true, false, Bool, List, Result, Ok, Err, inl, inr, refl, arith}
use Rattle.std.specs.Prelude.{OnErr, OnOk}
use Rattle.std.specs.Io.KnownBytes.{Appends}
use Rattle.gtfs_devices.specs.Device.{Rises}
use Rattle.gtfs_cli.specs.Failures.{FailedNowhere, Failures}
use Rattle.gtfs_cli.specs.CommandPlan.{failures_of, Ends, Plan}
use Rattle.gtfs_cli.specs.Refusals.{status_in, status_of, TellsFolders, TellsOutput}
use Rattle.gtfs_cli.specs.DevicesSeen.{Devices, Output}
use Rattle.gtfs_cli.specs.SentText.{Sends, SendsBeginning}
use Rattle.gtfs_cli.specs.declared.commands.refusal.Refusal.{Refusal}
use Rattle.gtfs_cli.specs.declared.commands.refusal.Refusal.TheVariants.{Line, OutputFailed, Unreadable, Unwritable}
use Rattle.gtfs_cli.specs.declared.commands.boards.request_fault.RequestFault.TheVariants as requests

statuses-from : (r : Refusal) (status : ℕ) → status ≡ status_of r → status ≤ 4
statuses-from (Line (requests.BadRequest number)) status is = omega (arith, is)
statuses-from (Line (requests.UnknownStop number)) status is = omega (arith, is)
statuses-from (Line (requests.UntilBeforeFrom number)) status is = omega (arith, is)
statuses-from _ status is = omega (arith, is)

pub statuses-ended : (ended : Result Bool Refusal) (status : ℕ) → status ≡ status_in ended → status ≤ 4
statuses-ended (Ok true) status gives = omega (arith, gives)
statuses-ended (Ok false) status gives = omega (arith, gives)
statuses-ended (Err r) status gives = statuses-from r status gives

nowhere : (before after : Failures) (r : Refusal) → status_of r ≢ 3 → TellsFolders before.folders after.folders r → TellsOutput before.output after.output r → FailedNowhere before after
nowhere before after (Unreadable path) other folders output = absurd (other refl)
nowhere before after (Unwritable path) other folders output = absurd (other refl)
nowhere before after OutputFailed other folders output = absurd (other refl)
nowhere before after _ other folders output = (folders, output)

-- only at 3 something failed
pub failed-nowhere : (plan : Plan) (before after : Devices) (ended : Result Bool Refusal) (status : ℕ) → status ≡ status_in ended → Ends plan before after ended → status ≢ 3
    → FailedNowhere (failures_of before) (failures_of after)
failed-nowhere plan before after (Ok failed) status gives ends other = (ends.asks.no_failure, ends.no_failure)
failed-nowhere plan before after (Err e) status gives ends other = nowhere (failures_of before) (failures_of after) e (λ three. other (gives ∙ three)) ends.asks.told ends.told

-- ---- the error output

pub sends : {A B : Type 0} (r : Result A B) (err told : Output) (text : List ℕ) → OnOk r (Appends err.told told.told text)
    → OnErr r (SendsBeginning err.told told.told text) → OnErr r (Rises err.failures told.failures) → Sends err told text
sends (Ok x) err told text whole cut counted = inl whole
sends (Err e) err told text whole cut counted = inr (cut, counted)
