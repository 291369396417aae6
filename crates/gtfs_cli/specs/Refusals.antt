-- Why a command was not done: of each refusal its status, and which devices may have failed where it is told.
use Rattle.std.specs.Prelude.{◌≡◌, ℕ, Bool, cond, Result, Ok, Err, ⊤}
use Rattle.gtfs_cli.specs.declared.commands.refusal.Refusal.{Refusal}
use Rattle.gtfs_cli.specs.declared.commands.refusal.Refusal.TheVariants.{Words, BadValue, DayWithoutAdvice, NotThere, Unreadable, OverLimit, HasErrors, NoZone, UnknownStop, UnknownRoute, UntilBeforeFrom, ZonesDiffer, MergeTooLarge, Unwritable, Line, InputFailed, OutputFailed, OutOfMemory}
use Rattle.gtfs_cli.specs.declared.commands.boards.request_fault.RequestFault.{RequestFault}
use Rattle.gtfs_cli.specs.declared.commands.boards.request_fault.RequestFault.TheVariants as requests

-- the status for the line of a file of requests that is at fault
abbrev pub request_status : RequestFault → ℕ
request_status (requests.BadRequest number) = 2
request_status (requests.UnknownStop number) = 1
request_status (requests.UntilBeforeFrom number) = 2

abbrev pub status_of : Refusal → ℕ
status_of (Words text) = 2
status_of (BadValue option) = 2
status_of DayWithoutAdvice = 2
status_of (NotThere path) = 3
status_of (Unreadable path) = 3
status_of (OverLimit path) = 3
status_of (HasErrors path) = 1
status_of (NoZone path) = 3
status_of UnknownStop = 1
status_of UnknownRoute = 1
status_of ZonesDiffer = 1
status_of MergeTooLarge = 1
status_of (Unwritable path) = 3
status_of UntilBeforeFrom = 2
status_of (Line fault) = request_status fault
status_of InputFailed = 3
status_of OutputFailed = 3
status_of OutOfMemory = 4

-- the status of what a command ends with: whether a check found an error, or why the command was not done
abbrev pub status_in : Result Bool Refusal → ℕ
status_in (Ok failed) = cond failed 1 0
status_in (Err refusal) = status_of refusal

-- ---- which devices may have failed where a refusal is told; the counts are those of failures, before and after

-- the folders failed only where the refusal is of a path that cannot be read or written
abbrev pub TellsFolders : ℕ → ℕ → Refusal → Type 0
TellsFolders before after (Unreadable path) = ⊤
TellsFolders before after (Unwritable path) = ⊤
TellsFolders before after _ = after ≡ before

-- the output failed only where the refusal is of the output
abbrev pub TellsOutput : ℕ → ℕ → Refusal → Type 0
TellsOutput before after OutputFailed = ⊤
TellsOutput before after _ = after ≡ before
