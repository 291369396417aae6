-- What the error output is told of each refusal.
use Rattle.std.specs.Prelude.{◌≡◌, ℕ, List, [], ◌++◌, codes, decimal, string_bytes, ⊤}
use Rattle.gtfs_schema.specs.FieldValues.{plain}
use Rattle.gtfs_cli.specs.declared.commands.refusal.Refusal.{Refusal}
use Rattle.gtfs_cli.specs.declared.commands.refusal.Refusal.TheVariants.{Words, BadValue, DayWithoutAdvice, NotThere, Unreadable, OverLimit, HasErrors, NoZone, UnknownStop, UnknownRoute, UntilBeforeFrom, ZonesDiffer, MergeTooLarge, Unwritable, Line, InputFailed, OutputFailed, OutOfMemory}
use Rattle.gtfs_cli.specs.declared.commands.boards.request_fault.RequestFault.{RequestFault}
use Rattle.gtfs_cli.specs.declared.commands.boards.request_fault.RequestFault.TheVariants as requests

-- a line of two texts, in which each control character is a space
abbrev pub line_of : List ℕ → List ℕ → List ℕ
line_of first second = codes "gtfs: " ++ (plain first ++ (plain second ++ codes "\n"))

-- what is told of the line of a file of requests that is at fault, before its number
abbrev pub request_text : RequestFault → List ℕ
request_text (requests.BadRequest number) = codes "bad request in line "
request_text (requests.UnknownStop number) = codes "unknown stop in line "
request_text (requests.UntilBeforeFrom number) = codes "until lies before from in line "

-- its number, from 1
abbrev pub request_line : RequestFault → ℕ
request_line (requests.BadRequest number) = number
request_line (requests.UnknownStop number) = number
request_line (requests.UntilBeforeFrom number) = number

-- `clap`'s text for words that it does not take, and else a line
abbrev pub message : Refusal → List ℕ
message (Words text) = string_bytes text
message (BadValue option) = line_of (codes "bad value of ") option.now
message DayWithoutAdvice = line_of (codes "--day needs --advise") []
message (NotThere path) = line_of path.now (codes " is not there")
message (Unreadable path) = line_of path.now (codes " cannot be read")
message (OverLimit path) = line_of path.now (codes " holds a file over the limit")
message (HasErrors path) = line_of path.now (codes " has errors")
message (NoZone path) = line_of path.now (codes " is no zone file")
message UnknownStop = line_of (codes "unknown stop") []
message UnknownRoute = line_of (codes "unknown route") []
message ZonesDiffer = line_of (codes "zones differ") []
message MergeTooLarge = line_of (codes "merged feed too large") []
message (Unwritable path) = line_of path.now (codes " cannot be written")
message UntilBeforeFrom = line_of (codes "until lies before from") []
message (Line fault) = line_of (request_text fault) (decimal (request_line fault))
message InputFailed = line_of (codes "input cannot be read") []
message OutputFailed = line_of (codes "output failed") []
message OutOfMemory = line_of (codes "out of memory") []

-- what is told of the refusal is the line of these two texts, but for words that are refused and for a line of a file of requests
abbrev pub HasLine : Refusal → List ℕ → List ℕ → Type 0
HasLine (Words text) first second = ⊤
HasLine (Line fault) first second = ⊤
HasLine refusal first second = line_of first second ≡ message refusal
