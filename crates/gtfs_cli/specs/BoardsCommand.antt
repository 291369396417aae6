-- What `gtfs boards` prints: for each request of a file, in their order, its heading and then the lines of its board.
use Rattle.std.specs.Prelude.{◌≡◌, true, ◌⊎◌, ⊤, ℕ, List, [], ◌∷◌, ◌++◌, Option, Result, Err, IsOkAnd, IsUtf8}
use Rattle.gtfs_days.specs.Zone.{zone_origin}
use Rattle.gtfs_days.specs.declared.zone.Zone.{Zone}
use Rattle.gtfs_devices.specs.Folder.{Store}
use Rattle.gtfs_table.specs.Tables.{without_marks, Dataset}
use Rattle.gtfs_schema.specs.Problems.{Passes}
use Rattle.gtfs_rows.specs.Content.{Content}
use Rattle.gtfs_rows.specs.ContentRead.{content_of}
use Rattle.gtfs_board.specs.Board.{is_stop}
use Rattle.gtfs_board.specs.BoardPage.{IsCutShort, IsPage, IsStopped}
use Rattle.gtfs_commands.specs.Words.{BoardsTexts}
use Rattle.gtfs_cli.specs.BoardCommand.{GoesOut, IsOpeningCause, IsTextOf}
use Rattle.gtfs_cli.specs.FilesInFolders.{HoldsNoUtf8, HoldsUtf8, HoldsBytes, HoldsTables, HoldsZone}
use Rattle.gtfs_cli.specs.ReadingCauses.{IsPathCause}
use Rattle.gtfs_cli.specs.SharedOptions.{times_of}
use Rattle.gtfs_cli.specs.BoardsRequests.{request_heading, requests_of, StopRequest}
use Rattle.gtfs_cli.specs.RefusalOrder.{feed, followed_by, sending, zone, Judged}
use Rattle.gtfs_cli.specs.CommandPlan.{passed, prints, Plan}
use Rattle.gtfs_cli.specs.declared.commands.refusal.Refusal.{Refusal}
use Rattle.gtfs_cli.specs.declared.commands.refusal.Refusal.TheVariants.{Unreadable, Line, OutOfMemory}
use Rattle.gtfs_cli.specs.declared.commands.boards.request_fault.RequestFault.{RequestFault}

-- ---- the text

-- what goes out so of the board of a request is this text
abbrev pub IsRequestText : GoesOut → Content → Zone → StopRequest → List ℕ → Type 0
IsRequestText Out f z q text = IsTextOf Out f z q.texts.stop q.values text

-- the text has the heading of each request, and below it the lines that `gtfs board` prints for it
abbrev pub AreBoards : Content → Zone → List StopRequest → List ℕ → Type 0
AreBoards f z [] text = text ≡ []
AreBoards f z (q ∷ qs) text =
    (page : List ℕ) × (more : List ℕ) × IsRequestText IsPage f z q page × AreBoards f z qs more × (text ≡ request_heading q.texts ++ page ++ more)

-- ---- what of it went out

-- a beginning of the heading of a request, or the heading and then lines of its board and a beginning of the next
abbrev pub BeginsBoard : Content → Zone → StopRequest → List ℕ → Type 0
BeginsBoard f z q part = ((left : List ℕ) × (request_heading q.texts ≡ part ++ left))
    ⊎ ((lines : List ℕ) × (part ≡ request_heading q.texts ++ lines) × IsRequestText IsCutShort f z q lines)

-- nothing, or the heading and then whole lines
abbrev pub BeginsWhole : Content → Zone → StopRequest → List ℕ → Type 0
BeginsWhole f z q part = (part ≡ []) ⊎ ((lines : List ℕ) × (part ≡ request_heading q.texts ++ lines) × IsRequestText IsStopped f z q lines)

-- the boards of some first requests, whole, and of the next one this much
pub record StopsIn (Part : Content → Zone → StopRequest → List ℕ → Type 0) (f : Content) (z : Zone) (qs : List StopRequest) (sent : List ℕ) : Type 0 where
  pub done : List StopRequest
  pub next : StopRequest
  pub others : List StopRequest
  pub text : List ℕ
  pub part : List ℕ
  pub split : qs ≡ done ++ next ∷ others
  pub are_boards : AreBoards f z done text
  pub is_part : Part f z next part
  pub whole : sent ≡ text ++ part

-- ---- of a folder, a zone file and a file of requests

-- what boards are made of: the dataset that the folder holds and that passes, the zone of the one file, and the bytes of the other, which
-- are UTF-8
pub record BoardsSetting (limit : ℕ) (held : Option Store) (asked : BoardsTexts) : Type 0 where
  pub dataset : Dataset
  pub zone : Zone
  pub bytes : List ℕ
  pub holds : HoldsTables limit held asked.dir dataset
  pub passes : Passes dataset
  pub holds_zone : HoldsZone limit held asked.zone zone
  pub holds_requests : HoldsUtf8 limit held asked.requests bytes

-- the requests of the file, or what is the matter with the first line that is refused
abbrev pub requests_at : (limit : ℕ) (held : Option Store) (asked : BoardsTexts) → BoardsSetting limit held asked → Result (List StopRequest) RequestFault
requests_at limit held asked s = requests_of (content_of s.dataset) (zone_origin s.zone) (times_of asked.interpolate) s.bytes

-- no line is refused, and this is the text of all boards
abbrev pub AreAllBoards : Content → Zone → Result (List StopRequest) RequestFault → List ℕ → Type 0
AreAllBoards f z asked text = IsOkAnd asked (λ qs. AreBoards f z qs text)

-- no line is refused, and this is of the text of all boards
abbrev pub StopsInAll : (Content → Zone → StopRequest → List ℕ → Type 0) → Content → Zone → Result (List StopRequest) RequestFault → List ℕ → Type 0
StopsInAll Part f z asked sent = IsOkAnd asked (λ qs. StopsIn Part f z qs sent)

-- the text of all boards that the words ask for
abbrev pub IsBoardsText : ℕ → Option Store → BoardsTexts → List ℕ → Type 0
IsBoardsText limit held asked text =
    (s : BoardsSetting limit held asked) × AreAllBoards (content_of s.dataset) s.zone (requests_at limit held asked s) text

-- what may go out of it
abbrev pub IsBoardsPart : (Content → Zone → StopRequest → List ℕ → Type 0) → ℕ → Option Store → BoardsTexts → List ℕ → Type 0
IsBoardsPart Part limit held asked sent =
    (s : BoardsSetting limit held asked) × StopsInAll Part (content_of s.dataset) s.zone (requests_at limit held asked s) sent

-- ---- why boards are not printed

-- the file of requests
abbrev pub request_file : ℕ → Option Store → List ℕ → Judged
request_file limit held path = record {
  Refuses = λ before after. IsPathCause limit held path before.folders after.folders;
  Holds = (bytes : List ℕ) × HoldsBytes limit held path bytes;
}

-- its bytes are not UTF-8, or this is the first line that is refused
abbrev pub IsLinesCause : ℕ → Option Store → BoardsTexts → Refusal → Type 0
IsLinesCause limit held asked (Unreadable named) = (named.now ≡ asked.requests) × HoldsNoUtf8 limit held asked.requests
IsLinesCause limit held asked (Line fault) = (s : BoardsSetting limit held asked) × (requests_at limit held asked s ≡ Err fault)
IsLinesCause limit held asked _ = ⊥

-- its lines
abbrev pub request_lines : ℕ → Option Store → BoardsTexts → Judged
request_lines limit held asked = record { Refuses = λ before after. IsLinesCause limit held asked; Holds = ⊤ }

-- the folder, the zone file, the file of requests and its lines are judged in this order
abbrev pub boards_judges : ℕ → Option Store → BoardsTexts → Judged
boards_judges limit held asked = followed_by (feed limit held asked.dir) (followed_by (zone limit held asked.zone)
    (followed_by (request_file limit held asked.requests) (followed_by (request_lines limit held asked) sending)))

-- the boards of a file of requests
abbrev pub boards_plan : ℕ → Option Store → BoardsTexts → Plan
boards_plan limit held asked = prints held (boards_judges limit held asked) (passed (IsBoardsText limit held asked))
    (IsBoardsPart BeginsBoard limit held asked) (IsBoardsPart BeginsWhole limit held asked) 12

-- ---- what the parts of the work give

-- the heading and the page of one request
abbrev pub IsOneText : Content → Zone → StopRequest → List ℕ → Type 0
IsOneText f z q text = (page : List ℕ) × IsRequestText IsPage f z q page × (text ≡ request_heading q.texts ++ page)

-- why the boards of lines are not printed, but for the output and for memory
abbrev pub IsRequestsFault : Result (List StopRequest) RequestFault → Refusal → Type 0
IsRequestsFault asked (Line fault) = asked ≡ Err fault
IsRequestsFault asked _ = ⊥

-- the bytes are UTF-8, and this is so of a text
abbrev pub of_utf8 : List ℕ → (List ℕ → Type 0) → List ℕ → Type 0
of_utf8 bytes Fact text = IsUtf8 (without_marks bytes) × Fact text

-- the same, or the bytes of the file of this path are no text
abbrev pub IsFileFault : List ℕ → List ℕ → Result (List StopRequest) RequestFault → Refusal → Type 0
IsFileFault path bytes asked (Unreadable named) = (named.now ≡ path) × (IsUtf8 (without_marks bytes) → ⊥)
IsFileFault path bytes asked refusal = IsUtf8 (without_marks bytes) × IsRequestsFault asked refusal

-- why there is no page of a board; memory runs out only where the feed has the stop
abbrev pub IsBoardCause : Content → Zone → StopRequest → Refusal → Type 0
IsBoardCause f z q OutOfMemory = is_stop f q.texts.stop ≡ true
IsBoardCause f z q refusal = IsOpeningCause f z q.texts.stop q.values refusal
