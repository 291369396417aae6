-- What `gtfs serve` answers to a line: a text and an empty line. The text is what `gtfs board` or `gtfs timetable` prints, or a line that says
-- why there is none.
use Rattle.std.specs.Prelude.{◌≡◌, ◌<◌, ◌≤◌, ◌⊎◌, ◌++◌, ℕ, true, false, codes, length, IsUtf8, List, [], Option, None, Some}
use Rattle.gtfs_days.specs.declared.zone.Zone.{Zone}
use Rattle.gtfs_rows.specs.Content.{Content}
use Rattle.gtfs_times.specs.declared.times.Times.{Times}
use Rattle.gtfs_board.specs.Board.{is_stop}
use Rattle.gtfs_board.specs.BoardPage.{IsCutShort, IsPage, IsStopped}
use Rattle.gtfs_board.specs.Timetable.{is_route}
use Rattle.gtfs_conversation.specs.HeardLines.{longest_line}
use Rattle.gtfs_cli.specs.BoardCommand.{LiesBefore}
use Rattle.gtfs_cli.specs.BoardsCommand.{IsBoardCause, IsRequestText}
use Rattle.gtfs_cli.specs.ServeQuestions.{AsksFor, AsksForNothing, Board, Question, Timetable}
use Rattle.gtfs_cli.specs.BoardsRequests.{StopRequest}
use Rattle.gtfs_cli.specs.SentText.{or_none, Begins}
use Rattle.gtfs_cli.specs.TimetableCommand.{AreFirstSheets, AreSheets, IsSheetsCause}
use Rattle.gtfs_cli.specs.declared.commands.refusal.Refusal.{Refusal}
use Rattle.gtfs_cli.specs.declared.commands.refusal.Refusal.TheVariants.{UnknownStop, UnknownRoute, UntilBeforeFrom, OutputFailed}

-- a line that says what is at fault
abbrev pub refused_line : List ℕ → List ℕ
refused_line text = codes "!! " ++ text ++ codes "\n"

-- ---- what a question is answered

-- the text that answers a question: its page or its sheets, or the first thing that is refused
abbrev pub IsWholeText : Content → Zone → Question → List ℕ → Type 0
IsWholeText f z (Board q) text = ((is_stop f q.texts.stop ≡ false) × (text ≡ refused_line (codes "unknown stop")))
    ⊎ (((is_stop f q.texts.stop ≡ true) × LiesBefore z q.values × (text ≡ refused_line (codes "until lies before from"))) ⊎ IsRequestText IsPage f z q text)
IsWholeText f z (Timetable r) text = ((is_route f r.route ≡ false) × (text ≡ refused_line (codes "unknown route"))) ⊎ AreSheets f r.route r.values text

-- the first lines of a board of a stop that there is, whole, or none
abbrev pub AreFirstLines : Content → Zone → StopRequest → List ℕ → Type 0
AreFirstLines f z q text = (is_stop f q.texts.stop ≡ true) × or_none (IsRequestText IsStopped f z q) text

-- what comes of a question before memory runs out
abbrev pub IsBeginning : Content → Zone → Question → List ℕ → Type 0
IsBeginning f z (Board q) text = AreFirstLines f z q text
IsBeginning f z (Timetable r) text = AreFirstSheets f r.route r.values text

-- the text, or a beginning of whole lines and then that memory ran out
abbrev pub IsSomeText : Content → Zone → Question → List ℕ → Type 0
IsSomeText f z q text = IsWholeText f z q text ⊎ ((lines : List ℕ) × IsBeginning f z q lines × (text ≡ lines ++ refused_line (codes "out of memory")))

-- ---- what a line is answered

-- a line that asks for something, and is no longer than a line may be
pub record IsQuestion (times : Times) (line : List ℕ) (q : Question) : Type 0 where
  pub short : length line ≤ longest_line
  pub utf8 : IsUtf8 line
  pub asks : AsksFor times line q

-- it is too long, or no question, or a question that has this text
abbrev pub IsLineText : (Content → Zone → Question → List ℕ → Type 0) → Content → Zone → Times → List ℕ → List ℕ → Type 0
IsLineText IsText f z times line text = ((longest_line < length line) × (text ≡ refused_line (codes "line too long")))
    ⊎ (((length line ≤ longest_line) × AsksForNothing times line × (text ≡ refused_line (codes "bad request")))
    ⊎ ((q : Question) × IsQuestion times line q × IsText f z q text))

-- nothing for an empty line, and for any other one a text and an empty line
abbrev pub AnswersBy : (Content → Zone → Question → List ℕ → Type 0) → Content → Zone → Times → List ℕ → List ℕ → Type 0
AnswersBy IsText f z times line answer = ((line ≡ []) × (answer ≡ []))
    ⊎ ((text : List ℕ) × (0 < length line) × IsLineText IsText f z times line text × (answer ≡ text ++ codes "\n"))

-- the answer of a line
abbrev pub AnswersLine : Content → Zone → Times → List ℕ → List ℕ → Type 0
AnswersLine f z times = AnswersBy IsSomeText f z times

-- the same, where memory suffices
abbrev pub AnswersWhole : Content → Zone → Times → List ℕ → List ℕ → Type 0
AnswersWhole f z times = AnswersBy IsWholeText f z times

-- what may go out of an answer where the output fails: a beginning of it, or lines of a board and a beginning of the next one
abbrev pub IsAnswerPart : Content → Zone → Times → List ℕ → List ℕ → Type 0
IsAnswerPart f z times line part = Begins (AnswersLine f z times line) part ⊎ ((q : StopRequest) × IsQuestion times line (Board q) × IsRequestText IsCutShort f z q part)

-- ---- what the parts of the work give

-- what may go out of the text of a question where the output fails
abbrev pub IsTextPart : Content → Zone → Question → List ℕ → Type 0
IsTextPart f z (Board q) part = Begins (IsSomeText f z (Board q)) part ⊎ IsRequestText IsCutShort f z q part
IsTextPart f z (Timetable r) part = Begins (IsSomeText f z (Timetable r)) part

-- and of the text of a line
abbrev pub IsLinePart : Content → Zone → Times → List ℕ → List ℕ → Type 0
IsLinePart f z times line part = Begins (IsLineText IsSomeText f z times line) part ⊎ ((q : StopRequest) × IsQuestion times line (Board q) × IsRequestText IsCutShort f z q part)

-- what a command prints that was asked for, what may go out of it where the output fails, and why it is not printed
abbrev pub IsPrinted : Content → Zone → Question → List ℕ → Type 0
IsPrinted f z (Board q) text = IsRequestText IsPage f z q text
IsPrinted f z (Timetable r) text = AreSheets f r.route r.values text

abbrev pub IsCut : Content → Zone → Question → List ℕ → Type 0
IsCut f z (Board q) text = IsRequestText IsCutShort f z q text
IsCut f z (Timetable r) text = Begins (AreSheets f r.route r.values) text

abbrev pub IsQuestionCause : Content → Zone → Question → Refusal → Type 0
IsQuestionCause f z (Board q) refusal = IsBoardCause f z q refusal
IsQuestionCause f z (Timetable r) refusal = IsSheetsCause f r.route refusal

-- the line that says so in an answer; none where the output failed
abbrev pub line_for : Refusal → Option (List ℕ)
line_for UnknownStop = Some (refused_line (codes "unknown stop"))
line_for UnknownRoute = Some (refused_line (codes "unknown route"))
line_for UntilBeforeFrom = Some (refused_line (codes "until lies before from"))
line_for OutputFailed = None
line_for _ = Some (refused_line (codes "out of memory"))
