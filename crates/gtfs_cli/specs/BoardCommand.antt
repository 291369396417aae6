-- What `gtfs board` judges and prints: what a board is made of, and a page of the board that the words ask for.
use Rattle.std.specs.Prelude.{◌≡◌, ◌<ℤ◌, ⊤, ℕ, true, false, All, List, [], Option, Some, Result}
use Rattle.gtfs_days.specs.Zone.{zone_origin}
use Rattle.gtfs_days.specs.declared.zone.Zone.{Zone}
use Rattle.gtfs_devices.specs.Folder.{Store}
use Rattle.gtfs_table.specs.Tables.{Dataset}
use Rattle.gtfs_schema.specs.Problems.{Passes}
use Rattle.gtfs_rows.specs.Content.{Content}
use Rattle.gtfs_rows.specs.ContentRead.{content_of}
use Rattle.gtfs_times.specs.Filling.{timed}
use Rattle.gtfs_board.specs.Board.{is_stop, keys_of}
use Rattle.gtfs_rows.specs.Departures.{IsBoard}
use Rattle.gtfs_board.specs.BoardLines.{Listed}
use Rattle.gtfs_board.specs.BoardPage.{IsCutShort, IsPage, IsStopped}
use Rattle.gtfs_board.specs.ShownTrips.{IsShown}
use Rattle.gtfs_commands.specs.Words.{BoardTexts}
use Rattle.gtfs_cli.specs.BoardOptions.{instant_at, judged_board, BoardRequest, IsBoardRequest}
use Rattle.gtfs_cli.specs.FilesInFolders.{HoldsTables, HoldsZone}
use Rattle.gtfs_cli.specs.RefusalOrder.{feed, followed_by, sending, values, zone, Judged}
use Rattle.gtfs_cli.specs.CommandPlan.{passed, prints, Plan}
use Rattle.gtfs_cli.specs.SentText.{Output, PrintsText}
use Rattle.gtfs_cli.specs.declared.commands.refusal.Refusal.{Refusal}
use Rattle.gtfs_cli.specs.declared.commands.refusal.Refusal.TheVariants.{UnknownStop, UntilBeforeFrom, OutOfMemory}

-- ---- what a board is made of, and why there is none

-- what a board is made of: the dataset that the folder holds and that passes, the zone of the file, and the values of the options
pub record BoardSetting (limit : ℕ) (held : Option Store) (asked : BoardTexts) : Type 0 where
  pub dataset : Dataset
  pub zone : Zone
  pub request : BoardRequest
  pub holds : HoldsTables limit held asked.dir dataset
  pub passes : Passes dataset
  pub holds_zone : HoldsZone limit held asked.zone zone
  pub is_request : IsBoardRequest asked request

-- until lies before from in the zone
abbrev pub LiesBefore : Zone → BoardRequest → Type 0
LiesBefore z r = instant_at (zone_origin z) r.until <ℤ instant_at (zone_origin z) r.from

-- no stop of the dataset has the id
abbrev pub LacksStop : ℕ → Option Store → BoardTexts → Type 0
LacksStop limit held asked = (s : BoardSetting limit held asked) × (is_stop (content_of s.dataset) asked.stop ≡ false)

-- one has it, and until lies before from
abbrev pub EndsBeforeItBegins : ℕ → Option Store → BoardTexts → Type 0
EndsBeforeItBegins limit held asked = (s : BoardSetting limit held asked) × (is_stop (content_of s.dataset) asked.stop ≡ true) × LiesBefore s.zone s.request

-- ---- of a feed, a zone and the values of the options

-- the departures are the board of the stop in the zone, over the span that is asked for and after its key, of the feed with the times
-- that are asked for; each is as boards show it, and its mark tells a time that the feed does not give. The span does not end before
-- it begins
pub record ListsBoard (f : Content) (z : Zone) (stop : List ℕ) (r : BoardRequest) (ds : List Listed) : Type 0 where
  pub known : is_stop f stop ≡ true
  pub forward : LiesBefore z r → ⊥
  pub board : IsBoard (timed r.times f) (zone_origin z) stop (instant_at (zone_origin z) r.from) (instant_at (zone_origin z) r.until) r.after (keys_of ds)
  pub shown : All (IsShown f) ds

-- how lines of a board go out: of a list of departures these are left, and so many lines went out whole
abbrev pub GoesOut : Type 1
GoesOut = Zone → ℕ → List Listed → List Listed → Option (List ℕ) → Option (List ℕ) → ℕ → Type 0

-- lines of that board went out so
pub record OfBoard (Out : GoesOut) (f : Content) (z : Zone) (stop : List ℕ) (r : BoardRequest) (before after : Option (List ℕ)) : Type 0 where
  pub departures : List Listed
  pub left : List Listed
  pub lines : ℕ
  pub lists : ListsBoard f z stop r departures
  pub out : Out z r.limit departures left before after lines

-- what goes out so of that board is this text, with nothing before it
abbrev pub IsTextOf : GoesOut → Content → Zone → List ℕ → BoardRequest → List ℕ → Type 0
IsTextOf Out f z stop r text = OfBoard Out f z stop r (Some []) (Some text)

-- how it ends to print a page of an open board with these departures: where they are those of a board with this limit, a page of that
-- board went out, or a part of the page
abbrev pub PrintsPage : Zone → List Listed → ℕ → Output → Output → {T : Type 0} → Result T Refusal → Type 0
PrintsPage z rest limit before after ended = (f : Content) (stop : List ℕ) (r : BoardRequest) → r.limit ≡ limit → ListsBoard f z stop r rest
    → PrintsText (IsTextOf IsPage f z stop r) (IsTextOf IsCutShort f z stop r) (IsTextOf IsStopped f z stop r) (λ _. ⊥) before after ended

-- why no board is opened
abbrev pub IsOpeningCause : Content → Zone → List ℕ → BoardRequest → Refusal → Type 0
IsOpeningCause f z stop r UnknownStop = is_stop f stop ≡ false
IsOpeningCause f z stop r UntilBeforeFrom = (is_stop f stop ≡ true) × LiesBefore z r
IsOpeningCause f z stop r OutOfMemory = ⊤
IsOpeningCause f z stop r _ = ⊥

-- ---- of a folder and a zone file

-- the text of the board that the words ask for
abbrev pub IsBoardText : GoesOut → ℕ → Option Store → BoardTexts → List ℕ → Type 0
IsBoardText Out limit held asked text = (s : BoardSetting limit held asked) × IsTextOf Out (content_of s.dataset) s.zone asked.stop s.request text

-- when a stop or a span is refused
abbrev pub IsStopCause : ℕ → Option Store → BoardTexts → Refusal → Type 0
IsStopCause limit held asked UnknownStop = LacksStop limit held asked
IsStopCause limit held asked UntilBeforeFrom = EndsBeforeItBegins limit held asked
IsStopCause limit held asked _ = ⊥

abbrev pub stop_and_span : ℕ → Option Store → BoardTexts → Judged
stop_and_span limit held asked = record { Refuses = λ before after. IsStopCause limit held asked; Holds = ⊤ }

-- the values, the folder, the zone file, the stop and the span are judged in this order
abbrev pub board_judges : ℕ → Option Store → BoardTexts → Judged
board_judges limit held asked = followed_by (values (judged_board asked)) (followed_by (feed limit held asked.dir)
    (followed_by (zone limit held asked.zone) (followed_by (stop_and_span limit held asked) sending)))

-- a page is printed: the lines of the first departures of the board, all or as many as the limit
abbrev pub board_plan : ℕ → Option Store → BoardTexts → Plan
board_plan limit held asked = prints held (board_judges limit held asked) (passed (IsBoardText IsPage limit held asked))
    (IsBoardText IsCutShort limit held asked) (IsBoardText IsStopped limit held asked) 11
