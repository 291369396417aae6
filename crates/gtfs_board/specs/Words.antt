-- The words of this crate's clauses, in the order in which a reader meets them: of each what it means, and where it is
-- defined. A reader starts here, and reads on in the file of a word.

-- ---- `Board::open`: a board is opened

-- the rows of a feed, with ids and texts as their bytes
pub use Rattle.gtfs_rows.specs.Content.{Content}
-- the content of a feed: its rows, with ids and headsigns in place of their numbers
pub use Rattle.gtfs_rows.specs.RowsInMemory.{content_of_parts}
-- a content with its times as given, or with the times of all trips filled
pub use Rattle.gtfs_times.specs.Filling.{timed}
-- a feed has a stop of this id
pub use Rattle.gtfs_board.specs.Board.{is_stop}
-- a span does not end before it begins, and its instants have at most twelve digits
pub use Rattle.gtfs_board.specs.BoardSpan.{is_span}
-- the board: the strictly ascending list whose members are exactly the departures that are listed
pub use Rattle.gtfs_rows.specs.Departures.{IsBoard}
-- a departure at the place of the stop, whose instant lies in the span, and which lies above the key
pub use Rattle.gtfs_rows.specs.Departures.{is_listed}
-- a run of a trip on a day of its service, at one of its departure rows, at the instant at which it passes
pub use Rattle.gtfs_rows.specs.Departures.{is_departure}
-- where each service day begins, in seconds of the epoch
pub use Rattle.gtfs_rows.specs.Departures.{Origins}
-- where a service day begins in a zone: noon less twelve hours
pub use Rattle.gtfs_days.specs.Zone.{zone_origin}
-- a departure by its instant, trip, run, sequence and service day
pub use Rattle.gtfs_rows.specs.Key.{Key}
-- the order of keys: by instant, trip, run, sequence and day
pub use Rattle.gtfs_rows.specs.Key.{key_cmp}
-- the key that a `Key` of the code stands for
pub use Rattle.gtfs_board.specs.LentKeys.{plain_key}
-- the keys of departures
pub use Rattle.gtfs_board.specs.Board.{keys_of}
-- the stop, route, headsign and mark of a departure are those that the feed's rows say
pub use Rattle.gtfs_board.specs.ShownTrips.{IsShown}
-- ---- what is left of a board, what waits, and what it costs

-- what clauses see of a board: the departures that are left, what waits, its settings, and its steps
pub use Rattle.gtfs_board.specs.Board.{BoardValue}
-- how the code's board is seen so
pub use Rattle.gtfs_board.specs.OpenedBoard.{board_value}
-- what a board holds: candidates that are departures of its feed, in order
pub use Rattle.gtfs_board.specs.OpenedBoard.{IsOpen}
-- the lanes, the latest second, the instants and the zone are those of the stop, the span and the key
pub use Rattle.gtfs_board.specs.OpenedBoard.{HasSettings}
-- what waits is left, the first that is left waits, and no more waits than lanes times days
pub use Rattle.gtfs_board.specs.Board.{IsQueued}
-- how often lanes may have been asked for the service days that may have been opened
pub use Rattle.gtfs_board.specs.Board.{steps_for_days}
-- ---- `Board::next`: the next departure

-- a departure, as a line shows it
pub use Rattle.gtfs_board.specs.LentKeys.{listed}
-- `jiff` has an instant that many seconds of the epoch
pub use Rattle.gtfs_days.specs.Zone.{IsInstant}
-- a board keeps its lanes, latest second, instants and zone
pub use Rattle.gtfs_board.specs.Board.{SameSettings}
-- how many steps a board has made, and how many of them days may have cost
pub use Rattle.gtfs_board.specs.Board.{step_count}
-- while so many departures were taken, each cost one step at most, beside the steps for days
pub use Rattle.gtfs_board.specs.Board.{AreStepsWithin}
-- how many departures an answer has: one or none
pub use Rattle.gtfs_board.specs.upcoming.Candidates.{taken}
-- ---- `write_page`: a page of a board

-- the lines of the first departures went out, at most the limit, and fewer only where nothing is left
pub use Rattle.gtfs_board.specs.BoardPage.{IsPage}
-- a page ended early, after so many whole lines
pub use Rattle.gtfs_board.specs.PageFaults.{EndsPage}
-- the output's count of failures rose where it is to blame, and else stayed
pub use Rattle.gtfs_board.specs.PageFaults.{IsCounted}
-- such a page cost a step for each departure that was taken, beside the steps for days
pub use Rattle.gtfs_board.specs.PageFaults.{AreFaultSteps}
-- ---- `push_line`: a line

-- a text grew by the line of a departure
pub use Rattle.gtfs_board.specs.BoardLines.{AppendsLine}
-- ---- `push_key` and `read_key`: keys as texts

-- the text of a key: @INSTANT/TRIP/RUN/SEQUENCE/YYYYMMDD
pub use Rattle.gtfs_board.specs.KeyTexts.{key_text}
-- the key that a text says, or its first fault
pub use Rattle.gtfs_board.specs.KeyTexts.{key_of}
-- an answer is what `key_of` says of the text
pub use Rattle.gtfs_board.specs.LentKeys.{ReadsAs}
-- the text of a key reads back: its numbers and its day lie within their limits
pub use Rattle.gtfs_rows.specs.Key.{IsInRange}
-- ---- `timetable` and `push_sheet`: the runs of a route on a day

-- a feed has a route of this id
pub use Rattle.gtfs_board.specs.Timetable.{is_route}
-- a sheet for each direction and list of stops of the trips that run on the day
pub use Rattle.gtfs_board.specs.Timetable.{sheets}
-- the sheet that a `Sheet` of the code stands for
pub use Rattle.gtfs_board.specs.LentSheets.{plain_sheet}
-- the text of a sheet: its title, its trips, and a line for each stop
pub use Rattle.gtfs_board.specs.Timetable.{sheet_text}
