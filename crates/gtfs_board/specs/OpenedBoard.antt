-- A board that was opened.
use Rattle.std.specs.Prelude.{◌≡◌, ◌≤◌, ℕ, List, All, Option, map, pos, ◌+ℤ◌}
use Rattle.gtfs_days.specs.Zone.{zone_origin}
use Rattle.gtfs_days.specs.declared.zone.Zone.{Zone}
use Rattle.gtfs_rows.specs.Content.{Content}
use Rattle.gtfs_rows.specs.declared.parts.Parts.{Parts}
use Rattle.gtfs_runs.specs.Lanes.{lane_count, latest}
use Rattle.gtfs_board.specs.Board.{BoardValue, IsQueued, keys_of, start_of, steps_for_days}
use Rattle.gtfs_rows.specs.Departures.{IsBoard}
use Rattle.gtfs_rows.specs.Key.{Key}
use Rattle.gtfs_board.specs.ShownCandidates.{IsOfFeed, candidate_key, listed_in}
use Rattle.gtfs_board.specs.ShownTrips.{IsShown}
use Rattle.gtfs_board.specs.declared.span.Span.{Span}
use Rattle.gtfs_board.specs.upcoming.Candidates.{UpcomingValue, candidate_lt}
use Rattle.gtfs_board.specs.upcoming.QueueOrder.{Each, AscendsBy}
use Rattle.gtfs_times.specs.Filling.{timed}
use Rattle.gtfs_times.specs.declared.times.Times.{Times}

-- what contracts see of a board, from the candidates that are left
abbrev pub board_value : Parts → Zone → UpcomingValue → BoardValue
board_value p z v = record {
  rest = map (listed_in p) v.rest;
  queue = map (candidate_key p) v.queue;
  lanes = v.lanes;
  latest = v.latest;
  start = v.start;
  until = v.end +ℤ pos 1;
  zone = z;
  steps = v.steps;
}

-- what a board keeps: its candidates are departures of the feed, in order
pub record IsOpen (p : Parts) (v : UpcomingValue) : Type 0 where
  pub of_feed : Each (IsOfFeed p) v.rest
  pub ascending : AscendsBy candidate_lt v.rest

-- with what a board was opened, for a stop of a feed in a zone
pub record HasSettings (f : Content) (z : Zone) (s : List ℕ) (span : Span) (after : Option Key) (b : BoardValue) : Type 0 where
  pub lanes : b.lanes ≡ lane_count f s
  pub latest : b.latest ≡ latest f s
  pub start : b.start ≡ start_of span.from after
  pub until : b.until ≡ span.until
  pub zone : b.zone ≡ z

-- the board of a stop, as it was opened: of the content under these times. What it shows is that of the rows as they are given
pub record IsOpened (times : Times) (f : Content) (z : Zone) (s : List ℕ) (span : Span) (after : Option Key) (b : BoardValue) : Type 0 where
  pub board : IsBoard (timed times f) (zone_origin z) s span.from span.until after (keys_of b.rest)
  pub shown : All (IsShown f) b.rest
  pub queued : IsQueued b
  pub settings : HasSettings (timed times f) z s span after b
  pub steps : b.steps ≤ steps_for_days b
