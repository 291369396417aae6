-- What the departures of a stop are, as `Days` has them, and what the departures that are still to come keep.
use Rattle.std.specs.Prelude.{ℕ, Bool, ℤ, pos, ◌+ℤ◌, ◌≤ℤ◌, List, Option, length, ◌++◌}
use Rattle.std.specs.Option.{option_to_list}
use Rattle.gtfs_days.specs.Service.{first_service_day, last_service_day}
use Rattle.gtfs_days.specs.Zone.{zone_origin}
use Rattle.gtfs_runs.specs.StopLanes.{lanes_of}
use Rattle.gtfs_board.specs.Board.{low_mark}
use Rattle.gtfs_board.specs.LaneDays.{all_departures, departures_on, lane_at, serves_on}
use Rattle.gtfs_board.specs.declared.service_days.Days.{Days}
use Rattle.gtfs_board.specs.declared.upcoming.candidate.Candidate.{Candidate}
use Rattle.gtfs_board.specs.upcoming.Candidates.{IsWaiting, UpcomingValue, rest_above}
use Rattle.gtfs_board.specs.upcoming.OpenedLanes.{Events, IsFrom}

abbrev pub count_of : Days → ℕ
count_of s = length (lanes_of s.lanes)

-- the service of a lane runs on a day
abbrev pub serves_in : Days → ℕ → ℤ → Bool
serves_in s i d = serves_on s.feed.now (lane_at s.lanes i).service d

abbrev pub events_of : Days → Events Candidate
events_of s = departures_on s.feed.now (zone_origin s.zone.now) s.lanes s.end

-- those of all lanes and all days
abbrev pub all_of : Days → List Candidate
all_of s = all_departures s.feed.now (zone_origin s.zone.now) s.lanes s.end

-- what contracts see of the departures above a floor, of which these wait
abbrev pub upcoming_value : Days → ℤ → Candidate → Option Candidate → List Candidate → ℕ → UpcomingValue
upcoming_value s start floor first others steps = record {
  rest = rest_above (all_of s) floor;
  queue = option_to_list first ++ others;
  lanes = count_of s;
  latest = s.lanes.greatest;
  start = start;
  end = s.end;
  steps = steps;
}

-- what waits of them, where this is the first day that is not opened
pub record IsUpcoming (s : Days) (start : ℤ) (floor : Candidate) (first : Option Candidate) (others : List Candidate) (day : ℤ) : Type 0 where
  pub waiting : IsWaiting (events_of s) s.end last_service_day floor first others day
  pub low_in : IsFrom (low_mark s.lanes.greatest start) last_service_day day
  pub from_in : first_service_day ≤ℤ day
  pub to_in : day ≤ℤ (last_service_day +ℤ pos 1)
