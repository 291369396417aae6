-- The kinds of lanes of a stop: lists have the events of trips without rows of frequencies.txt, periods those of these rows.
-- The lists stand in two: those of which each event is at a stop time with a time of its own, and the others.
-- GTFS Schedule Reference, stop_times.txt, frequencies.txt and trips.txt.
use Rattle.std.specs.Prelude.{◌≡◌, ◌+◌, ◌++◌, ℕ, All, AllPairs, Bool, true, false, not, cond, List, length, slice_get, Option, Some, option_map}
use Rattle.std.specs.List.{list_any}
use Rattle.gtfs_schema.specs.FieldValues.{if_there}
use Rattle.gtfs_rows.specs.Content.{Content}
use Rattle.gtfs_rows.specs.Rows.{Frequency, Trip}
use Rattle.gtfs_rows.specs.Runs.{is_timed}
use Rattle.gtfs_times.specs.Filling.{timed}
use Rattle.gtfs_times.specs.declared.times.Times.{Times}
use Rattle.gtfs_runs.specs.EventOrder.{is_same}
use Rattle.gtfs_runs.specs.Tallies.{tally}
use Rattle.gtfs_runs.specs.Lanes.{Course, has_periods, list_count, period_count, stops_of}
use Rattle.gtfs_runs.specs.PeriodRuns.{is_of_period}
use Rattle.gtfs_runs.specs.StopLanes.{LaneValue, StopLanesValue}
use Rattle.gtfs_runs.specs.declared.event.Event.{Event}

-- the event is of a trip without rows of frequencies.txt
abbrev pub is_of_list : Content → Event → Bool
is_of_list c e = if_there (slice_get c.trips e.trip.0) (λ t. not (has_periods t))

-- the stops of its trip's rows, the position of its row, and the service
abbrev pub course_at : Content → Event → Option Course
course_at c e = option_map (λ t. (stops_of t, e.row, t.service_id)) (slice_get c.trips e.trip.0)

-- a lane for one course of trips without rows of frequencies.txt
pub record IsListLane (c : Content) (lane : LaneValue) : Type 0 where
  pub listed : All (λ e. is_of_list c e ≡ true) lane.events
  pub alike : AllPairs (λ x y. course_at c x ≡ course_at c y) lane.events

-- a lane for one row of frequencies.txt at one stop time of its trip: an event for each run of the row, and no other
pub record IsPeriodLane (c : Content) (lane : LaneValue) : Type 0 where
  -- the event of the first run
  pub first : Event
  pub trip : Trip
  -- the row, and its index among those of the trip
  pub period : Frequency
  pub index : ℕ
  pub of_trip : slice_get c.trips first.trip.0 ≡ Some trip
  pub of_period : slice_get trip.frequencies index ≡ Some period
  pub begins : first.run ≡ period.start_time
  pub runs : (e : Event) → tally (is_same e) lane.events ≡ cond (is_of_period first period e) 1 0

-- the event is at a stop time that has no time of its own
abbrev pub is_untimed_at : Content → Event → Bool
is_untimed_at c e = if_there (slice_get c.trips e.trip.0) (λ t. if_there (slice_get t.stop_rows e.row) (λ row. not (is_timed row)))

-- an event of the lane is at a stop time that has no time of its own
abbrev pub has_untimed : Content → LaneValue → Bool
has_untimed c lane = list_any (is_untimed_at c) lane.events

-- as many lists and as many periods as defined; no run of a period stands in a list, and no other run in a period. A list
-- with an event at a stop time without a time of its own stands among the filled ones, and no other does
pub record AreByKind (times : Times) (c : Content) (s : List ℕ) (lanes : StopLanesValue) : Type 0 where
  pub lists : length lanes.lists + length lanes.filled ≡ list_count (timed times c) s
  pub periods : length lanes.periods ≡ period_count (timed times c) s
  pub listed : All (IsListLane (timed times c)) (lanes.lists ++ lanes.filled)
  pub runs : All (IsPeriodLane (timed times c)) lanes.periods
  pub given : All (λ lane. has_untimed c lane ≡ false) lanes.lists
  pub filled : All (λ lane. has_untimed c lane ≡ true) lanes.filled
