use Rattle.std.proofs.Common.{◌≡◌, ◌+◌, ◌==◌, ◌&&◌, ℕ, Some, cond, nat_lt}
use Rattle.std.specs.List.{slice_get}
use Rattle.gtfs_rows.specs.Trips.{stop_rows_by_trip}
use Rattle.gtfs_rows.specs.RowsInMemory.{content_of_parts, stop_ids, text_of_number}
use Rattle.gtfs_times.specs.TimedRows.{timed_parts}
use Rattle.gtfs_times.specs.declared.times.Times.{Times}
use Rattle.gtfs_runs.specs.Tallies.{tally}
use Rattle.gtfs_runs.specs.FlatEvents.{is_event_of, is_served}
use Rattle.gtfs_rows.specs.Places.{members}
use Rattle.gtfs_runs.specs.declared.event.Event.{Event}
use Rattle.gtfs_runs.proofs.flat.push_rows.Given as goal

-- those of the stop times so far
abbrev pub invariant-loop-position : goal.invariant-loop-position
invariant-loop-position l = (times : Times) (s service : ℕ) (e : Event) → l.place ≡ members (content_of_parts l.feed) (text_of_number (stop_ids l.feed) s)
    → slice_get (stop_rows_by_trip (timed_parts times l.feed)) l.trip.0 ≡ Some l.rows
    → tally (is_served service e) l.events.items
    ≡ tally (is_served service e) l.fn.events.items + cond ((e.trip.0 == l.trip.0) && nat_lt e.row l.position && is_event_of (timed_parts times l.feed) s service e) 1 0
