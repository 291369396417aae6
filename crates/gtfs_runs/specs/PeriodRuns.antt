-- The events of a period: one for each of its runs.
-- GTFS Schedule Reference, frequencies.txt.
use Rattle.std.specs.Prelude.{ℕ, ◌+◌, ◌*◌, ◌-◌, ◌&&◌, Bool, List, map}
use Rattle.std.specs.List.{range_with_len}
use Rattle.gtfs_rows.specs.Rows.{Frequency}
use Rattle.gtfs_runs.specs.declared.event.Event.{Event}
use Rattle.gtfs_runs.specs.EventOrder.{is_same}
use Rattle.gtfs_rows.specs.Runs.{starts_run}

-- the event of the run with this number, from 0
abbrev pub run_event : Event → ℕ → ℕ → Event
run_event first headway n = record first { at = first.at + n * headway; run = first.run + n * headway }

-- this many events, each a headway after the one before
unfoldable pub run_events : Event → ℕ → ℕ → List Event
run_events first headway count = map (run_event first headway) (range_with_len 0 count)

-- the event of the run that starts at a second: as much later than the first as it starts later
abbrev pub event_of_run : Event → ℕ → Event
event_of_run first r = record first { at = first.at + (r - first.run); run = r }

-- the event is that of a run of the period
abbrev pub is_of_period : Event → Frequency → Event → Bool
is_of_period first f e = starts_run f e.run && is_same e (event_of_run first e.run)
