-- The events of a stop: each run of a trip that passes a departure row at its place, whatever the day.
-- GTFS Schedule Reference, stop_times.txt, frequencies.txt and trips.txt.
use Rattle.std.specs.Prelude.{ℕ, ◌==◌, ◌&&◌, Bool, List, bytes_eq, slice_get}
use Rattle.gtfs_schema.specs.FieldValues.{if_there}
use Rattle.gtfs_rows.specs.Content.{Content}
use Rattle.gtfs_rows.specs.Places.{is_in_place}
use Rattle.gtfs_rows.specs.Runs.{is_run, is_departure_row, passes_at}
use Rattle.gtfs_runs.specs.declared.event.Event.{Event}

-- the event belongs to a trip of the service, one of its runs and one of its departure rows at the place of the stop
abbrev pub is_event : Content → List ℕ → List ℕ → Event → Bool
is_event c s service e = if_there (slice_get c.trips e.trip.0) (λ t. bytes_eq t.service_id service && is_run t e.run
    && if_there (slice_get t.stop_rows e.row) (λ row. (row.stop_sequence == e.seq) && is_departure_row t row
    && is_in_place c s row.stop_id && (passes_at t e.run row == e.at)))
