use Rattle.std.proofs.Common.{◌≡◌, ◌<◌, ◌+◌, ◌==◌, ◌&&◌, ℕ, List, Some, cond, length, nat_lt}
use Rattle.std.specs.List.{All, slice_get}
use Rattle.gtfs_schema.specs.FieldValues.{if_there}
use Rattle.gtfs_rows.specs.Places.{members}
use Rattle.gtfs_rows.specs.Trips.{stop_rows_by_trip}
use Rattle.gtfs_rows.specs.RowsInMemory.{content_of_parts, stop_ids, text_of_number}
use Rattle.gtfs_rows.specs.declared.frequency.Frequency.{Frequency}
use Rattle.gtfs_rows.specs.declared.parts.Parts.{Parts}
use Rattle.gtfs_rows.specs.declared.trip.Trip.{Trip}
use Rattle.gtfs_runs.specs.Tallies.{tally}
use Rattle.gtfs_runs.specs.StopIndex.{is_this_row}
use Rattle.gtfs_runs.specs.steps.NotedRows.{IsNoted}
use Rattle.gtfs_runs.specs.steps.Passings.{leaves}
use Rattle.gtfs_runs.specs.steps.FoundAtRow.{IsInside}
use Rattle.gtfs_runs.proofs.stop_lanes.place_rows.add_stop_times.Given as goal

-- those of the stop times so far
abbrev pub invariant-loop-position : goal.invariant-loop-position
invariant-loop-position l = record {
  told : (p : Parts) (s t r : ℕ) (u : Trip) (fs : List Frequency) → l.place ≡ members (content_of_parts p) (text_of_number (stop_ids p) s)
      → tally (is_this_row t r) l.found.items
      ≡ tally (is_this_row t r) l.fn.found.items + cond ((t == l.trip.0) && nat_lt r l.position && if_there (slice_get l.rows r) (λ x. leaves p s u l.rows fs (r, x))) 1 0;
  noted : (p : Parts) → slice_get (stop_rows_by_trip p) l.trip.0 ≡ Some l.rows → All (IsNoted p) l.fn.found.items → All (IsNoted p) l.found.items;
  inside : (p : Parts) → l.trip.0 < length p.trips → All (IsInside p) l.fn.found.items → All (IsInside p) l.found.items;
}
