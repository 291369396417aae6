use Rattle.std.proofs.Common.{◌≡◌, ◌+◌, ◌==◌, ◌&&◌, ℕ, Bool, true, List, Some, cond, length, map, nat_lt}
use Rattle.std.specs.List.{All, slice_get}
use Rattle.gtfs_schema.specs.FieldValues.{if_there}
use Rattle.gtfs_rows.specs.Trips.{stop_rows_by_trip}
use Rattle.gtfs_rows.specs.declared.frequency.Frequency.{Frequency}
use Rattle.gtfs_rows.specs.declared.parts.Parts.{Parts}
use Rattle.gtfs_rows.specs.declared.trip.Trip.{Trip}
use Rattle.gtfs_runs.specs.Tallies.{tally}
use Rattle.gtfs_runs.specs.StopIndex.{is_this_row}
use Rattle.gtfs_runs.specs.steps.AtStops.{StandBefore, at_stop, leaves_stop}
use Rattle.gtfs_runs.specs.steps.NotedRows.{IsNoted}
use Rattle.gtfs_runs.proofs.stop_index.at_stops.add_rows.Given as goal

-- those of the stop times so far
abbrev pub invariant-loop-position : goal.invariant-loop-position
invariant-loop-position l = record {
  length : length l.found.items ≡ length l.fn.found.items;
  told : (s t r : ℕ) (p : Parts) (u : Trip) (fs : List Frequency) → tally (is_this_row t r) (at_stop (map (λ x. x.items) l.found.items) s)
      ≡ tally (is_this_row t r) (at_stop (map (λ x. x.items) l.fn.found.items) s)
      + cond ((t == l.trip.0) && nat_lt r l.position && if_there (slice_get l.rows r) (leaves_stop p u l.rows fs s)) 1 0;
  order : (p : Parts) → All (StandBefore p l.trip.0 0) (map (λ x. x.items) l.fn.found.items) → All (StandBefore p l.trip.0 l.position) (map (λ x. x.items) l.found.items);
  noted : (p : Parts) → slice_get (stop_rows_by_trip p) l.trip.0 ≡ Some l.rows → All (All (IsNoted p)) (map (λ x. x.items) l.fn.found.items) → All (All (IsNoted p)) (map (λ x. x.items) l.found.items);
  ranked : (q : ℕ → ℕ → Bool) → q l.trip.0 l.rank ≡ true → All (All (λ x. q x.trip x.rank ≡ true)) (map (λ x. x.items) l.fn.found.items)
      → All (All (λ x. q x.trip x.rank ≡ true)) (map (λ x. x.items) l.found.items);
}
