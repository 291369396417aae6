use Rattle.std.proofs.Common.{◌≡◌, ℕ, cond, length, map}
use Rattle.std.specs.List.{All}
use Rattle.gtfs_rows.specs.TransferOrder.{Ascends}
use Rattle.gtfs_times.specs.TimedRows.{timed_parts}
use Rattle.gtfs_runs.specs.Tallies.{tally}
use Rattle.gtfs_runs.specs.StopIndex.{departure_row_cmp, is_this_row}
use Rattle.gtfs_runs.specs.steps.AtStops.{at_stop, departs_of}
use Rattle.gtfs_runs.specs.steps.NotedRows.{IsNoted}
use Rattle.gtfs_runs.specs.steps.IndexedTrips.{IsOfRank}
use Rattle.gtfs_runs.proofs.AtStopFacts.{done}
use Rattle.gtfs_runs.proofs.stop_index.at_stops.at_stops.Given as goal

-- those of the trips so far
abbrev pub invariant-loop-rank : goal.invariant-loop-rank
invariant-loop-rank l = record {
  length : length l.found.items ≡ length l.feed.stops;
  told : (s t r : ℕ) → tally (is_this_row t r) (at_stop (map (λ x. x.items) l.found.items) s) ≡ cond (departs_of (timed_parts l.times l.feed) s t r) (done l.trips l.rank t) 0;
  order : All (Ascends (departure_row_cmp l.feed)) (map (λ x. x.items) l.found.items);
  noted : All (All (IsNoted (timed_parts l.times l.feed))) (map (λ x. x.items) l.found.items);
  ranked : All (All (IsOfRank l.trips)) (map (λ x. x.items) l.found.items);
}
