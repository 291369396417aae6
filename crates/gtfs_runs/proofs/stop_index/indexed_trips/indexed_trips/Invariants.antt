use Rattle.std.proofs.Common.{◌≡◌, ◌<◌, ◌-◌, ℕ, get_or, length}
use Rattle.gtfs_runs.specs.declared.stop_index.indexed_trips.IndexedTrip.{IndexedTrip}
use Rattle.gtfs_runs.specs.steps.TripGroups.{GroupedTripValue, below, group_of}
use Rattle.gtfs_runs.specs.steps.IndexedTrips.{IsIndexedTrip}
use Rattle.gtfs_runs.proofs.stop_index.indexed_trips.indexed_trips.Given as goal

-- the trips so far, of which the last has this group
abbrev pub invariant-loop-rank : goal.invariant-loop-rank
invariant-loop-rank l = record {
  counted : length l.trips.items ≡ l.rank;
  each : (n : ℕ) (d : GroupedTripValue) (e : IndexedTrip) → n < l.rank → IsIndexedTrip l.feed (get_or l.sorted n d).trip.0 (get_or l.trips.items n e);
  group : (d : GroupedTripValue) → 0 < l.rank → l.group ≡ below l.sorted (group_of (get_or l.sorted (l.rank - 1) d));
}
