use Rattle.gtfs_runs.specs.steps.TripGroups.{AreOfTrips}
use Rattle.gtfs_runs.proofs.stop_index.indexed_trips.grouped_trips.Given as goal

-- the trips so far
abbrev pub invariant-loop-number : goal.invariant-loop-number
invariant-loop-number l = AreOfTrips l.feed l.number l.trips.items
