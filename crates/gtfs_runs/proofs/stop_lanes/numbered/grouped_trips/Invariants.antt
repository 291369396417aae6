use Rattle.std.proofs.Common.{◌≡◌, map, take}
use Rattle.gtfs_runs.specs.steps.TripGroups.{group_of, trip_group}
use Rattle.gtfs_runs.proofs.stop_lanes.numbered.grouped_trips.Given as goal

-- the trips so far
abbrev pub invariant-loop-n : goal.invariant-loop-n
invariant-loop-n l = map group_of l.grouped.items ≡ map (λ t. trip_group l.feed t.0) (take l.n l.trips)
