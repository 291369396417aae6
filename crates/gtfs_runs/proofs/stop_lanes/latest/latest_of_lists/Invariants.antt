use Rattle.std.proofs.Common.{◌≡◌, map, take}
use Rattle.std.specs.List.{flat_map}
use Rattle.gtfs_runs.specs.StopLanes.{list_value}
use Rattle.gtfs_runs.specs.steps.LatestOfLists.{latest_of}
use Rattle.gtfs_runs.proofs.stop_lanes.latest.latest_of_lists.Given as goal

-- the latest of the lanes so far
abbrev pub invariant-loop-lane : goal.invariant-loop-lane
invariant-loop-lane l = l.latest ≡ latest_of (flat_map (λ lane. lane.events) (map list_value (take l.lane-index l.lists)))
