use Rattle.std.proofs.Common.{◌≡◌, map, take}
use Rattle.std.specs.List.{All}
use Rattle.gtfs_runs.specs.StopLanes.{period_value}
use Rattle.gtfs_runs.specs.steps.IndexedTrips.{group_number}
use Rattle.gtfs_runs.specs.steps.FoundAtRow.{AreAdded}
use Rattle.gtfs_runs.proofs.stop_lanes.indexed.add_rows.Given as goal

-- what the rows so far add
abbrev pub invariant-loop-row : goal.invariant-loop-row
invariant-loop-row l = record {
  added : AreAdded l.feed (take l.row-index l.rows) l.fn.found.listed.items l.found.listed.items (map period_value l.fn.found.periods.items) (map period_value l.found.periods.items);
  groups : All (λ x. group_number l.feed x.trip ≡ x.group) l.fn.found.listed.items → All (λ x. group_number l.feed x.trip ≡ x.group) l.found.listed.items;
}
