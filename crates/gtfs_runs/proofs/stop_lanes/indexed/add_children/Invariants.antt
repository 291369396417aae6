use Rattle.std.proofs.Common.{◌≡◌, map, take}
use Rattle.std.specs.List.{All}
use Rattle.gtfs_runs.specs.StopLanes.{period_value}
use Rattle.gtfs_runs.specs.steps.IndexedTrips.{group_number}
use Rattle.gtfs_runs.specs.steps.FoundAtRow.{AreAdded}
use Rattle.gtfs_runs.proofs.IndexRows.{children_rows}
use Rattle.gtfs_runs.proofs.stop_lanes.indexed.add_children.Given as goal

-- what the rows of the children so far add
abbrev pub invariant-loop-child : goal.invariant-loop-child
invariant-loop-child l = record {
  added : AreAdded l.index.feed (children_rows l.index.rows (take l.child-index l.children)) l.fn.found.listed.items l.found.listed.items
      (map period_value l.fn.found.periods.items) (map period_value l.found.periods.items);
  groups : All (λ x. group_number l.index.feed x.trip ≡ x.group) l.fn.found.listed.items → All (λ x. group_number l.index.feed x.trip ≡ x.group) l.found.listed.items;
}
