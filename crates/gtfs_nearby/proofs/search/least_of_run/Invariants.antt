use Rattle.std.proofs.Common.{◌≤◌, length}
use Rattle.gtfs_nearby.specs.AreaTree.{reach}
use Rattle.gtfs_nearby.specs.TreeSearch.{IsLeastOfRun}
use Rattle.gtfs_nearby.proofs.Searches.{after}
use Rattle.gtfs_nearby.proofs.search.least_of_run.Given as goal

-- the least of the stops that the nodes that are left do not reach
abbrev pub invariant-loop-left : goal.invariant-loop-left
invariant-loop-left l = record { within : l.left ≤ length l.tree; least : IsLeastOfRun l.area l.listed (after l.run (reach l.tree l.left)) l.fn.below l.least }

abbrev pub decreases-loop-left : goal.decreases-loop-left
decreases-loop-left l = l.left
