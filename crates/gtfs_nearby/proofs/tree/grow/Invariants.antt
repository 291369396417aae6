use Rattle.gtfs_nearby.specs.AreaTree.{IsTree}
use Rattle.gtfs_nearby.proofs.Trees.{latest}
use Rattle.gtfs_nearby.proofs.tree.grow.Given as goal

abbrev pub invariant-loop-node : goal.invariant-loop-node
invariant-loop-node l = IsTree l.listed l.fn.stops.until l.tree.items

abbrev pub decreases-loop-node : goal.decreases-loop-node
decreases-loop-node l = latest l.tree.items
