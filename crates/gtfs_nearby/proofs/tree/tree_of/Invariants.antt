use Rattle.std.proofs.Common.{◌*◌, length, min}
use Rattle.gtfs_nearby.specs.AreaTree.{IsTree}
use Rattle.gtfs_nearby.specs.declared.tree.TheConstants.{LEAF}
use Rattle.gtfs_nearby.proofs.tree.tree_of.Given as goal

-- the nodes so far
abbrev pub invariant-loop-number : goal.invariant-loop-number
invariant-loop-number l = IsTree l.listed (min (length l.listed) (l.number * LEAF)) l.tree.items
