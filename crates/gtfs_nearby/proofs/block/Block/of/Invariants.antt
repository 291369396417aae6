use Rattle.gtfs_nearby.specs.AreaTree.{IsBlock}
use Rattle.gtfs_nearby.proofs.Blocks.{stops}
use Rattle.gtfs_nearby.proofs.block.Block.of.Given as goal

-- the block of the stops so far
abbrev pub invariant-loop-number : goal.invariant-loop-number
invariant-loop-number l = IsBlock l.listed (stops l.fn.stops.from l.number) l.block
