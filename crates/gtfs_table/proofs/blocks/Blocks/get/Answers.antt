use Rattle.std.proofs.Common.{arith}
use Rattle.gtfs_table.proofs.BlockFacts.{count-offsets, offset-read}
use Rattle.gtfs_table.proofs.blocks.Blocks.get.Goals as goal

pub index-requires : goal.index-requires
index-requires c = omega (arith, count-offsets c.self.inside.bases.items c.self.inside.distances.items c.args.self.now c.self.view_is)

pub index-requires-2 : goal.index-requires-2
index-requires-2 c = omega (arith, count-offsets c.self.inside.bases.items c.self.inside.distances.items c.args.self.now c.self.view_is)

pub returns : goal.returns
returns c =
    offset-read c.self.inside.bases.items c.self.inside.distances.items c.args.self.now c.args.i c.index.result.now c.index-2.result.now c.self.view_is c.self.invariant.enough c.requires
    c.index.ensures c.index-2.ensures
