use Rattle.std.proofs.Common.{arith}
use Rattle.gtfs_table.proofs.BlockFacts.{count-offsets}
use Rattle.gtfs_table.proofs.blocks.Blocks.len.Goals as goal

pub returns-clause-count : goal.returns-clause-count
returns-clause-count c = omega (arith, count-offsets c.self.inside.bases.items c.self.inside.distances.items c.args.self.now c.self.view_is)

pub returns-clause-small : goal.returns-clause-small
returns-clause-small c = omega (arith, c.as_slice.type_inv)
