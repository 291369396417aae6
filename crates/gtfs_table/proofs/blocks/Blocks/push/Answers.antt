use Rattle.std.proofs.Common.{◌-◌, arith}
use Rattle.gtfs_table.proofs.BlockFacts.{count-offsets, offset-pushed}
use Rattle.gtfs_table.proofs.blocks.Blocks.push.Goals as goal

pub begin_block-requires : goal.begin_block-requires
begin_block-requires c = omega (arith, count-offsets c.self.inside.bases.items c.self.inside.distances.items c.args.self.now c.self.view_is)

pub returns-clause-ok : goal.returns-clause-ok
returns-clause-ok c =
    offset-pushed c.self.inside.bases.items c.self.inside.distances.items c.args.self.now c.push.new.self.items c.len-count.result c.index.result.now (c.args.offset - c.index.result.now)
    c.args.offset c.self.view_is c.self.invariant.enough (omega arith) c.if-count-eq0.false c.index.ensures (omega arith) c.in_ok-push.ensures.items
