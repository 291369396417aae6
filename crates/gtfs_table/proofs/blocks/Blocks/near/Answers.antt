use Rattle.std.proofs.Common.{◌+◌, ◌-◌, arith}
use Rattle.gtfs_table.proofs.NearFacts.{block-tells}
use Rattle.gtfs_table.proofs.blocks.Blocks.near.Goals as goal

pub returns-clause-told : goal.returns-clause-told
returns-clause-told c =
    rw (c.as_slice-distances.ensures.value) (block-tells c.self.inside.bases.items c.self.inside.distances.items c.args.self.now c.args.start (c.args.start + c.min.result + 1 - c.args.start) c.index.result.now
    c.self.view_is c.self.invariant.enough (omega (arith, c.if-distances-last.false, c.as_slice-distances.ensures.len)) (omega arith) c.index.ensures (omega arith))
