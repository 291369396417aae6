use Rattle.std.proofs.Common.{◌++◌, ◌-◌, arith}
use Rattle.csv.specs.Records.{fields_of}
use Rattle.gtfs_table.specs.FieldOffsets.{starts_of}
use Rattle.gtfs_table.proofs.BlockFacts.{AreInBlocks, starts-pushed}
use Rattle.gtfs_table.proofs.blocks.Blocks.append.Goals as goal
use Rattle.gtfs_table.proofs.blocks.Blocks.append.Goals.{After-drop-self-inside}

added : (c : After-drop-self-inside) → AreInBlocks c.self.inside.bases.items c.push_starts-distances.result.0.items (c.args.self.now ++ starts_of c.args.first (fields_of c.args.row.now))
added c =
    starts-pushed c.self.inside.bases.items c.self.inside.distances.items c.args.self.now c.push_starts-distances.result.0.items c.len-count.result c.index.result.now
    (c.args.first - c.index.result.now) c.args.first (fields_of c.args.row.now) (record { enough = c.self.invariant.enough; begun = c.self.invariant.begun; value = c.self.view_is }) (omega arith)
    c.if-begun-eq0.false (omega arith) c.index.ensures (omega arith) (rw (c.replace-distances.ensures.value, c.reserve.ensures.items) at c.push_starts-distances.ensures.starts)

pub invariant_of-self-2 : goal.invariant_of-self-2
invariant_of-self-2 c = record { enough = (added c).enough; begun = (added c).begun }

pub returns-clause-starts : goal.returns-clause-starts
returns-clause-starts c = (added c).value
