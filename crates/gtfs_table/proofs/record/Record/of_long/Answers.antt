use Rattle.std.proofs.Common.{refl, arith}
use Rattle.csv.specs.Records.{AllText, Rising}
use Rattle.gtfs_table.specs.FieldOffsets.{between}
use Rattle.gtfs_table.proofs.record.Record.of_long.Goals as goal

pub invariant_of-result : goal.invariant_of-result
unfolding Rising AllText between
invariant_of-result c =
    record { marks = omega arith; text = tt; rising = c.requires.start; within = c.requires.end; near = c.near.ensures; few = omega arith }

pub returns : goal.returns
unfolding between
returns c = refl
