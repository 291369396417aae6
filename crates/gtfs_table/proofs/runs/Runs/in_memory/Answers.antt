use Rattle.std.proofs.Common.{refl, arith}
use Rattle.csv.specs.Records.{Rising}
use Rattle.gtfs_table.specs.FieldOffsets.{parts}
use Rattle.gtfs_table.proofs.runs.Runs.in_memory.Goals as goal

pub invariant_of-result : goal.invariant_of-result
unfolding Rising
invariant_of-result c = record { rising = rw (c.new.ensures) (omega arith); first = rw (c.new.ensures, c.clear.ensures.items) refl }

pub returns : goal.returns
unfolding parts
returns c = rw (c.new.ensures) refl
