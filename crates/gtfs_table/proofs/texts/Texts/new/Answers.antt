use Rattle.std.proofs.Common.{refl, arith}
use Rattle.csv.specs.Records.{AllText, Rising}
use Rattle.gtfs_table.specs.FieldOffsets.{parts}
use Rattle.gtfs_table.proofs.texts.Texts.new.Goals as goal

pub invariant_of-result : goal.invariant_of-result
unfolding AllText Rising parts
invariant_of-result c = rw (c.new-2.ensures) (record { rising = omega arith; utf8 = tt })

pub returns : goal.returns
unfolding parts
returns c = rw (c.new-2.ensures) refl
