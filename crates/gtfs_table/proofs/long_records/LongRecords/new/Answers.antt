use Rattle.std.proofs.Common.{refl, arith, ◌<◌, List, ℕ, length}
use Rattle.csv.specs.Records.{Rising}
use Rattle.std.proofs.lemmas.List.Elements.{All-nil}
use Rattle.gtfs_table.specs.FieldOffsets.{parts}
use Rattle.gtfs_table.proofs.long_records.LongRecords.new.Goals as goal

pub invariant_of-result : goal.invariant_of-result
unfolding Rising parts
invariant_of-result c = rw (c.new-2.ensures) (record { rising = omega arith; filled = All-nil (λ (r : List (List ℕ)). 0 < length r) })

pub returns : goal.returns
unfolding parts
returns c = rw (c.new-2.ensures) refl
