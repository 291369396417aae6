use Rattle.std.proofs.Common.{refl}
use Rattle.std.proofs.lemmas.List.Elements.{All-nil}
use Rattle.gtfs_table.specs.StoredRecords.{IsRun}
use Rattle.gtfs_table.proofs.short_records.ShortRecords.in_memory.Goals as goal

pub invariant_of-result : goal.invariant_of-result
invariant_of-result c = rw (c.in_memory.ensures) (All-nil IsRun)

pub returns : goal.returns
returns c = rw (c.in_memory.ensures) refl
