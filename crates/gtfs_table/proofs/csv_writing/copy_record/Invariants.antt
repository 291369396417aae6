use Rattle.std.proofs.Common.{◌≡◌, [], take}
use Rattle.csv.specs.Records.{fields_of, partial_of}
use Rattle.gtfs_table.proofs.csv_writing.copy_record.Given as goal

abbrev pub invariant-loop-n : goal.invariant-loop-n
invariant-loop-n l = (partial_of l.row ≡ []) × (fields_of l.row ≡ take l.n l.fields)
