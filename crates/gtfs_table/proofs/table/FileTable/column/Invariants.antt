use Rattle.std.proofs.Common.{◌≡◌, None, take}
use Rattle.std.specs.Prelude.{position, bytes_eq}
use Rattle.gtfs_table.specs.Blanks.{cut}
use Rattle.gtfs_table.specs.Tables.{record_at, table_records}
use Rattle.gtfs_table.proofs.table.FileTable.column.Given as goal

abbrev pub invariant-loop-n : goal.invariant-loop-n
invariant-loop-n l = position (λ column. bytes_eq (cut column) l.fn.name) (take l.n (record_at (table_records l.fn.self) 1)) ≡ None
