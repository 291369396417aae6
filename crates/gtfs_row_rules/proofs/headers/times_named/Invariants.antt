use Rattle.std.proofs.Common.{◌≡◌, take}
use Rattle.std.specs.Prelude.{bytes_eq, count_by}
use Rattle.gtfs_schema.specs.RowConditions.{header}
use Rattle.gtfs_table.specs.Rows.{records_in}
use Rattle.gtfs_row_rules.proofs.headers.times_named.Given as goal

-- the names so far
abbrev pub invariant-loop-n : goal.invariant-loop-n
invariant-loop-n l = l.times ≡ count_by (bytes_eq l.name) (take l.n (header (records_in l.tables l.file)))
