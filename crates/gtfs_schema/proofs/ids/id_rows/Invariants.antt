use Rattle.std.proofs.Common.{◌≡◌, map}
use Rattle.gtfs_table.specs.Rows.{numbers}
use Rattle.gtfs_schema.specs.RowConditions.{text_in}
use Rattle.gtfs_schema.specs.steps.IdRows.{id_and_row}
use Rattle.gtfs_schema.proofs.ids.id_rows.Given as goal

-- the rows so far are listed
abbrev pub invariant-loop-row : goal.invariant-loop-row
invariant-loop-row l = map id_and_row l.rows.items ≡ map (λ n. (text_in l.tables l.fn.file n l.fn.column, n)) (numbers l.yielded)
