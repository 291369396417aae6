use Rattle.std.proofs.Common.{◌≡◌, drop, map}
use Rattle.gtfs_schema.specs.Columns.{columns_of}
use Rattle.gtfs_rows.specs.Cells.{record_text}
use Rattle.gtfs_rows.specs.RowCells.{exception_cells}
use Rattle.gtfs_table.specs.declared.file.File.TheVariants as file
use Rattle.gtfs_writing.specs.TakenRecords.{with_rows}
use Rattle.gtfs_writing.proofs.calendar_dates.write_days.Given as goal

-- the rows that are left lead to where all rows lead
abbrev pub invariant-loop-exception : goal.invariant-loop-exception
invariant-loop-exception g l =
    with_rows g.S.Sink.takes l.rows
    (map (record_text (columns_of file.CalendarDates)) (map exception_cells (map (λ y. (l.fn.row.service_id, y)) (drop l.exception-index l.exceptions))))
    ≡ with_rows g.S.Sink.takes l.fn.rows (map (record_text (columns_of file.CalendarDates)) (map exception_cells (map (λ y. (l.fn.row.service_id, y)) l.fn.row.service.exceptions)))
