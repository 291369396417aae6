use Rattle.std.proofs.Common.{◌≡◌, drop, map}
use Rattle.gtfs_schema.specs.Columns.{columns_of}
use Rattle.gtfs_rows.specs.Cells.{record_text}
use Rattle.gtfs_rows.specs.RowCells.{exception_cells, held_by}
use Rattle.gtfs_rows.specs.RowsInMemory.{content_of_parts, service_of}
use Rattle.gtfs_table.specs.declared.file.File.TheVariants as file
use Rattle.gtfs_writing.specs.TakenRecords.{rows_in, with_rows}
use Rattle.gtfs_writing.proofs.calendar_dates.write_exceptions.Given as goal

-- the rows that are left lead to where all rows lead
abbrev pub invariant-loop-service : goal.invariant-loop-service
invariant-loop-service g l =
    with_rows g.S.Sink.takes l.rows
    (map (record_text (columns_of file.CalendarDates)) (map exception_cells (held_by (λ s. s.service_id) (λ s. s.service.exceptions) (map service_of (drop l.service-index l.services)))))
    ≡ with_rows g.S.Sink.takes l.fn.rows (rows_in (content_of_parts l.fn.parts) file.CalendarDates)
