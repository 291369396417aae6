use Rattle.std.proofs.Common.{◌≡◌, drop, map}
use Rattle.gtfs_schema.specs.Columns.{columns_of}
use Rattle.gtfs_rows.specs.Cells.{record_text}
use Rattle.gtfs_rows.specs.RowCells.{stop_time_cells}
use Rattle.gtfs_rows.specs.RowsInMemory.{stop_row_of}
use Rattle.gtfs_table.specs.declared.file.File.TheVariants as file
use Rattle.gtfs_writing.specs.TakenRecords.{with_rows}
use Rattle.gtfs_writing.proofs.stop_times.write_trip_rows.Given as goal

-- the rows that are left lead to where all rows lead
abbrev pub invariant-loop-row : goal.invariant-loop-row
invariant-loop-row g l =
    with_rows g.S.Sink.takes l.rows
    (map (record_text (columns_of file.StopTimes)) (map stop_time_cells (map (λ y. (l.fn.trip_id, y)) (map (stop_row_of l.fn.parts) (drop l.row-index l.stop_rows)))))
    ≡ with_rows g.S.Sink.takes l.fn.rows (map (record_text (columns_of file.StopTimes)) (map stop_time_cells (map (λ y. (l.fn.trip_id, y)) (map (stop_row_of l.fn.parts) l.fn.stop_rows))))
