use Rattle.std.proofs.Common.{◌≡◌, drop, map}
use Rattle.gtfs_schema.specs.Columns.{columns_of}
use Rattle.gtfs_rows.specs.Cells.{record_text}
use Rattle.gtfs_rows.specs.RowCells.{frequency_cells}
use Rattle.gtfs_rows.specs.RowsInMemory.{frequency_of}
use Rattle.gtfs_table.specs.declared.file.File.TheVariants as file
use Rattle.gtfs_writing.specs.TakenRecords.{with_rows}
use Rattle.gtfs_writing.proofs.frequencies.write_periods.Given as goal

-- the rows that are left lead to where all rows lead
abbrev pub invariant-loop-row : goal.invariant-loop-row
invariant-loop-row g l =
    with_rows g.S.Sink.takes l.rows
    (map (record_text (columns_of file.Frequencies)) (map frequency_cells (map (λ y. (l.fn.trip_id, y)) (map frequency_of (drop l.row-index l.frequencies)))))
    ≡ with_rows g.S.Sink.takes l.fn.rows (map (record_text (columns_of file.Frequencies)) (map frequency_cells (map (λ y. (l.fn.trip_id, y)) (map frequency_of l.fn.frequencies))))
