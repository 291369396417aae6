use Rattle.std.proofs.Common.{◌≡◌, drop, map}
use Rattle.gtfs_schema.specs.Columns.{columns_of}
use Rattle.gtfs_rows.specs.Cells.{record_text}
use Rattle.gtfs_rows.specs.RowCells.{stop_cells}
use Rattle.gtfs_rows.specs.RowsInMemory.{content_of_parts, stop_of}
use Rattle.gtfs_table.specs.declared.file.File.TheVariants as file
use Rattle.gtfs_writing.specs.TakenRecords.{rows_in, with_rows}
use Rattle.gtfs_writing.proofs.stops.write_stops.Given as goal

-- the rows that are left lead to where all rows lead
abbrev pub invariant-loop-stop : goal.invariant-loop-stop
invariant-loop-stop g l =
    with_rows g.S.Sink.takes l.rows
    (map (record_text (columns_of file.Stops)) (map stop_cells (map (stop_of l.fn.parts) (drop l.stop-index l.stops))))
    ≡ with_rows g.S.Sink.takes l.fn.rows (rows_in (content_of_parts l.fn.parts) file.Stops)
