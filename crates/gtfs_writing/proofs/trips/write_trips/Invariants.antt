use Rattle.std.proofs.Common.{◌≡◌, map}
use Rattle.gtfs_schema.specs.Columns.{columns_of}
use Rattle.gtfs_rows.specs.Cells.{record_text}
use Rattle.gtfs_rows.specs.RowCells.{trip_cells}
use Rattle.gtfs_rows.specs.RowsInMemory.{content_of_parts}
use Rattle.gtfs_table.specs.declared.file.File.TheVariants as file
use Rattle.gtfs_writing.specs.TakenRecords.{rows_in, with_rows}
use Rattle.gtfs_writing.proofs.Items.{trips_left}
use Rattle.gtfs_writing.proofs.trips.write_trips.Given as goal

-- the rows of the trips that are left lead to where all rows lead
abbrev pub invariant-loop-trip : goal.invariant-loop-trip
invariant-loop-trip g l =
    with_rows g.S.Sink.takes l.rows (map (record_text (columns_of file.Trips)) (map trip_cells (trips_left l.fn.parts l.trip-index)))
    ≡ with_rows g.S.Sink.takes l.fn.rows (rows_in (content_of_parts l.fn.parts) file.Trips)
