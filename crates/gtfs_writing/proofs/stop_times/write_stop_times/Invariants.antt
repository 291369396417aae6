use Rattle.std.proofs.Common.{◌≡◌, map}
use Rattle.gtfs_schema.specs.Columns.{columns_of}
use Rattle.gtfs_rows.specs.Cells.{record_text}
use Rattle.gtfs_rows.specs.RowCells.{stop_time_cells, held_by}
use Rattle.gtfs_rows.specs.RowsInMemory.{content_of_parts}
use Rattle.gtfs_table.specs.declared.file.File.TheVariants as file
use Rattle.gtfs_writing.specs.TakenRecords.{rows_in, with_rows}
use Rattle.gtfs_writing.proofs.Items.{trips_left}
use Rattle.gtfs_writing.proofs.stop_times.write_stop_times.Given as goal

-- the rows of the trips that are left lead to where all rows lead
abbrev pub invariant-loop-n : goal.invariant-loop-n
invariant-loop-n g l =
    with_rows g.S.Sink.takes l.rows (map (record_text (columns_of file.StopTimes)) (map stop_time_cells (held_by (λ t. t.trip_id) (λ t. t.stop_rows) (trips_left l.fn.parts l.n))))
    ≡ with_rows g.S.Sink.takes l.fn.rows (rows_in (content_of_parts l.fn.parts) file.StopTimes)
