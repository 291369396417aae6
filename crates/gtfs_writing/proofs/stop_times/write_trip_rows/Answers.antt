use Rattle.std.proofs.Common.{◌∷◌, [], map, refl}
use Rattle.gtfs_schema.specs.Columns.{columns_of}
use Rattle.gtfs_rows.specs.Cells.{record_text}
use Rattle.gtfs_rows.specs.RowCells.{stop_time_cells}
use Rattle.gtfs_rows.specs.RowsInMemory.{stop_row_of, stop_time_names_rows}
use Rattle.gtfs_table.specs.declared.file.File.TheVariants as file
use Rattle.gtfs_writing.proofs.Items.{item_passes}
use Rattle.gtfs_writing.proofs.Taken.{loop_done, loop_step}
use Rattle.gtfs_writing.proofs.stop_times.write_trip_rows.Goals as goal

pub write_stop_time-requires-clause-names : goal.write_stop_time-requires-clause-names
write_stop_time-requires-clause-names g c =
    item_passes (stop_time_names_rows c.args.parts.now) _ _ _ _ refl c.requires.names c.loop-row-test.true c.row-item.is

pub loop-row-preserved : goal.loop-row-preserved
loop-row-preserved g c =
    loop_step g.S.Sink.takes
    (λ xs. map (record_text (columns_of file.StopTimes)) (map stop_time_cells (map (λ y. (c.args.trip_id.now, y)) (map (stop_row_of c.args.parts.now) xs))))
    (λ x. record_text (columns_of file.StopTimes) (stop_time_cells (c.args.trip_id.now, stop_row_of c.args.parts.now x)) ∷ [])
    (λ x xs. refl)
    _ _ _ c.loop-row-test.true c.row-item.is _ _ _ c.loop-row.invariant (c.in_ok-write_stop_time.ensures)

pub returns : goal.returns
returns g c =
    loop_done g.S.Sink.takes
    (λ xs. map (record_text (columns_of file.StopTimes)) (map stop_time_cells (map (λ y. (c.args.trip_id.now, y)) (map (stop_row_of c.args.parts.now) xs))))
    refl _ _ c.loop-row-test.false _ _ c.loop-row.invariant
