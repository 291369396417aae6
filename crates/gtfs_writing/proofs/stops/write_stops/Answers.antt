use Rattle.std.proofs.Common.{◌∷◌, [], map, refl}
use Rattle.gtfs_schema.specs.Columns.{columns_of}
use Rattle.gtfs_rows.specs.Cells.{record_text}
use Rattle.gtfs_rows.specs.RowCells.{stop_cells}
use Rattle.gtfs_rows.specs.RowsInMemory.{names_stop, stop_of}
use Rattle.gtfs_table.specs.declared.file.File.TheVariants as file
use Rattle.gtfs_writing.proofs.Items.{item_passes}
use Rattle.gtfs_writing.proofs.Taken.{loop_done, loop_step}
use Rattle.gtfs_writing.proofs.stops.write_stops.Goals as goal

pub write_stop-requires : goal.write_stop-requires
write_stop-requires g c =
    item_passes (λ s. names_stop c.args.parts.now s.parent_station) _ _ _ _ c.as_slice-stops.ensures c.requires.names_rows.stops c.loop-stop-test.true c.stop-item.is

pub loop-stop-preserved : goal.loop-stop-preserved
loop-stop-preserved g c =
    loop_step g.S.Sink.takes
    (λ xs. map (record_text (columns_of file.Stops)) (map stop_cells (map (stop_of c.args.parts.now) xs)))
    (λ x. record_text (columns_of file.Stops) (stop_cells (stop_of c.args.parts.now x)) ∷ [])
    (λ x xs. refl)
    _ _ _ c.loop-stop-test.true c.stop-item.is _ _ _ c.loop-stop.invariant (c.in_ok-write_stop.ensures)

pub returns : goal.returns
returns g c =
    loop_done g.S.Sink.takes
    (λ xs. map (record_text (columns_of file.Stops)) (map stop_cells (map (stop_of c.args.parts.now) xs)))
    refl _ _ c.loop-stop-test.false _ _ c.loop-stop.invariant
