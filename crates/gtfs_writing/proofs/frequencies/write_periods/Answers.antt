use Rattle.std.proofs.Common.{◌∷◌, [], map, refl}
use Rattle.gtfs_schema.specs.Columns.{columns_of}
use Rattle.gtfs_rows.specs.Cells.{record_text}
use Rattle.gtfs_rows.specs.RowCells.{frequency_cells}
use Rattle.gtfs_rows.specs.RowsInMemory.{frequency_of}
use Rattle.gtfs_table.specs.declared.file.File.TheVariants as file
use Rattle.gtfs_writing.proofs.Taken.{loop_done, loop_step}
use Rattle.gtfs_writing.proofs.frequencies.write_periods.Goals as goal

pub loop-row-preserved : goal.loop-row-preserved
loop-row-preserved g c =
    loop_step g.S.Sink.takes
    (λ xs. map (record_text (columns_of file.Frequencies)) (map frequency_cells (map (λ y. (c.args.trip_id.now, y)) (map frequency_of xs))))
    (λ x. record_text (columns_of file.Frequencies) (frequency_cells (c.args.trip_id.now, frequency_of x)) ∷ [])
    (λ x xs. refl)
    _ _ _ c.loop-row-test.true c.row-item.is _ _ _ c.loop-row.invariant (c.in_ok-write_frequency.ensures)

pub returns : goal.returns
returns g c =
    loop_done g.S.Sink.takes
    (λ xs. map (record_text (columns_of file.Frequencies)) (map frequency_cells (map (λ y. (c.args.trip_id.now, y)) (map frequency_of xs))))
    refl _ _ c.loop-row-test.false _ _ c.loop-row.invariant
