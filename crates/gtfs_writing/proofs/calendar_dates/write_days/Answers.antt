use Rattle.std.proofs.Common.{◌∙◌, ◌∷◌, [], ap, map, refl}
use Rattle.gtfs_schema.specs.Columns.{columns_of}
use Rattle.gtfs_rows.specs.Cells.{record_text}
use Rattle.gtfs_rows.specs.RowCells.{exception_cells}
use Rattle.gtfs_table.specs.declared.file.File.TheVariants as file
use Rattle.gtfs_writing.specs.TakenRecords.{with_row}
use Rattle.gtfs_writing.proofs.Taken.{loop_done, loop_step}
use Rattle.gtfs_writing.proofs.calendar_dates.write_days.Goals as goal

pub loop-exception-preserved : goal.loop-exception-preserved
loop-exception-preserved g c =
    loop_step g.S.Sink.takes
    (λ xs. map (record_text (columns_of file.CalendarDates)) (map exception_cells (map (λ y. (c.args.row.now.service_id, y)) xs)))
    (λ x. record_text (columns_of file.CalendarDates) (exception_cells (c.args.row.now.service_id, x)) ∷ [])
    (λ x xs. refl)
    _ _ _ c.loop-exception-test.true c.exception-item.is _ _ _ c.loop-exception.invariant (c.in_ok-write_exception.ensures
    ∙ ap (λ id. with_row g.S.Sink.takes c.loop-exception.rows (record_text (columns_of file.CalendarDates) (exception_cells (id, c.exception-item.result)))) c.as_str.ensures)

pub returns : goal.returns
returns g c =
    loop_done g.S.Sink.takes
    (λ xs. map (record_text (columns_of file.CalendarDates)) (map exception_cells (map (λ y. (c.args.row.now.service_id, y)) xs)))
    refl _ _ c.loop-exception-test.false _ _ c.loop-exception.invariant
