use Rattle.std.proofs.Common.{map, refl}
use Rattle.gtfs_schema.specs.Columns.{columns_of}
use Rattle.gtfs_rows.specs.Cells.{record_text}
use Rattle.gtfs_rows.specs.RowCells.{held_by, week_cells, week_list}
use Rattle.gtfs_rows.specs.RowsInMemory.{service_of}
use Rattle.gtfs_table.specs.declared.file.File.TheVariants as file
use Rattle.gtfs_writing.proofs.Taken.{loop_done, loop_step, mapped-append}
use Rattle.gtfs_writing.proofs.calendar.write_weeks.Goals as goal

pub loop-service-preserved : goal.loop-service-preserved
loop-service-preserved g c =
    loop_step g.S.Sink.takes
    (λ xs. map (record_text (columns_of file.Calendar)) (map week_cells (held_by (λ s. s.service_id) (λ s. week_list s.service.week) (map service_of xs))))
    (λ x. map (record_text (columns_of file.Calendar)) (map week_cells (map (λ y. (x.service_id, y)) (week_list x.service.week))))
    (λ x xs. mapped-append (record_text (columns_of file.Calendar)) week_cells (map (λ y. (x.service_id, y)) (week_list x.service.week)) (held_by (λ s. s.service_id) (λ s. week_list s.service.week) (map service_of xs)))
    _ _ _ c.loop-service-test.true c.service-item.is _ _ _ c.loop-service.invariant (c.in_ok-write_week_if_any.ensures)

pub returns : goal.returns
returns g c =
    loop_done g.S.Sink.takes
    (λ xs. map (record_text (columns_of file.Calendar)) (map week_cells (held_by (λ s. s.service_id) (λ s. week_list s.service.week) (map service_of xs))))
    refl _ _ c.loop-service-test.false _ _ c.loop-service.invariant
