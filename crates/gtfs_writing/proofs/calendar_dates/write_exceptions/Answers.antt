use Rattle.std.proofs.Common.{map, refl}
use Rattle.gtfs_schema.specs.Columns.{columns_of}
use Rattle.gtfs_rows.specs.Cells.{record_text}
use Rattle.gtfs_rows.specs.RowCells.{exception_cells, held_by}
use Rattle.gtfs_rows.specs.RowsInMemory.{service_of}
use Rattle.gtfs_table.specs.declared.file.File.TheVariants as file
use Rattle.gtfs_writing.proofs.Taken.{loop_done, loop_step, mapped-append}
use Rattle.gtfs_writing.proofs.calendar_dates.write_exceptions.Goals as goal

pub loop-service-preserved : goal.loop-service-preserved
loop-service-preserved g c =
    loop_step g.S.Sink.takes
    (λ xs. map (record_text (columns_of file.CalendarDates)) (map exception_cells (held_by (λ s. s.service_id) (λ s. s.service.exceptions) (map service_of xs))))
    (λ x. map (record_text (columns_of file.CalendarDates)) (map exception_cells (map (λ y. (x.service_id, y)) x.service.exceptions)))
    (λ x xs. mapped-append (record_text (columns_of file.CalendarDates)) exception_cells (map (λ y. (x.service_id, y)) x.service.exceptions) (held_by (λ s. s.service_id) (λ s. s.service.exceptions) (map service_of xs)))
    _ _ _ c.loop-service-test.true c.service-item.is _ _ _ c.loop-service.invariant (c.in_ok-write_days.ensures)

pub returns : goal.returns
returns g c =
    loop_done g.S.Sink.takes
    (λ xs. map (record_text (columns_of file.CalendarDates)) (map exception_cells (held_by (λ s. s.service_id) (λ s. s.service.exceptions) (map service_of xs))))
    refl _ _ c.loop-service-test.false _ _ c.loop-service.invariant
