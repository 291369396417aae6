use Rattle.std.proofs.Common.{◌∷◌, [], map, refl}
use Rattle.gtfs_schema.specs.Columns.{columns_of}
use Rattle.gtfs_rows.specs.Cells.{record_text}
use Rattle.gtfs_rows.specs.RowCells.{agency_cells}
use Rattle.gtfs_rows.specs.RowsInMemory.{agency_of}
use Rattle.gtfs_table.specs.declared.file.File.TheVariants as file
use Rattle.gtfs_writing.proofs.Taken.{loop_done, loop_step}
use Rattle.gtfs_writing.proofs.agencies.write_agencies.Goals as goal

pub loop-agency-preserved : goal.loop-agency-preserved
loop-agency-preserved g c =
    loop_step g.S.Sink.takes
    (λ xs. map (record_text (columns_of file.Agency)) (map agency_cells (map agency_of xs)))
    (λ x. record_text (columns_of file.Agency) (agency_cells (agency_of x)) ∷ [])
    (λ x xs. refl)
    _ _ _ c.loop-agency-test.true c.agency-item.is _ _ _ c.loop-agency.invariant (c.in_ok-write_agency.ensures)

pub returns : goal.returns
returns g c =
    loop_done g.S.Sink.takes
    (λ xs. map (record_text (columns_of file.Agency)) (map agency_cells (map agency_of xs)))
    refl _ _ c.loop-agency-test.false _ _ c.loop-agency.invariant
