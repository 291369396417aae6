use Rattle.std.proofs.Common.{◌∷◌, [], map, refl}
use Rattle.gtfs_schema.specs.Columns.{columns_of}
use Rattle.gtfs_rows.specs.Cells.{record_text}
use Rattle.std.specs.Prelude.{nat_lt, length}
use Rattle.std.proofs.lemmas.Bool.{ltb-true}
use Rattle.gtfs_rows.specs.RowCells.{route_cells}
use Rattle.gtfs_rows.specs.RowsInMemory.{route_of}
use Rattle.gtfs_table.specs.declared.file.File.TheVariants as file
use Rattle.gtfs_writing.proofs.Items.{item_passes}
use Rattle.gtfs_writing.proofs.Taken.{loop_done, loop_step}
use Rattle.gtfs_writing.proofs.routes.write_routes.Goals as goal

pub write_route-requires : goal.write_route-requires
write_route-requires g c =
    ltb-true _ _ (item_passes (λ r. nat_lt r.agency_id.0 (length c.args.parts.now.agencies)) _ _ _ _ c.as_slice-routes.ensures c.requires.names_rows.routes c.loop-route-test.true c.route-item.is)

pub loop-route-preserved : goal.loop-route-preserved
loop-route-preserved g c =
    loop_step g.S.Sink.takes
    (λ xs. map (record_text (columns_of file.Routes)) (map route_cells (map (route_of c.args.parts.now) xs)))
    (λ x. record_text (columns_of file.Routes) (route_cells (route_of c.args.parts.now x)) ∷ [])
    (λ x xs. refl)
    _ _ _ c.loop-route-test.true c.route-item.is _ _ _ c.loop-route.invariant (c.in_ok-write_route.ensures)

pub returns : goal.returns
returns g c =
    loop_done g.S.Sink.takes
    (λ xs. map (record_text (columns_of file.Routes)) (map route_cells (map (route_of c.args.parts.now) xs)))
    refl _ _ c.loop-route-test.false _ _ c.loop-route.invariant
