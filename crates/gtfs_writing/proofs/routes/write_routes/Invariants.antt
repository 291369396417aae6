use Rattle.std.proofs.Common.{◌≡◌, drop, map}
use Rattle.gtfs_schema.specs.Columns.{columns_of}
use Rattle.gtfs_rows.specs.Cells.{record_text}
use Rattle.gtfs_rows.specs.RowCells.{route_cells}
use Rattle.gtfs_rows.specs.RowsInMemory.{content_of_parts, route_of}
use Rattle.gtfs_table.specs.declared.file.File.TheVariants as file
use Rattle.gtfs_writing.specs.TakenRecords.{rows_in, with_rows}
use Rattle.gtfs_writing.proofs.routes.write_routes.Given as goal

-- the rows that are left lead to where all rows lead
abbrev pub invariant-loop-route : goal.invariant-loop-route
invariant-loop-route g l =
    with_rows g.S.Sink.takes l.rows
    (map (record_text (columns_of file.Routes)) (map route_cells (map (route_of l.fn.parts) (drop l.route-index l.routes))))
    ≡ with_rows g.S.Sink.takes l.fn.rows (rows_in (content_of_parts l.fn.parts) file.Routes)
