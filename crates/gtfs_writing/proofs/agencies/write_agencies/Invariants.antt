use Rattle.std.proofs.Common.{◌≡◌, drop, map}
use Rattle.gtfs_schema.specs.Columns.{columns_of}
use Rattle.gtfs_rows.specs.Cells.{record_text}
use Rattle.gtfs_rows.specs.RowCells.{agency_cells}
use Rattle.gtfs_rows.specs.RowsInMemory.{agency_of, content_of_parts}
use Rattle.gtfs_table.specs.declared.file.File.TheVariants as file
use Rattle.gtfs_writing.specs.TakenRecords.{rows_in, with_rows}
use Rattle.gtfs_writing.proofs.agencies.write_agencies.Given as goal

-- the rows that are left lead to where all rows lead
abbrev pub invariant-loop-agency : goal.invariant-loop-agency
invariant-loop-agency g l =
    with_rows g.S.Sink.takes l.rows
    (map (record_text (columns_of file.Agency)) (map agency_cells (map agency_of (drop l.agency-index l.agencies))))
    ≡ with_rows g.S.Sink.takes l.fn.rows (rows_in (content_of_parts l.fn.parts) file.Agency)
