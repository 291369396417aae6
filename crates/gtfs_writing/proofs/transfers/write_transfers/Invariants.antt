use Rattle.std.proofs.Common.{◌≡◌, drop, map}
use Rattle.gtfs_schema.specs.Columns.{columns_of}
use Rattle.gtfs_rows.specs.Cells.{record_text}
use Rattle.gtfs_rows.specs.RowCells.{transfer_cells}
use Rattle.gtfs_rows.specs.RowsInMemory.{content_of_parts, transfer_of}
use Rattle.gtfs_table.specs.declared.file.File.TheVariants as file
use Rattle.gtfs_writing.specs.TakenRecords.{rows_in, with_rows}
use Rattle.gtfs_writing.proofs.transfers.write_transfers.Given as goal

-- the rows that are left lead to where all rows lead
abbrev pub invariant-loop-transfer : goal.invariant-loop-transfer
invariant-loop-transfer g l =
    with_rows g.S.Sink.takes l.rows
    (map (record_text (columns_of file.Transfers)) (map transfer_cells (map (transfer_of l.fn.parts) (drop l.transfer-index l.transfers))))
    ≡ with_rows g.S.Sink.takes l.fn.rows (rows_in (content_of_parts l.fn.parts) file.Transfers)
