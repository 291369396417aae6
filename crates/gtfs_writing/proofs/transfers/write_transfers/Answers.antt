use Rattle.std.proofs.Common.{◌∙◌, ◌∷◌, [], ap, map, refl}
use Rattle.gtfs_schema.specs.Columns.{columns_of}
use Rattle.gtfs_rows.specs.Cells.{record_text}
use Rattle.gtfs_rows.specs.RowCells.{transfer_cells}
use Rattle.gtfs_rows.specs.RowsInMemory.{transfer_names_rows, transfer_of}
use Rattle.gtfs_table.specs.declared.file.File.TheVariants as file
use Rattle.std.specs.List.{list_all}
use Rattle.gtfs_rows.proofs.RowTexts.{all_at}
use Rattle.gtfs_writing.proofs.Taken.{loop_done, loop_step_at}
use Rattle.gtfs_writing.proofs.transfers.write_transfers.Goals as goal

pub write_transfer-requires : goal.write_transfer-requires
write_transfer-requires g c =
    all_at (transfer_names_rows c.args.parts.now) _ _ _ (ap (list_all (transfer_names_rows c.args.parts.now)) c.as_slice-transfers.ensures ∙ c.requires.names_rows.transfers)
    c.loop-transfer-test.true

pub loop-transfer-preserved : goal.loop-transfer-preserved
loop-transfer-preserved g c =
    loop_step_at g.S.Sink.takes
    (λ xs. map (record_text (columns_of file.Transfers)) (map transfer_cells (map (transfer_of c.args.parts.now) xs)))
    (λ x. record_text (columns_of file.Transfers) (transfer_cells (transfer_of c.args.parts.now x)) ∷ [])
    (λ x xs. refl)
    _ _ _ c.loop-transfer-test.true _ _ _ c.loop-transfer.invariant c.in_ok-write_transfer.ensures

pub returns : goal.returns
returns g c =
    loop_done g.S.Sink.takes
    (λ xs. map (record_text (columns_of file.Transfers)) (map transfer_cells (map (transfer_of c.args.parts.now) xs)))
    refl _ _ c.loop-transfer-test.false _ _ c.loop-transfer.invariant
