use Rattle.std.proofs.Common.{◌∙◌, ap}
use Rattle.gtfs_rows.specs.RowCells.{cells_in}
use Rattle.gtfs_rows.specs.RowsInMemory.{content_of_parts}
use Rattle.gtfs_rows.specs.WrittenContent.{records_of_cells}
use Rattle.gtfs_writing.specs.declared.table_rows.TableRows.{TableRows}
use Rattle.gtfs_writing.specs.TakenRecords.{into_table, with_rows}
use Rattle.gtfs_writing.proofs.TableFacts.{file-put, on_ok_tables}
use Rattle.gtfs_writing.proofs.files.write_table.Goals as goal

pub returns : goal.returns
returns c =
    let content = content_of_parts c.args.parts.now in
    let records = records_of_cells c.args.file (cells_in content c.args.file) in
    on_ok_tables c.write_file.result _ _ _ c.write_file.ensures
    (ap (λ (s : TableRows). (with_rows into_table s records).tables) c.go_to.ensures
    ∙ ap (λ (s : TableRows). s.tables) (file-put c.args.rows.now.tables content c.args.file c.requires.content))
