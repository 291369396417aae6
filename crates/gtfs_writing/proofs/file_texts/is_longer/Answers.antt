use Rattle.std.proofs.Common.{◌∙◌, ap}
use Rattle.std.specs.Option.{is_none}
use Rattle.gtfs_rows.specs.RowCells.{cells_in}
use Rattle.gtfs_rows.specs.RowsInMemory.{content_of_parts}
use Rattle.gtfs_rows.specs.WrittenContent.{records_of_cells}
use Rattle.gtfs_writing.specs.TakenRecords.{into_room, with_rows}
use Rattle.gtfs_writing.proofs.TextFacts.{taken-room}
use Rattle.gtfs_writing.proofs.file_texts.is_longer.Goals as goal

pub returns-in-Ok : goal.returns-in-Ok
returns-in-Ok c =
    let content = content_of_parts c.args.parts.now in
    let records = records_of_cells c.args.file (cells_in content c.args.file) in
    c.is_passed-longer.ensures
    ∙ ap is_none (c.into_rows.ensures ∙ c.in-Ok.ensures ∙ ap (λ s. with_rows into_room s records) (c.new-rows.ensures ∙ c.new.ensures))
    ∙ taken-room content c.args.file c.args.limit c.requires.content
