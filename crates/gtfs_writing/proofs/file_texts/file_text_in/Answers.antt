use Rattle.std.proofs.Common.{◌≡◌, ◌∙◌, ap, sym, subst, Some, string_bytes}
use Rattle.std.specs.Str.{IsUtf8}
use Rattle.std.proofs.lemmas.Str.{IsUtf8-string_bytes}
use Rattle.gtfs_table.specs.Tables.{table_of_bytes}
use Rattle.gtfs_rows.specs.RowCells.{cells_in}
use Rattle.gtfs_rows.specs.RowsInMemory.{content_of_parts}
use Rattle.gtfs_rows.specs.WrittenContent.{records_of_cells}
use Rattle.gtfs_rows.proofs.Passing.{written_form}
use Rattle.gtfs_writing.specs.TakenRecords.{into_text, with_rows}
use Rattle.gtfs_rows.specs.FileTexts.{written_text}
use Rattle.gtfs_writing.proofs.TextAgain.{reads-back}
use Rattle.gtfs_rows.proofs.FileTexts.{table-text}
use Rattle.gtfs_writing.proofs.TextFacts.{taken-text}
use Rattle.gtfs_writing.proofs.file_texts.file_text_in.Goals as goal

pub returns-in-Ok-clause-text : goal.returns-in-Ok-clause-text
returns-in-Ok-clause-text c =
    let content = content_of_parts c.args.parts.now in
    let records = records_of_cells c.args.file (cells_in content c.args.file) in
    let is : string_bytes c.into_text-text.result ≡ written_text content c.args.file =
    c.into_text-text.ensures ∙ c.into_rows.ensures ∙ c.in-Ok.ensures ∙ ap (λ s. with_rows into_text s records) (c.new-rows.ensures ∙ c.in_ok-empty.ensures)
    ∙ taken-text content c.args.file c.requires.content in
    table-text content c.args.file ∙ ap Some (sym is)

pub returns-in-Ok-clause-reads_back : goal.returns-in-Ok-clause-reads_back
returns-in-Ok-clause-reads_back c =
    let content = content_of_parts c.args.parts.now in
    let records = records_of_cells c.args.file (cells_in content c.args.file) in
    let is : string_bytes c.into_text-text.result ≡ written_text content c.args.file =
    c.into_text-text.ensures ∙ c.into_rows.ensures ∙ c.in-Ok.ensures ∙ ap (λ s. with_rows into_text s records) (c.new-rows.ensures ∙ c.in_ok-empty.ensures)
    ∙ taken-text content c.args.file c.requires.content in
    ap (λ t. table_of_bytes (Some t)) is
    ∙ reads-back content c.args.file c.requires.content (subst IsUtf8 is (IsUtf8-string_bytes c.into_text-text.result))

pub returns-in-Ok-clause-form : goal.returns-in-Ok-clause-form
returns-in-Ok-clause-form c = written_form (content_of_parts c.args.parts.now) c.requires.content

pub returns-in-Err-clause-form : goal.returns-in-Err-clause-form
returns-in-Err-clause-form c = written_form (content_of_parts c.args.parts.now) c.requires.content

pub returns-in_err-empty-clause-form : goal.returns-in_err-empty-clause-form
returns-in_err-empty-clause-form c = written_form (content_of_parts c.args.parts.now) c.requires.content
