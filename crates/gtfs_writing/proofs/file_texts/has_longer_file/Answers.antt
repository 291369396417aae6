use Rattle.std.proofs.Common.{◌∙◌, sym, arith}
use Rattle.std.proofs.lemmas.List.Folds.{list_any_at}
use Rattle.gtfs_table.specs.TablesRead.{kept_files}
use Rattle.gtfs_table.specs.declared.file.File.TheVariants as file
use Rattle.gtfs_rows.specs.RowsInMemory.{content_of_parts}
use Rattle.gtfs_rows.specs.FileTexts.{is_longer}
use Rattle.gtfs_writing.proofs.TextFacts.{not-yet}
use Rattle.gtfs_writing.proofs.file_texts.has_longer_file.Goals as goal

pub returns-then-branch : goal.returns-then-branch
returns-then-branch c =
    sym (list_any_at (is_longer (content_of_parts c.args.parts.now) c.args.limit) kept_files c.loop-file.file-index file.Agency
    (omega (arith, c.loop-file-test.true)) (sym c.in_ok-is_longer.ensures ∙ c.if-branch.true))

pub loop-file-preserved : goal.loop-file-preserved
loop-file-preserved c =
    not-yet (content_of_parts c.args.parts.now) c.args.limit c.loop-file.file-index (omega (arith, c.loop-file-test.true))
    c.loop-file.invariant (sym c.in_ok-is_longer.ensures ∙ c.if-branch.false)
