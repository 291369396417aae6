use Rattle.std.proofs.Common.{[], ◌∷◌}
use Rattle.std.proofs.lemmas.Result.{on_ok_weaker}
use Rattle.gtfs_schema.specs.declared.code.Code.TheVariants as code
use Rattle.gtfs_row_rules.proofs.FileFacts.{asked, code_reported, empty_reported, missing_reported, no_code_reported, not_utf8_reported}
use Rattle.gtfs_schema.proofs.SiteFacts.{problem_at}
use Rattle.gtfs_row_rules.proofs.files.report_file.Goals as goal

pub returns : goal.returns
returns c =
    let d = c.args.tables.now in
    let x = c.args.file in
    on_ok_weaker c.report_if-4.result (λ header.
    code_reported d x code.E01 (code.E02 ∷ code.E05 ∷ []) c.args.found.now c.report_if.new.self c.report_if-4.new.self
    (missing_reported d x c.args.found.now c.report_if.new.self
    (asked d _ (problem_at code.E01 x [] 0) c.is_missing.result _ _ c.at_row.ensures c.is_missing.ensures c.in_ok-report_if.ensures))
    (code_reported d x code.E02 (code.E05 ∷ []) c.report_if.new.self c.report_if-2.new.self c.report_if-4.new.self
    (not_utf8_reported d x c.report_if.new.self c.report_if-2.new.self
    (asked d _ (problem_at code.E02 x [] 0) c.is_not_utf8.result _ _ c.at_row-2.ensures c.is_not_utf8.ensures c.in_ok-report_if-2.ensures))
    (code_reported d x code.E05 [] c.report_if-2.new.self c.report_if-4.new.self c.report_if-4.new.self
    (empty_reported d x c.report_if-2.new.self c.report_if-3.new.self c.report_if-4.new.self
    (asked d _ (problem_at code.E05 x [] 0) c.lacks_records.result _ _ c.at_row-3.ensures c.lacks_records.ensures c.in_ok-report_if-3.ensures)
    (asked d _ (problem_at code.E05 x [] 1) c.lacks_agencies.result _ _ c.at_row-4.ensures c.lacks_agencies.ensures header))
    (no_code_reported d x c.report_if-4.new.self))))
    c.report_if-4.ensures
