use Rattle.std.proofs.lemmas.Result.{on_ok_weaker}
use Rattle.gtfs_schema.specs.declared.code.Code.TheVariants as code
use Rattle.gtfs_schema.specs.steps.ColumnView.{column_of}
use Rattle.gtfs_row_rules.proofs.FileFacts.{asked}
use Rattle.gtfs_row_rules.proofs.HeaderFacts.{column_reported, column_twice_reported, missing_column_reported, twice_holds}
use Rattle.gtfs_schema.proofs.SiteFacts.{problem_at}
use Rattle.gtfs_row_rules.proofs.headers.report_kept_column.Goals as goal

pub returns : goal.returns
returns c =
    let d = c.args.tables.now in
    let x = c.args.file in
    let column = column_of c.args.column.now in
    on_ok_weaker c.report_if-2.result (λ twice.
    column_reported d x column c.args.found.now c.report_if.new.self c.report_if-2.new.self
    (missing_column_reported d x column.name c.args.found.now c.report_if.new.self
    (asked d _ (problem_at code.E03 x column.name 1) c.is_missing-missing.result _ _ c.in_header.ensures c.is_missing-missing.ensures c.in_ok-report_if.ensures))
    (column_twice_reported d x column.name c.report_if.new.self c.report_if-2.new.self
    (asked d _ (problem_at code.E04 x column.name 1) _ _ _ c.in_header-2.ensures (twice_holds d x column c.times_named-times.result c.requires c.times_named-times.ensures) twice)))
    c.report_if-2.ensures
