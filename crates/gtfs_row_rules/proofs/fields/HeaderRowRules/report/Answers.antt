use Rattle.std.proofs.Common.{ℕ, List}
use Rattle.std.specs.Prelude.{◌&&◌}
use Rattle.std.proofs.lemmas.Result.{on_ok_weaker}
use Rattle.gtfs_table.specs.Tables.{Dataset}
use Rattle.gtfs_schema.specs.steps.FieldCodes.{field_codes, in_file_of, is_in_row}
use Rattle.gtfs_schema.specs.steps.FoundProblems.{Adds}
use Rattle.gtfs_row_rules.specs.HeaderColumns.{IsHeader, row_reports}
use Rattle.gtfs_row_rules.specs.RowRules.{IsNext, ReportsOfRow}
use Rattle.gtfs_row_rules.proofs.HeaderRowFacts.{header_reported}
use Rattle.gtfs_row_rules.proofs.fields.HeaderRowRules.report.Goals as goal

pub returns-clause-reported : goal.returns-clause-reported
returns-clause-reported c =
    let x = c.args.file in
    let header = c.args.self.now in
    let fields = c.args.record.now in
    let found : Adds (λ p. is_in_row header.file c.args.row p && row_reports header fields p) c.args.found.now c.report_row.new.found
    → (d : Dataset) (before : List ℕ) → IsHeader d x header → IsNext d x before c.args.row fields
    → ReportsOfRow d (in_file_of field_codes x) c.args.row c.args.found.now c.report_row.new.found
    = λ adds d before is next. header_reported d x c.args.row next.is_row header fields _ _ is next.record_is adds in
    on_ok_weaker c.report_row.result found c.report_row.ensures
