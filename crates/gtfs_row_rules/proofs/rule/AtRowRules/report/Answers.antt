use Rattle.std.proofs.Common.{ℕ, List}
use Rattle.std.specs.Prelude.{◌&&◌}
use Rattle.std.proofs.lemmas.Result.{on_ok_weaker}
use Rattle.gtfs_table.specs.Rows.{records_in}
use Rattle.gtfs_table.specs.Tables.{Dataset, record_at}
use Rattle.gtfs_schema.specs.steps.FoundProblems.{Adds, is_same}
use Rattle.gtfs_schema.specs.steps.KeptColumns.{at_column}
use Rattle.gtfs_schema.proofs.RuleFacts.{row_reported}
use Rattle.gtfs_schema.proofs.SiteFacts.{problem_at}
use Rattle.gtfs_row_rules.specs.RowRules.{HoldsWhere, IsNext, ReportsOfRow}
use Rattle.gtfs_row_rules.proofs.rule.AtRowRules.report.Goals as goal

pub returns-clause-reported : goal.returns-clause-reported
returns-clause-reported g c =
    let x = c.args.file in
    let at = c.args.self.now in
    let found : Adds (λ p. is_same (problem_at at.0 x at.1.now c.args.row) p && c.breaks.result) c.args.found.now c.report_if.new.self
    → (d : Dataset) (before : List ℕ) → HoldsWhere at.0 d x at.1.now (λ n. g.R.Rule.breaks at.2 n (record_at (records_in d x) n))
    → IsNext d x before c.args.row c.args.record.now
    → ReportsOfRow d (at_column at.0 x at.1.now) c.args.row c.args.found.now c.report_if.new.self
    = λ adds d before rule next. row_reported d at.0 x at.1.now (λ n. g.R.Rule.breaks at.2 n (record_at (records_in d x) n)) rule c.args.row _ _ next.is_row
    (rw (← next.record_is, ← c.breaks.ensures.answer) adds) in
    on_ok_weaker c.report_if.result found c.report_if.ensures

pub returns-clause-holding : goal.returns-clause-holding
returns-clause-holding g c = on_ok_weaker c.report_if.result (λ adds d before rule next. rw c.breaks.ensures.same rule) c.report_if.ensures
