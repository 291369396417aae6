use Rattle.std.proofs.Common.{◌≡◌}
use Rattle.gtfs_table.specs.Rows.{numbers}
use Rattle.gtfs_schema.specs.steps.FoundProblems.{Reports}
use Rattle.gtfs_schema.proofs.RowFacts.{at_rows}
use Rattle.gtfs_row_rules.proofs.rule.judge_rows.Given as goal

-- the rules, and the rows so far
abbrev pub invariant-loop-row : goal.invariant-loop-row
invariant-loop-row g l = record {
  holding : g.R.RowRules.holds l.rules l.tables l.file (numbers l.yielded);
  same : g.R.RowRules.picks l.rules ≡ g.R.RowRules.picks l.fn.rules;
  reported : Reports l.tables (at_rows (g.R.RowRules.picks l.fn.rules l.file) (numbers l.yielded)) l.fn.found l.found;
}
