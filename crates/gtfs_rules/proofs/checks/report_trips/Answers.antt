use Rattle.std.proofs.lemmas.Result.{on_ok_weaker}
use Rattle.gtfs_schema.proofs.ReportingFacts.{reports_three}
use Rattle.gtfs_rules.proofs.checks.report_trips.Goals as goal

pub returns-clause-reported : goal.returns-clause-reported
returns-clause-reported c = on_ok_weaker _ (reports_three c.args.tables.now _ _ _ _ _ _ _ c.in_ok-notes.ensures.reported c.in_ok-report_counts.ensures) c.report_order.ensures.reported
