use Rattle.std.proofs.lemmas.Result.{on_ok_weaker}
use Rattle.gtfs_schema.proofs.ReportingFacts.{reports_then}
use Rattle.gtfs_rules.proofs.checks.report_periods_and_services.Goals as goal

pub returns : goal.returns
returns c = on_ok_weaker _ (reports_then c.args.tables.now _ _ _ _ _ c.in_ok-report_overlaps.ensures) c.report_services.ensures
