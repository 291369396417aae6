use Rattle.gtfs_rules.proofs.ReportLaws.{one_report}
use Rattle.gtfs_rules.proofs.report.Report.problems.Goals as goal

pub returns-clause-only : goal.returns-clause-only
returns-clause-only c = rw (c.as_slice.ensures.value, ← c.self.view_is) (λ qs r. one_report _ qs _ r c.self.invariant.report)
