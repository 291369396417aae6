use Rattle.gtfs_rules.proofs.PassedStopTimes.{are_stop_times}
use Rattle.gtfs_rules.proofs.ReportLaws.{fails_with_error, passes_without_error}
use Rattle.gtfs_rules.proofs.report.Report.passed.Goals as goal

pub new-requires-clause-passes : goal.new-requires-clause-passes
new-requires-clause-passes c = passes_without_error _ c.self.inside.problems.items c.self.invariant.report
    (rw (← c.as_slice.ensures.value, ← c.has_error.ensures) c.if-has_error.false)

pub returns-then-has_error-clause-fails : goal.returns-then-has_error-clause-fails
returns-then-has_error-clause-fails c = rw (← c.self.view_is) (fails_with_error _ c.self.inside.problems.items c.self.invariant.report
    (rw (← c.as_slice.ensures.value, ← c.has_error.ensures) c.if-has_error.true))

pub new-requires-clause-stop_times : goal.new-requires-clause-stop_times
new-requires-clause-stop_times c = are_stop_times _ (passes_without_error _ c.self.inside.problems.items c.self.invariant.report
    (rw (← c.as_slice.ensures.value, ← c.has_error.ensures) c.if-has_error.false)) _ c.self.invariant.stop_times
