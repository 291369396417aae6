use Rattle.std.proofs.Common.{◌<◌, ◌∙◌, length, sym, ap, arith}
use Rattle.std.proofs.lemmas.Bool.{eqb-false}
use Rattle.std.proofs.lemmas.List.{take_all}
use Rattle.gtfs_runs.specs.Tallies.{tally}
use Rattle.gtfs_runs.proofs.RunStarts as period
use Rattle.gtfs_runs.proofs.Pushes.{none-made}
use Rattle.gtfs_runs.proofs.flat.starts.Goals as goal

pub loop-period-preserved : goal.loop-period-preserved
loop-period-preserved c = (
  λ r. period.period_more c.args.periods.now c.loop-period.period-index c.period-item.result r _ _ c.loop-period-test.true c.period-item.is (c.loop-period.invariant.0 r) (c.in_ok-push_starts.ensures.runs r),
  c.in_ok-push_starts.ensures.early c.loop-period.invariant.1,
)

pub returns-clause-runs : goal.returns-clause-runs
returns-clause-runs c = λ p t r.
    let some : 0 < length c.args.periods.now = omega (arith, eqb-false (length c.args.periods.now) 0 (sym c.is_empty.ensures ∙ c.if-is_empty.false)) in
    period.starts_all p t c.args.rows.now c.args.periods.now r _ c.requires.filled some c.requires.apart
    (c.loop-period.invariant.0 r ∙ ap (tally (period.starts r)) (take_all c.loop-period.period-index c.args.periods.now c.loop-period-test.false))

pub returns-in_err-push : goal.returns-in_err-push
returns-in_err-push c =
    let r = c.from_residual.result in
    let refused = c.from_residual.ensures.1 in
    record { runs = none-made r _ _ refused; early = none-made r _ _ refused }

pub returns-in_err-push_starts : goal.returns-in_err-push_starts
returns-in_err-push_starts c =
    let r = c.from_residual-in_err-push_starts.result in
    let refused = c.from_residual-in_err-push_starts.ensures.1 in
    record { runs = none-made r _ _ refused; early = none-made r _ _ refused }
