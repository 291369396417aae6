use Rattle.std.proofs.Common.{◌<◌, ◌==◌, ◌∙◌, length, sym, arith}
use Rattle.std.proofs.lemmas.Bool.{eqb-false}
use Rattle.gtfs_runs.specs.Tallies.{tally}
use Rattle.gtfs_runs.proofs.RunStarts.{starts}
use Rattle.gtfs_board.specs.TimetableColumns.{is_same_column}
use Rattle.gtfs_board.proofs.SheetRuns.{none-started, own-pushed, period-more, periods-all}
use Rattle.gtfs_board.proofs.sheet.columns.push_runs.Goals as goal

pub returns-then-is_empty : goal.returns-then-is_empty
returns-then-is_empty c = λ p t x.
    own-pushed p t c.args.rows.now c.args.periods.now x (record { start = c.seconds_left-start.result; trip = c.args.trip }) c.index-rows-0.result c.args.found.now.items _
    c.requires.filled (sym c.is_empty.ensures ∙ c.if-is_empty.true) c.index-rows-0.is c.seconds_left-start.ensures.value c.in_ok-push.ensures.items

pub loop-period-init : goal.loop-period-init
loop-period-init c = λ x. none-started (x.trip.0 == c.args.trip.0) (tally (is_same_column x) c.args.found.now.items) (starts x.start) c.args.periods.now

pub loop-period-preserved : goal.loop-period-preserved
loop-period-preserved c = λ x.
    period-more (x.trip.0 == c.args.trip.0) c.args.periods.now c.loop-period.period-index c.period-item.result x.start (tally (is_same_column x) c.args.found.now.items) _ _
    c.loop-period-test.true c.period-item.is (c.loop-period.invariant x) (c.in_ok-push_period.ensures x)

pub returns : goal.returns
returns c = λ p t x.
    let some : 0 < length c.args.periods.now = omega (arith, eqb-false (length c.args.periods.now) 0 (sym c.is_empty.ensures ∙ c.if-is_empty.false)) in
    periods-all p t c.args.rows.now c.args.periods.now (x.trip.0 == c.args.trip.0) x.start c.loop-period.period-index (tally (is_same_column x) c.args.found.now.items) _
    c.requires.filled some c.requires.apart c.loop-period-test.false (c.loop-period.invariant x)
