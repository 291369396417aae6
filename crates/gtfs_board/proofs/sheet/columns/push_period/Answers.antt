use Rattle.std.proofs.Common.{arith}
use Rattle.gtfs_runs.specs.Tallies.{tally}
use Rattle.gtfs_board.specs.TimetableColumns.{is_same_column}
use Rattle.gtfs_board.proofs.SheetStarts.{period-begun, period-ended, period-step}
use Rattle.gtfs_board.proofs.sheet.columns.push_period.Goals as goal

pub loop-start-init : goal.loop-start-init
loop-start-init c = λ x.
    period-begun x c.args.trip.0 _ _ c.args.period.now (tally (is_same_column x) c.args.found.now.items) c.seconds-start.ensures.value c.seconds-end.ensures.value

pub loop-start-preserved : goal.loop-start-preserved
loop-start-preserved c = λ x.
    period-step x (record { start = c.loop-start.start; trip = c.args.trip }) _ c.seconds-end.result c.args.period.now.headway_secs c.loop-start.found.items _ _ c.in_ok-push.ensures.items
    c.loop-start-test.true c.requires (omega (arith, c.seconds-end.ensures.bound)) c.saturating_add-start.ensures (c.loop-start.invariant x)

pub returns : goal.returns
returns c = λ x.
    period-ended x c.args.trip.0 c.loop-start.start c.seconds-end.result c.args.period.now.headway_secs c.loop-start.found.items _ c.loop-start-test.false (c.loop-start.invariant x)
