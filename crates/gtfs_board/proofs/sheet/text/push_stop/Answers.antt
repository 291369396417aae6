use Rattle.std.proofs.Common.{codes, string_bytes}
use Rattle.std.proofs.lemmas.List.{take_all}
use Rattle.gtfs_board.specs.Timetable.{after_tab, time_shown}
use Rattle.gtfs_board.proofs.SheetTexts.{nothing-yet, field-more, line-ends, pushed}
use Rattle.gtfs_board.proofs.sheet.text.push_stop.Goals as goal

pub loop-time-init : goal.loop-time-init
loop-time-init c = nothing-yet (string_bytes c.args.text.now) c.args.stop.now _ c.in_ok-push_str.ensures.bytes

pub loop-time-preserved : goal.loop-time-preserved
loop-time-preserved c =
    field-more (λ time. after_tab (time_shown time)) c.args.times.now c.loop-time.time-index c.time-item.result (string_bytes c.args.text.now) c.args.stop.now _ _
    c.loop-time-test.true c.time-item.is c.loop-time.invariant c.in_ok-push_clock.ensures

pub returns : goal.returns
returns c =
    pushed c.push_str-2.result _ (string_bytes c.loop-time.text) _ (codes "\n") c.push_str-2.ensures.bytes (λ last.
    line-ends after_tab time_shown c.args.times.now _ (string_bytes c.args.text.now) c.args.stop.now _ _ _
    (take_all c.loop-time.time-index c.args.times.now c.loop-time-test.false) c.loop-time.invariant last)
