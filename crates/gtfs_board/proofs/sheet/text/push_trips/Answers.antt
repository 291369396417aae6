use Rattle.std.proofs.Common.{codes, string_bytes}
use Rattle.std.proofs.lemmas.List.{take_all}
use Rattle.gtfs_board.specs.Timetable.{after_tab}
use Rattle.gtfs_board.proofs.SheetTexts.{nothing-yet, field-at, line-ends, pushed}
use Rattle.gtfs_board.proofs.sheet.text.push_trips.Goals as goal

pub loop-run-init : goal.loop-run-init
loop-run-init c = nothing-yet (string_bytes c.args.text.now) (codes "trip") _ c.in_ok-push_str.ensures.bytes

pub loop-run-preserved : goal.loop-run-preserved
loop-run-preserved c =
    field-at (λ run. after_tab run.1.now) c.args.runs.now c.loop-run.run-index (0, _) (string_bytes c.args.text.now) (codes "trip") _ _
    c.loop-run-test.true c.loop-run.invariant c.in_ok-push_field.ensures

pub returns : goal.returns
returns c =
    pushed c.push_str-2.result _ (string_bytes c.loop-run.text) _ (codes "\n") c.push_str-2.ensures.bytes (λ last.
    line-ends after_tab (λ run. run.1.now) c.args.runs.now _ (string_bytes c.args.text.now) (codes "trip") _ _ _
    (take_all c.loop-run.run-index c.args.runs.now c.loop-run-test.false) c.loop-run.invariant last)
