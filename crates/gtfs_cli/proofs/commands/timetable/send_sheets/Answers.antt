use Rattle.std.proofs.Common.{◌≡◌, ap, Err}
use Rattle.gtfs_cli.specs.declared.commands.refusal.Refusal.{Refusal}
use Rattle.gtfs_cli.specs.declared.commands.refusal.Refusal.TheVariants.{OutOfMemory}
use Rattle.gtfs_cli.proofs.Sent.{output, item-failed, item-sent, items-sent, sent-same}
use Rattle.gtfs_cli.proofs.Tabled.{err-is, first-sent, sheets-shown, shown_sheet}
use Rattle.gtfs_cli.proofs.commands.timetable.send_sheets.Goals as goal

pub loop-sheet-preserved : goal.loop-sheet-preserved
loop-sheet-preserved g c =
    item-sent shown_sheet c.args.sheets.now c.loop-sheet.sheet-index c.sheet-item.result _ (ap shown_sheet c.sheet-item.is) c.loop-sheet-test.true _ _ _ _
    c.loop-sheet.invariant c.in_ok-send_sheet.ensures.sent

pub returns-clause-sent : goal.returns-clause-sent
returns-clause-sent g c = sent-same _ _ _ _ _ (sheets-shown c.args.sheets.now)
    (items-sent shown_sheet c.args.sheets.now c.loop-sheet.sheet-index _ _ _ c.loop-sheet-test.false c.loop-sheet.invariant)

pub returns-in_err-send_sheet-clause-sent : goal.returns-in_err-send_sheet-clause-sent
returns-in_err-send_sheet-clause-sent g c = sent-same _ _ _ _ _ (sheets-shown c.args.sheets.now)
    (item-failed shown_sheet c.args.sheets.now c.loop-sheet.sheet-index c.sheet-item.result _ (ap shown_sheet c.sheet-item.is) c.loop-sheet-test.true _ _ _ _
    c.from_residual.result c.from_residual.ensures.1 c.loop-sheet.invariant c.in_err-send_sheet.ensures.sent)

pub returns-in_err-send_sheet-clause-stopped : goal.returns-in_err-send_sheet-clause-stopped
returns-in_err-send_sheet-clause-stopped g c = λ memory.
    let is : c.in_err-send_sheet.field-0.0 ≡ OutOfMemory = err-is c.from_residual.result c.in_err-send_sheet.field-0.0 c.from_residual.ensures.1 memory in
    first-sent c.args.sheets.now c.loop-sheet.sheet-index _ _ (output (g.O.Out.told c.send_sheet.new.out) (g.O.Out.failure_count c.send_sheet.new.out)) c.loop-sheet.invariant (c.in_err-send_sheet.ensures.nothing (ap (λ (e : Refusal). Err e) is))
