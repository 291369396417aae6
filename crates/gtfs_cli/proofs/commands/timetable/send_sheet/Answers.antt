use Rattle.std.proofs.Common.{string_bytes}
use Rattle.std.proofs.KnownBytes.{Keeps-refl}
use Rattle.gtfs_board.specs.LentSheets.{plain_sheet}
use Rattle.gtfs_board.specs.Timetable.{sheet_text}
use Rattle.gtfs_cli.proofs.Sent.{sent-made, sent-unmade}
use Rattle.gtfs_cli.proofs.Tabled.{output-alone}
use Rattle.gtfs_cli.proofs.commands.timetable.send_sheet.Goals as goal

pub returns-in_err-push_sheet-clause-sent : goal.returns-in_err-push_sheet-clause-sent
returns-in_err-push_sheet-clause-sent g c = sent-unmade (sheet_text (plain_sheet c.args.sheet.now)) _ c.from_residual.result c.from_residual.ensures.1

pub returns-in_err-push_sheet-clause-nothing : goal.returns-in_err-push_sheet-clause-nothing
returns-in_err-push_sheet-clause-nothing g c = λ memory. Keeps-refl (g.O.Out.told c.args.out.now)

pub returns-clause-sent : goal.returns-clause-sent
returns-clause-sent g c = sent-made (sheet_text (plain_sheet c.args.sheet.now)) c.as_bytes.result.now (string_bytes c.push_sheet.new.text) (string_bytes c.clear.new.self) _ _ c.send.result
    c.as_bytes.ensures.value c.in_ok-push_sheet.ensures.appended c.clear.ensures.bytes c.send.ensures.sent

pub returns-clause-nothing : goal.returns-clause-nothing
returns-clause-nothing g c = λ memory. absurd (output-alone c.send.result c.send.ensures.failed memory)
