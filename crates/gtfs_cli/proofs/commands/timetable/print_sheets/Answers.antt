use Rattle.std.proofs.Common.{◌∙◌, ap, map}
use Rattle.gtfs_rows.specs.RowsInMemory.{content_of_parts}
use Rattle.gtfs_board.specs.LentSheets.{plain_sheet}
use Rattle.gtfs_cli.specs.TimetableCommand.{timetable_request_of}
use Rattle.gtfs_cli.proofs.Tabled.{sheets-printed, sheets-refused}
use Rattle.gtfs_cli.proofs.commands.timetable.print_sheets.Goals as goal

pub returns-in_err-sheets : goal.returns-in_err-sheets
returns-in_err-sheets g c = sheets-refused (content_of_parts c.args.feed.now) c.args.route.now (timetable_request_of c.args.values.now) _
    c.from_residual.result c.in_err-sheets.field-0.0 c.from_residual.ensures.1 c.in_err-sheets.ensures.refused

pub returns : goal.returns
returns g c = sheets-printed (content_of_parts c.args.feed.now) c.args.route.now (timetable_request_of c.args.values.now) (map plain_sheet c.as_slice.result.now)
    (ap (map plain_sheet) c.as_slice.ensures.value ∙ c.in_ok-sheets.ensures.sheets) c.in_ok-sheets.ensures.known _ _ c.send_sheets.result
    c.send_sheets.ensures.sent c.send_sheets.ensures.stopped
