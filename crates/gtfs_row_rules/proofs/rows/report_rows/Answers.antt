use Rattle.std.specs.Prelude.{◌||◌}
use Rattle.std.proofs.lemmas.Result.{on_ok_weaker}
use Rattle.gtfs_table.specs.declared.file.File.TheVariants as file
use Rattle.gtfs_schema.proofs.ReportingFacts.{reports_four, reports_then}
use Rattle.gtfs_row_rules.specs.RowCodes.{in_rows_of}
use Rattle.gtfs_row_rules.proofs.rows.report_rows.Goals as goal

pub returns : goal.returns
returns c =
    let d = c.args.tables.now in
    let first = reports_four d (in_rows_of file.Agency) (in_rows_of file.Stops) (in_rows_of file.Routes) (in_rows_of file.Trips)
    _ _ _ _ _ c.in_ok-report_agencies.ensures c.in_ok-report_stops.ensures c.in_ok-report_routes.ensures c.in_ok-report_trips.ensures in
    let middle = reports_four d (λ p. in_rows_of file.Agency p || in_rows_of file.Stops p || in_rows_of file.Routes p || in_rows_of file.Trips p)
    (in_rows_of file.Calendar) (in_rows_of file.CalendarDates) (in_rows_of file.Frequencies)
    _ _ _ _ _ first c.in_ok-report_calendar.ensures c.in_ok-report_calendar_dates.ensures c.in_ok-report_frequencies.ensures in
    on_ok_weaker c.report_transfers.result (reports_then d _ (in_rows_of file.Transfers) _ _ _ middle) c.report_transfers.ensures
