use Rattle.gtfs_rules.specs.steps.PartsOfCheck.{in_files, in_periods_and_services, in_trips}
use Rattle.gtfs_schema.proofs.ReportingFacts.{reports_four}
use Rattle.gtfs_row_rules.specs.RowCodes.{in_rows}
use Rattle.gtfs_rules.proofs.checks.report_parts.Goals as goal

pub returns-clause-reported : goal.returns-clause-reported
returns-clause-reported c = reports_four c.args.tables.now in_files in_rows in_trips in_periods_and_services _ _ _ _ _
    c.in_ok-report_files_and_headers.ensures c.in_ok-report_rows.ensures c.in_ok-stop_times.ensures.reported c.in_ok-report_periods_and_services.ensures
