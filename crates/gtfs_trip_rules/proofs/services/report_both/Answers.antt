use Rattle.std.proofs.Common.{◌∙◌, sym, ap}
use Rattle.std.specs.Prelude.{◌&&◌}
use Rattle.gtfs_trip_rules.specs.declared.services.source.Source.TheVariants as source
use Rattle.gtfs_table.specs.Rows.{is_row, records_in}
use Rattle.gtfs_trip_rules.specs.ServiceCalendars.{file_of, is_reported, Calendars}
use Rattle.gtfs_trip_rules.proofs.ServiceFacts.{condition_is}
use Rattle.gtfs_trip_rules.proofs.ServiceReports.{both_reported}
use Rattle.gtfs_trip_rules.proofs.services.report_both.Goals as goal

pub report_source-requires : goal.report_source-requires
report_source-requires c = λ n. condition_is c.args.tables.now n source.Weeks
    ∙ ap (λ (s : Calendars). is_row (records_in c.args.tables.now (file_of source.Weeks)) n && is_reported s source.Weeks n) (sym c.requires)

pub report_source-requires-2 : goal.report_source-requires-2
report_source-requires-2 c = λ n. condition_is c.args.tables.now n source.Dates
    ∙ ap (λ (s : Calendars). is_row (records_in c.args.tables.now (file_of source.Dates)) n && is_reported s source.Dates n) (sym c.requires)

pub returns : goal.returns
returns c = both_reported c.args.tables.now _ _ _ c.report_source-2.result c.in_ok-report_source.ensures c.report_source-2.ensures
