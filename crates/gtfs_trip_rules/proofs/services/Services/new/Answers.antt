use Rattle.std.proofs.Common.{ap, ℕ, Option}
use Rattle.gtfs_table.specs.declared.file.File.TheVariants as file
use Rattle.gtfs_trip_rules.specs.RowsById.{rows_of, text_under}
use Rattle.gtfs_trip_rules.specs.ServiceFields.{exception_in, week_in}
use Rattle.gtfs_trip_rules.proofs.ServiceFacts.{calendars_made}
use Rattle.gtfs_trip_rules.proofs.services.Services.new.Goals as goal

pub returns : goal.returns
returns c =
    let d = c.args.tables.now in
    calendars_made d (text_under d file.Calendar c.column-week_id.result) (text_under d file.CalendarDates c.column-date_id.result)
    (rows_of c.in_ok-new.field-0) (rows_of c.in_ok-new-2.field-0) (week_in d c.new-3.result) (exception_in d c.new-4.result)
    (λ n. ap (λ (i : Option ℕ). text_under d file.Calendar i n) c.column-week_id.ensures)
    (λ n. ap (λ (i : Option ℕ). text_under d file.CalendarDates i n) c.column-date_id.ensures)
    c.in_ok-new.ensures c.in_ok-new-2.ensures c.new-3.ensures c.new-4.ensures
