use Rattle.gtfs_table.specs.Rows.{records_in}
use Rattle.gtfs_table.specs.Tables.{field_under, record_at}
use Rattle.gtfs_table.specs.declared.file.File.TheVariants as file
use Rattle.gtfs_trip_rules.specs.ServiceCalendars.{weekdays_of}
use Rattle.gtfs_trip_rules.proofs.services.weekdays.Weekdays.new.Goals as goal

pub returns : goal.returns
returns c = λ n.
    let r = record_at (records_in c.args.tables.now file.Calendar) n in
    λ i. weekdays_of
    (field_under r (c.column.ensures i)) (field_under r (c.column-2.ensures i)) (field_under r (c.column-3.ensures i)) (field_under r (c.column-4.ensures i))
    (field_under r (c.column-5.ensures i)) (field_under r (c.column-6.ensures i)) (field_under r (c.column-7.ensures i))
