use Rattle.gtfs_table.specs.Rows.{records_in}
use Rattle.gtfs_table.specs.Tables.{field_under, record_at}
use Rattle.gtfs_table.specs.declared.file.File.TheVariants as file
use Rattle.gtfs_trip_rules.specs.ServiceCalendars.{week_of_days}
use Rattle.gtfs_trip_rules.proofs.services.weeks.Weeks.new.Goals as goal

pub returns : goal.returns
returns c = λ n.
    let r = record_at (records_in c.args.tables.now file.Calendar) n in
    λ i. week_of_days (c.new.ensures n i) (field_under r (c.column.ensures i)) (field_under r (c.column-2.ensures i))
