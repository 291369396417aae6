-- The ids that columns of other files name.
use Rattle.std.specs.Prelude.{◌≡◌, codes}
use Rattle.gtfs_table.specs.Tables.{Dataset}
use Rattle.gtfs_table.specs.declared.file.File.TheVariants as file
use Rattle.gtfs_schema.specs.declared.feed_ids.FeedIds.{FeedIds}
use Rattle.gtfs_schema.specs.declared.network_ids.NetworkIds.{NetworkIds}
use Rattle.gtfs_schema.specs.IdNumbers.{first_rows}

-- each id column is that of its file
pub record AreNetworkIdsOf (d : Dataset) (ids : NetworkIds) : Type 0 where
  pub agencies : ids.agencies ≡ first_rows d file.Agency (codes "agency_id")
  pub stops : ids.stops ≡ first_rows d file.Stops (codes "stop_id")
  pub routes : ids.routes ≡ first_rows d file.Routes (codes "route_id")
  pub trips : ids.trips ≡ first_rows d file.Trips (codes "trip_id")

-- and so are those of services
pub record AreIdsOf (d : Dataset) (ids : FeedIds) : Type 0 where
  pub network : AreNetworkIdsOf d ids.network
  pub calendar : ids.calendar ≡ first_rows d file.Calendar (codes "service_id")
  pub calendar_dates : ids.calendar_dates ≡ first_rows d file.CalendarDates (codes "service_id")
