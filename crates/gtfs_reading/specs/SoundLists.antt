-- Rows of which some lists are read: what they stand for, their numbers read by the ids of the dataset.
use Rattle.std.specs.Prelude.{◌≡◌, map, true}
use Rattle.std.specs.List.{list_all}
use Rattle.gtfs_table.specs.Tables.{Dataset}
use Rattle.gtfs_table.specs.declared.file.File.TheVariants as file
use Rattle.gtfs_rows.specs.ContentRead.{content_of}
use Rattle.gtfs_rows.specs.RowsInMemory.{agency_of, service_of}
use Rattle.gtfs_reading.specs.declared.feed_rows.FeedRows.{FeedRows}
use Rattle.gtfs_reading.specs.NamedTexts.{ids_of}
use Rattle.gtfs_rows.specs.NamedRows.{names_agency, names_parent, names_route_and_service, route_named, stop_named, trip_named, without_rows}
use Rattle.gtfs_reading.specs.ServiceIds.{service_ids}

-- the agencies, the stops and the routes
pub record HasNetwork (d : Dataset) (r : FeedRows) : Type 0 where
  pub agencies : map agency_of r.agencies ≡ (content_of d).agencies
  pub stops : map (stop_named (ids_of d file.Stops "stop_id")) r.stops ≡ (content_of d).stops
  pub parents : list_all (names_parent (ids_of d file.Stops "stop_id")) r.stops ≡ true
  pub routes : map (route_named (ids_of d file.Agency "agency_id")) r.routes ≡ (content_of d).routes
  pub agency_numbers : list_all (names_agency (ids_of d file.Agency "agency_id")) r.routes ≡ true

-- these, the services and the trips
pub record HasTrips (d : Dataset) (r : FeedRows) : Type 0 where
  pub network : HasNetwork d r
  pub services : map service_of r.services ≡ (content_of d).services
  pub trips : map (trip_named (ids_of d file.Routes "route_id") (service_ids d)) r.trips ≡ map without_rows (content_of d).trips
  pub trip_numbers : list_all (names_route_and_service (ids_of d file.Routes "route_id") (service_ids d)) r.trips ≡ true
