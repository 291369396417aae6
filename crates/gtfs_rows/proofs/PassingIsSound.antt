-- The content of a dataset that passes makes a feed.
use Rattle.gtfs_table.specs.Tables.{Dataset}
use Rattle.gtfs_schema.specs.Problems.{Passes}
use Rattle.gtfs_rows.specs.ContentRead.{content_of}
use Rattle.gtfs_rows.specs.SoundContent.{IsSound}
use Rattle.gtfs_rows.proofs.ContentRows.{content_in_order}
use Rattle.gtfs_rows.proofs.PassedAgencies.{has_agency, agencies_sound, routes_sound}
use Rattle.gtfs_rows.proofs.PassedCells.{cells_fit}
use Rattle.gtfs_rows.proofs.PassedServices.{services_sound}
use Rattle.gtfs_rows.proofs.PassedStops.{stops_sound}
use Rattle.gtfs_rows.proofs.PassedTransfers.{transfers_sound}
use Rattle.gtfs_rows.proofs.PassedTrips.{trips_sound}

pub passing_is_sound : (d : Dataset) → Passes d → IsSound (content_of d)
passing_is_sound d passes = record {
  cells = cells_fit d passes;
  in_order = content_in_order d;
  has_agency = has_agency d passes;
  agencies = agencies_sound d passes;
  stops = stops_sound d passes;
  routes = routes_sound d passes;
  services = services_sound d passes;
  trips = trips_sound d passes;
  transfers = transfers_sound d passes;
}
