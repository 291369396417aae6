-- The rows of a dataset but its stop times: what the lists stand for, and that their numbers lie within them.
use Rattle.std.specs.Prelude.{◌≡◌, ◌&&◌, true, length, map, nat_lt, option_map}
use Rattle.std.specs.List.{list_all}
use Rattle.gtfs_table.specs.FieldOffsets.{parts}
use Rattle.gtfs_table.specs.Tables.{Dataset}
use Rattle.gtfs_rows.specs.declared.parts.Parts.{Parts}
use Rattle.gtfs_rows.specs.ContentRead.{content_of}
use Rattle.gtfs_rows.specs.RowsInMemory.{agency_of, frequency_of, is_number_within, service_of}
use Rattle.gtfs_reading.specs.declared.feed_rows.FeedRows.{FeedRows}
use Rattle.gtfs_reading.specs.CutStopTimes.{IsCutInto}
use Rattle.gtfs_rows.specs.NamedRows.{route_named, stop_named, trip_named, without_rows}
use Rattle.gtfs_rows.specs.TransferEnds.{transfer_named}

-- each number is that of a row in its list
pub record NumbersWithin (r : FeedRows) : Type 0 where
  pub stops : list_all (λ s. is_number_within (length r.stops) (option_map (λ n. n.0) s.parent_station)) r.stops ≡ true
  pub routes : list_all (λ x. nat_lt x.agency_id.0 (length r.agencies)) r.routes ≡ true
  pub trips : list_all (λ t. nat_lt t.route_id.0 (length r.routes) && nat_lt t.service_id.0 (length r.services)) r.trips ≡ true
  pub transfers : list_all (λ t. is_number_within (length r.stops) (option_map (λ n. n.0) t.from_stop_id) && is_number_within (length r.stops) (option_map (λ n. n.0) t.to_stop_id)
      && is_number_within (length r.routes) (option_map (λ n. n.0) t.from_route_id) && is_number_within (length r.routes) (option_map (λ n. n.0) t.to_route_id)
      && is_number_within (length r.trips) (option_map (λ n. n.0) t.from_trip_id) && is_number_within (length r.trips) (option_map (λ n. n.0) t.to_trip_id)) r.transfers ≡ true

-- with ids in place of numbers the rows are those of the dataset's content; trips without their stop times
pub record AreRowsOf (d : Dataset) (r : FeedRows) : Type 0 where
  pub agencies : map agency_of r.agencies ≡ (content_of d).agencies
  pub stops : map (stop_named (map (λ s. s.stop_id) r.stops)) r.stops ≡ (content_of d).stops
  pub routes : map (route_named (map (λ a. a.agency_id) r.agencies)) r.routes ≡ (content_of d).routes
  pub services : map service_of r.services ≡ (content_of d).services
  pub trips : map (trip_named (map (λ x. x.route_id) r.routes) (map (λ s. s.service_id) r.services)) r.trips ≡ map without_rows (content_of d).trips
  pub transfers : map (transfer_named (map (λ s. s.stop_id) r.stops) (map (λ x. x.route_id) r.routes) (map (λ t. t.trip_id) r.trips)) r.transfers ≡ (content_of d).transfers
  pub frequencies : map (map frequency_of) (parts r.frequency_starts r.frequencies) ≡ map (λ t. t.frequencies) (content_of d).trips
  -- each trip has its stretch of the frequencies
  pub cut : IsCutInto (length r.trips) r.frequency_starts r.frequencies
  pub within : NumbersWithin r

-- the lists of parts that are not about stop times
abbrev pub rows_in : Parts → FeedRows
rows_in p = record {
  agencies = p.agencies;
  stops = p.stops;
  routes = p.routes;
  services = p.services;
  trips = p.trips;
  transfers = p.transfers;
  frequencies = p.frequencies;
  frequency_starts = p.frequency_starts;
}
