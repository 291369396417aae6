-- What the rows of a feed stand for: the plain records, with ids and headsigns as texts in place of their numbers.
use Rattle.std.specs.Prelude.{◌≡◌, ℕ, ◌&&◌, Bool, true, nat_lt, List, [], ◌∷◌, length, map, slice_index_or, Option, option_map}
use Rattle.std.specs.List.{list_all}
use Rattle.csv.specs.Records.{Rising}
use Rattle.gtfs_table.specs.FieldOffsets.{parts}
use Rattle.gtfs_rows.specs.declared.agency.Agency.{Agency as AgencyRow}
use Rattle.gtfs_rows.specs.declared.frequency.Frequency.{Frequency as FrequencyRow}
use Rattle.gtfs_rows.specs.declared.numbers.RouteNo.{RouteNo}
use Rattle.gtfs_stop_times.specs.declared.numbers.StopNo.{StopNo}
use Rattle.gtfs_rows.specs.declared.numbers.TripNo.{TripNo}
use Rattle.gtfs_rows.specs.declared.parts.Parts.{Parts}
use Rattle.gtfs_rows.specs.declared.route.Route.{Route as RouteRow}
use Rattle.gtfs_rows.specs.declared.service.ServiceRow.{ServiceRow as ServiceByNumber}
use Rattle.gtfs_rows.specs.declared.stop.Stop.{Stop as StopByNumber}
use Rattle.gtfs_stop_times.specs.declared.stop_row.StopRow.{StopRow as StopTime}
use Rattle.gtfs_rows.specs.declared.transfer.Transfer.{Transfer as TransferRow}
use Rattle.gtfs_rows.specs.declared.trip.Trip.{Trip as TripRow}
use Rattle.gtfs_rows.specs.RowChoices.{exact_code}
use Rattle.gtfs_rows.specs.Content.{Content}
pub use Rattle.gtfs_rows.specs.NamedRows.{is_number_within, text_of_number}
use Rattle.gtfs_rows.specs.NamedRows.{route_named, stop_named, stop_row_named, trip_named}
use Rattle.gtfs_rows.specs.Rows.{Agency, Stop, Route, ServiceRow, StopRow, Frequency, Trip, Transfer}
use Rattle.gtfs_rows.specs.SoundContent.{IsSound}
use Rattle.gtfs_rows.specs.TransferEnds.{transfer_named}

-- ---- names

abbrev pub agency_ids : Parts → List (List ℕ)
agency_ids p = map (λ a. a.agency_id) p.agencies

abbrev pub stop_ids : Parts → List (List ℕ)
stop_ids p = map (λ s. s.stop_id) p.stops

abbrev pub route_ids : Parts → List (List ℕ)
route_ids p = map (λ r. r.route_id) p.routes

abbrev pub service_ids : Parts → List (List ℕ)
service_ids p = map (λ s. s.service_id) p.services

abbrev pub trip_ids : Parts → List (List ℕ)
trip_ids p = map (λ t. t.trip_id) p.trips

-- ---- rows

abbrev pub agency_of : AgencyRow → Agency
agency_of a = record {
  agency_id = a.agency_id;
  agency_name = a.agency_name;
  agency_url = a.agency_url;
  agency_timezone = a.agency_timezone;
  agency_lang = a.agency_lang;
  agency_phone = a.agency_phone;
  agency_fare_url = a.agency_fare_url;
  agency_email = a.agency_email;
}

abbrev pub stop_of : Parts → StopByNumber → Stop
stop_of p s = stop_named (stop_ids p) s

abbrev pub route_of : Parts → RouteRow → Route
route_of p r = route_named (agency_ids p) r

abbrev pub service_of : ServiceByNumber → ServiceRow
service_of s = record { service_id = s.service_id; service = s.service }

abbrev pub stop_row_of : Parts → StopTime → StopRow
stop_row_of p r = stop_row_named (stop_ids p) p.headsigns r

abbrev pub frequency_of : FrequencyRow → Frequency
frequency_of f = record {
  start_time = f.start_time;
  end_time = f.end_time;
  headway_secs = f.headway_secs;
  exact_times = exact_code f.exact_times;
}

-- a trip with its stop times and frequencies
abbrev pub trip_of : Parts → TripRow → List StopTime → List FrequencyRow → Trip
trip_of p t stop_times frequencies = record (trip_named (route_ids p) (service_ids p) t) {
  stop_rows = map (stop_row_of p) stop_times;
  frequencies = map frequency_of frequencies;
}

-- each trip with the stop times and the frequencies at its index
abbrev pub trips_of : Parts → List TripRow → List (List StopTime) → List (List FrequencyRow) → List Trip
trips_of p [] rs fs = []
trips_of p (t ∷ ts) [] fs = []
trips_of p (t ∷ ts) (r ∷ rs) [] = []
trips_of p (t ∷ ts) (r ∷ rs) (f ∷ fs) = trip_of p t r f ∷ trips_of p ts rs fs

abbrev pub transfer_of : Parts → TransferRow → Transfer
transfer_of p t = transfer_named (stop_ids p) (route_ids p) (trip_ids p) t

-- the content that the parts stand for
abbrev pub content_of_parts : Parts → Content
content_of_parts p = record {
  agencies = map agency_of p.agencies;
  stops = map (stop_of p) p.stops;
  routes = map (route_of p) p.routes;
  services = map service_of p.services;
  trips = trips_of p p.trips (parts p.stop_times.starts p.stop_times.rows) (parts p.frequency_starts p.frequencies);
  transfers = map (transfer_of p) p.transfers;
}

-- ---- parts that make a feed

abbrev pub names_stop : Parts → Option StopNo → Bool
names_stop p o = is_number_within (length p.stops) (option_map (λ n. n.0) o)

abbrev pub names_route : Parts → Option RouteNo → Bool
names_route p o = is_number_within (length p.routes) (option_map (λ n. n.0) o)

abbrev pub names_trip : Parts → Option TripNo → Bool
names_trip p o = is_number_within (length p.trips) (option_map (λ n. n.0) o)

abbrev pub trip_names_rows : Parts → TripRow → Bool
trip_names_rows p t = nat_lt t.route_id.0 (length p.routes) && nat_lt t.service_id.0 (length p.services)

abbrev pub stop_time_names_rows : Parts → StopTime → Bool
stop_time_names_rows p r = nat_lt r.stop_id.0 (length p.stops) && is_number_within (length p.headsigns) r.stop_headsign

abbrev pub transfer_names_rows : Parts → TransferRow → Bool
transfer_names_rows p t = names_stop p t.from_stop_id && names_stop p t.to_stop_id && names_route p t.from_route_id
    && names_route p t.to_route_id && names_trip p t.from_trip_id && names_trip p t.to_trip_id

-- each number is that of a row in its list
pub record NamesRows (p : Parts) : Type 0 where
  pub stops : list_all (λ s. names_stop p s.parent_station) p.stops ≡ true
  pub routes : list_all (λ r. nat_lt r.agency_id.0 (length p.agencies)) p.routes ≡ true
  pub trips : list_all (trip_names_rows p) p.trips ≡ true
  pub stop_rows : list_all (stop_time_names_rows p) p.stop_times.rows ≡ true
  pub transfers : list_all (transfer_names_rows p) p.transfers ≡ true

-- a list in which each trip has its stretch: as many starts as trips, rising to the end, and nothing before the first
abbrev pub IsCut : {X : Type 0} → Parts → List ℕ → List X → Type 0
IsCut p starts xs = (length starts ≡ length p.trips) × Rising 0 starts (length xs) × (slice_index_or starts 0 (length xs) ≡ 0)

-- what `Feed::assemble` asks of parts
pub record IsSoundParts (p : Parts) : Type 0 where
  pub names_rows : NamesRows p
  pub stop_rows : IsCut p p.stop_times.starts p.stop_times.rows
  pub frequencies : IsCut p p.frequency_starts p.frequencies
  pub content : IsSound (content_of_parts p)
