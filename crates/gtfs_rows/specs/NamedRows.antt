-- What rows with numbers stand for, given the ids by their numbers: with ids and headsigns as texts in place of numbers.
use Rattle.std.specs.Prelude.{ℕ, ◌&&◌, [], true, Bool, List, length, nat_lt, slice_index_or, Option, Some, None, option_map}
use Rattle.gtfs_rows.specs.declared.route.Route.{Route as RouteRow}
use Rattle.gtfs_rows.specs.declared.stop.Stop.{Stop as StopRowOf}
use Rattle.gtfs_stop_times.specs.declared.stop_row.StopRow.{StopRow as RowByNumber}
use Rattle.gtfs_rows.specs.declared.trip.Trip.{Trip as TripRow}
use Rattle.gtfs_rows.specs.RowChoices.{bikes_code, boarding_code, direction_code, drop_off_code, location_code, pickup_code, timepoint_code, wheelchair_code}
use Rattle.gtfs_rows.specs.Rows.{Route, Stop, StopRow, Trip}

-- the text of a number; of a number beyond the list this says nothing that a clause uses
abbrev pub text_of_number : List (List ℕ) → ℕ → List ℕ
text_of_number texts n = slice_index_or texts n []

-- a number that is there lies within a list of this length
abbrev pub is_number_within : ℕ → Option ℕ → Bool
is_number_within count None = true
is_number_within count (Some n) = nat_lt n count

-- a stop, where these are the ids of all stops
abbrev pub stop_named : List (List ℕ) → StopRowOf → Stop
stop_named ids s = record {
  stop_id = s.stop_id;
  stop_code = s.stop_code;
  stop_name = s.stop_name;
  tts_stop_name = s.tts_stop_name;
  stop_desc = s.stop_desc;
  stop_lat = s.stop_lat;
  stop_lon = s.stop_lon;
  stop_url = s.stop_url;
  location_type = location_code s.location_type;
  parent_station = option_map (λ n. text_of_number ids n.0) s.parent_station;
  wheelchair_boarding = boarding_code s.wheelchair_boarding;
  platform_code = s.platform_code;
}

-- the number of its parent, if it has one, is that of one of these ids
abbrev pub names_parent : List (List ℕ) → StopRowOf → Bool
names_parent ids s = is_number_within (length ids) (option_map (λ n. n.0) s.parent_station)

-- a route, where these are the ids of all agencies
abbrev pub route_named : List (List ℕ) → RouteRow → Route
route_named ids r = record {
  route_id = r.route_id;
  agency_id = text_of_number ids r.agency_id.0;
  route_short_name = r.route_short_name;
  route_long_name = r.route_long_name;
  route_desc = r.route_desc;
  route_type = r.route_type;
  route_url = r.route_url;
  route_color = r.route_color;
  route_text_color = r.route_text_color;
  route_sort_order = r.route_sort_order;
}

-- the number of its agency is that of one of these ids
abbrev pub names_agency : List (List ℕ) → RouteRow → Bool
names_agency ids r = nat_lt r.agency_id.0 (length ids)

-- a trip without its stop times and frequencies, where these are the ids of all routes and of all services
abbrev pub trip_named : List (List ℕ) → List (List ℕ) → TripRow → Trip
trip_named routes services t = record {
  route_id = text_of_number routes t.route_id.0;
  service_id = text_of_number services t.service_id.0;
  trip_id = t.trip_id;
  trip_headsign = t.trip_headsign;
  trip_short_name = t.trip_short_name;
  direction_id = option_map direction_code t.direction_id;
  wheelchair_accessible = wheelchair_code t.wheelchair_accessible;
  bikes_allowed = bikes_code t.bikes_allowed;
  stop_rows = [];
  frequencies = [];
}

-- the numbers of its route and of its service are those of ids
abbrev pub names_route_and_service : List (List ℕ) → List (List ℕ) → TripRow → Bool
names_route_and_service routes services t = nat_lt t.route_id.0 (length routes) && nat_lt t.service_id.0 (length services)

-- the same of a content's trip
abbrev pub without_rows : Trip → Trip
without_rows t = record t { stop_rows = []; frequencies = [] }

-- what a row stands for, where these are the ids of all stops and all headsigns
abbrev pub stop_row_named : List (List ℕ) → List (List ℕ) → RowByNumber → StopRow
stop_row_named stop_ids headsigns r = record {
  arrival_time = r.arrival_time;
  departure_time = r.departure_time;
  stop_id = text_of_number stop_ids r.stop_id.0;
  stop_sequence = r.stop_sequence;
  stop_headsign = option_map (text_of_number headsigns) r.stop_headsign;
  pickup_type = pickup_code r.pickup_type;
  drop_off_type = drop_off_code r.drop_off_type;
  timepoint = option_map timepoint_code r.timepoint;
}

-- its stop and its headsign lie within lists of these lengths
abbrev pub has_numbers_below : ℕ → ℕ → RowByNumber → Bool
has_numbers_below stops headsigns r = nat_lt r.stop_id.0 stops && is_number_within headsigns r.stop_headsign
