-- Small trips and feeds for worked examples.
use Rattle.std.proofs.Common.{codes, ◌∷◌, [], ℕ, List, Option, Some, None}
use Rattle.gtfs_rows.specs.Content.{Content}
use Rattle.gtfs_rows.specs.Rows.{Stop, StopRow, Frequency, Trip}

abbrev pub stop : List ℕ → ℕ → Option (List ℕ) → Stop
stop id type parent = record {
  stop_id = id;
  stop_code = None;
  stop_name = None;
  tts_stop_name = None;
  stop_desc = None;
  stop_lat = None;
  stop_lon = None;
  stop_url = None;
  location_type = type;
  parent_station = parent;
  wheelchair_boarding = 0;
  platform_code = None;
}

abbrev pub stop_row : List ℕ → Option ℕ → ℕ → ℕ → StopRow
stop_row s time sequence pickup = record {
  arrival_time = time;
  departure_time = time;
  stop_id = s;
  stop_sequence = sequence;
  stop_headsign = None;
  pickup_type = pickup;
  drop_off_type = 0;
  timepoint = None;
}

abbrev pub period : ℕ → ℕ → ℕ → Frequency
period start end headway = record { start_time = start; end_time = end; headway_secs = headway; exact_times = 0 }

abbrev pub trip : List StopRow → List Frequency → Trip
trip rows periods = record {
  route_id = codes "R1";
  service_id = codes "C1";
  trip_id = codes "T1";
  trip_headsign = None;
  trip_short_name = None;
  direction_id = None;
  wheelchair_accessible = 0;
  bikes_allowed = 0;
  stop_rows = rows;
  frequencies = periods;
}

-- from the first stop at eight o'clock to the second ten minutes later
abbrev pub plain_rows : List StopRow
plain_rows = stop_row (codes "S1") (Some 28800) 1 0 ∷ stop_row (codes "S2") (Some 29400) 2 0 ∷ []

-- each half hour from six to eight, in two periods
abbrev pub half_hours : List Frequency
half_hours = period 21600 25200 1800 ∷ period 25200 28800 1800 ∷ []

abbrev pub feed : List Stop → Trip → Content
feed stops t = record { agencies = []; stops = stops; routes = []; services = []; trips = t ∷ []; transfers = [] }

-- two stops, a station, and its entrance and platform
abbrev pub stops : List Stop
stops = stop (codes "E") 2 (Some (codes "S")) ∷ stop (codes "P") 0 (Some (codes "S")) ∷ stop (codes "S") 1 None ∷ stop (codes "S1") 0 None ∷ stop (codes "S2") 0 None ∷ []
