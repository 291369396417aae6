-- The content of a dataset that passes: its rows as typed values.
-- GTFS Schedule Reference, the fields of each file; an empty value has the meaning of its column, and a control character in a
-- text is a space. Of a dataset that does not pass this says nothing that a clause uses.
use Rattle.std.specs.Prelude.{ℕ, ◌++◌, List, [], ◌∷◌, map, filter, Option, option_map, unwrap_or, unsigned_abs, pos}
use Rattle.std.specs.Ordering.{nat_cmp, int_cmp}
use Prim.Native.String.{String as Literal}
use Rattle.gtfs_field.specs.TextOrder.{text_cmp}
use Rattle.gtfs_table.specs.Tables.{Dataset}
use Rattle.gtfs_table.specs.declared.file.File.{File}
use Rattle.gtfs_table.specs.declared.file.File.TheVariants as file
use Rattle.gtfs_days.specs.Service.{ServiceDates, with_exceptions}
use Rattle.gtfs_table.specs.Rows.{rows}
use Rattle.gtfs_schema.specs.FieldValues.{is_word}
use Rattle.gtfs_schema.specs.RowConditions.{word_in, amount_in, choice_in}
use Rattle.gtfs_schema.specs.Calendars.{service_in}
use Rattle.gtfs_rows.specs.Content.{Content}
use Rattle.gtfs_rows.specs.TransferOrder.{by_key, transfer_key, transfer_key_cmp}
use Rattle.gtfs_rows.specs.Rows.{Agency, Stop, Route, ServiceRow, StopRow, Frequency, Trip, Transfer}

-- ---- the value of a column in a row

-- an id or a text that is there, or the empty one
abbrev pub text_at : Dataset → File → ℕ → Literal → List ℕ
text_at d x n column = unwrap_or (word_in d x n column) []

-- a number that may be missing
abbrev pub number_in : Dataset → File → ℕ → Literal → Option ℕ
number_in d x n column = option_map unsigned_abs (amount_in d x n column)

-- a number, an empty value taken by its meaning
abbrev pub number_at : Dataset → File → ℕ → Literal → ℕ
number_at d x n column = unsigned_abs (unwrap_or (choice_in d x n column) (pos 0))

-- ---- the row of each file

abbrev pub agency_in : Dataset → ℕ → Agency
agency_in d n = record {
  agency_id = text_at d file.Agency n "agency_id";
  agency_name = text_at d file.Agency n "agency_name";
  agency_url = text_at d file.Agency n "agency_url";
  agency_timezone = text_at d file.Agency n "agency_timezone";
  agency_lang = word_in d file.Agency n "agency_lang";
  agency_phone = word_in d file.Agency n "agency_phone";
  agency_fare_url = word_in d file.Agency n "agency_fare_url";
  agency_email = word_in d file.Agency n "agency_email";
}

abbrev pub stop_in : Dataset → ℕ → Stop
stop_in d n = record {
  stop_id = text_at d file.Stops n "stop_id";
  stop_code = word_in d file.Stops n "stop_code";
  stop_name = word_in d file.Stops n "stop_name";
  tts_stop_name = word_in d file.Stops n "tts_stop_name";
  stop_desc = word_in d file.Stops n "stop_desc";
  stop_lat = amount_in d file.Stops n "stop_lat";
  stop_lon = amount_in d file.Stops n "stop_lon";
  stop_url = word_in d file.Stops n "stop_url";
  location_type = number_at d file.Stops n "location_type";
  parent_station = word_in d file.Stops n "parent_station";
  wheelchair_boarding = number_at d file.Stops n "wheelchair_boarding";
  platform_code = word_in d file.Stops n "platform_code";
}

-- the id of the first agency, which is the only one where a route names none
abbrev pub first_agency : Dataset → List ℕ → List ℕ
first_agency d [] = []
first_agency d (n ∷ ns) = text_at d file.Agency n "agency_id"

abbrev pub route_in : Dataset → ℕ → Route
route_in d n = record {
  route_id = text_at d file.Routes n "route_id";
  agency_id = unwrap_or (word_in d file.Routes n "agency_id") (first_agency d (rows d file.Agency));
  route_short_name = word_in d file.Routes n "route_short_name";
  route_long_name = word_in d file.Routes n "route_long_name";
  route_desc = word_in d file.Routes n "route_desc";
  route_type = number_at d file.Routes n "route_type";
  route_url = word_in d file.Routes n "route_url";
  route_color = number_at d file.Routes n "route_color";
  route_text_color = number_at d file.Routes n "route_text_color";
  route_sort_order = number_in d file.Routes n "route_sort_order";
}

abbrev pub stop_row_in : Dataset → ℕ → StopRow
stop_row_in d n = record {
  arrival_time = number_in d file.StopTimes n "arrival_time";
  departure_time = number_in d file.StopTimes n "departure_time";
  stop_id = text_at d file.StopTimes n "stop_id";
  stop_sequence = number_at d file.StopTimes n "stop_sequence";
  stop_headsign = word_in d file.StopTimes n "stop_headsign";
  pickup_type = number_at d file.StopTimes n "pickup_type";
  drop_off_type = number_at d file.StopTimes n "drop_off_type";
  timepoint = number_in d file.StopTimes n "timepoint";
}

abbrev pub frequency_in : Dataset → ℕ → Frequency
frequency_in d n = record {
  start_time = number_at d file.Frequencies n "start_time";
  end_time = number_at d file.Frequencies n "end_time";
  headway_secs = number_at d file.Frequencies n "headway_secs";
  exact_times = number_at d file.Frequencies n "exact_times";
}

-- the rows of a file that name a trip
abbrev pub rows_of : Dataset → File → List ℕ → List ℕ
rows_of d x trip = filter (λ m. is_word (word_in d x m "trip_id") trip) (rows d x)

abbrev pub trip_in : Dataset → ℕ → Trip
trip_in d n = record {
  route_id = text_at d file.Trips n "route_id";
  service_id = text_at d file.Trips n "service_id";
  trip_id = text_at d file.Trips n "trip_id";
  trip_headsign = word_in d file.Trips n "trip_headsign";
  trip_short_name = word_in d file.Trips n "trip_short_name";
  direction_id = number_in d file.Trips n "direction_id";
  wheelchair_accessible = number_at d file.Trips n "wheelchair_accessible";
  bikes_allowed = number_at d file.Trips n "bikes_allowed";
  stop_rows = by_key nat_cmp (λ r. r.stop_sequence) (map (stop_row_in d) (rows_of d file.StopTimes (text_at d file.Trips n "trip_id")));
  frequencies = by_key nat_cmp (λ r. r.start_time) (map (frequency_in d) (rows_of d file.Frequencies (text_at d file.Trips n "trip_id")));
}

abbrev pub transfer_in : Dataset → ℕ → Transfer
transfer_in d n = record {
  from_stop_id = word_in d file.Transfers n "from_stop_id";
  to_stop_id = word_in d file.Transfers n "to_stop_id";
  from_route_id = word_in d file.Transfers n "from_route_id";
  to_route_id = word_in d file.Transfers n "to_route_id";
  from_trip_id = word_in d file.Transfers n "from_trip_id";
  to_trip_id = word_in d file.Transfers n "to_trip_id";
  transfer_type = number_at d file.Transfers n "transfer_type";
  min_transfer_time = number_in d file.Transfers n "min_transfer_time";
}

-- the ids of services: those of both files
abbrev pub services_named : Dataset → List (List ℕ)
services_named d = map (λ n. text_at d file.Calendar n "service_id") (rows d file.Calendar)
    ++ map (λ n. text_at d file.CalendarDates n "service_id") (rows d file.CalendarDates)

-- exceptions by their days
abbrev pub in_order : ServiceDates → ServiceDates
in_order s = with_exceptions s (by_key int_cmp (λ e. e.0) s.exceptions)

abbrev pub service_row_in : Dataset → List ℕ → ServiceRow
service_row_in d service = record { service_id = service; service = in_order (service_in d service) }

-- ---- the content

abbrev pub content_of : Dataset → Content
content_of d = record {
  agencies = by_key text_cmp (λ a. a.agency_id) (map (agency_in d) (rows d file.Agency));
  stops = by_key text_cmp (λ s. s.stop_id) (map (stop_in d) (rows d file.Stops));
  routes = by_key text_cmp (λ r. r.route_id) (map (route_in d) (rows d file.Routes));
  services = by_key text_cmp (λ s. s.service_id) (map (service_row_in d) (services_named d));
  trips = by_key text_cmp (λ t. t.trip_id) (map (trip_in d) (rows d file.Trips));
  transfers = by_key transfer_key_cmp transfer_key (map (transfer_in d) (rows d file.Transfers));
}
