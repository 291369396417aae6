-- When two rows have equal content, their own ids apart.
-- GTFS Schedule Reference, the fields of each file.
use Rattle.std.specs.Prelude.{ℕ, ◌==◌, ◌&&◌, not, Bool, if◌then◌else◌, List, bytes_eq, nat_eq, Option, ℤ}
use Rattle.std.specs.Option.{option_eq}
use Rattle.std.specs.Ordering.{int_eq}
use Rattle.std.specs.Cmp.Lexicographic.{pointwise}
use Rattle.gtfs_days.specs.Service.{ServiceDates, is_added}
use Rattle.gtfs_days.specs.declared.week.Week.{Week}
use Rattle.gtfs_days.specs.declared.exception.Exception.{Exception}
use Rattle.gtfs_rows.specs.Rows.{Agency, Stop, Route, StopRow, Frequency, Trip}

abbrev pub same_text : Option (List ℕ) → Option (List ℕ) → Bool
same_text = option_eq bytes_eq

abbrev pub same_number : Option ℕ → Option ℕ → Bool
same_number = option_eq nat_eq

abbrev pub same_degrees : Option ℤ → Option ℤ → Bool
same_degrees = option_eq int_eq

abbrev pub same_flag : Bool → Bool → Bool
same_flag a b = if a then b else not b

abbrev pub same_agency : Agency → Agency → Bool
same_agency a b = bytes_eq a.agency_name b.agency_name
    && bytes_eq a.agency_url b.agency_url
    && bytes_eq a.agency_timezone b.agency_timezone
    && same_text a.agency_lang b.agency_lang
    && same_text a.agency_phone b.agency_phone
    && same_text a.agency_fare_url b.agency_fare_url
    && same_text a.agency_email b.agency_email

abbrev pub same_stop : Stop → Stop → Bool
same_stop a b = same_text a.stop_code b.stop_code
    && same_text a.stop_name b.stop_name
    && same_text a.tts_stop_name b.tts_stop_name
    && same_text a.stop_desc b.stop_desc
    && same_degrees a.stop_lat b.stop_lat
    && same_degrees a.stop_lon b.stop_lon
    && same_text a.stop_url b.stop_url
    && (a.location_type == b.location_type)
    && same_text a.parent_station b.parent_station
    && (a.wheelchair_boarding == b.wheelchair_boarding)
    && same_text a.platform_code b.platform_code

abbrev pub same_route : Route → Route → Bool
same_route a b = bytes_eq a.agency_id b.agency_id
    && same_text a.route_short_name b.route_short_name
    && same_text a.route_long_name b.route_long_name
    && same_text a.route_desc b.route_desc
    && (a.route_type == b.route_type)
    && same_text a.route_url b.route_url
    && (a.route_color == b.route_color)
    && (a.route_text_color == b.route_text_color)
    && same_number a.route_sort_order b.route_sort_order

abbrev pub same_week : Week → Week → Bool
same_week a b = pointwise same_flag a.days b.days && int_eq a.start b.start && int_eq a.end b.end

abbrev pub same_exception : ℤ × Exception → ℤ × Exception → Bool
same_exception a b = int_eq a.0 b.0 && same_flag (is_added a.1) (is_added b.1)

abbrev pub same_service : ServiceDates → ServiceDates → Bool
same_service a b = option_eq same_week a.week b.week && pointwise same_exception a.exceptions b.exceptions

abbrev pub same_stop_row : StopRow → StopRow → Bool
same_stop_row a b = same_number a.arrival_time b.arrival_time
    && same_number a.departure_time b.departure_time
    && bytes_eq a.stop_id b.stop_id
    && (a.stop_sequence == b.stop_sequence)
    && same_text a.stop_headsign b.stop_headsign
    && (a.pickup_type == b.pickup_type)
    && (a.drop_off_type == b.drop_off_type)
    && same_number a.timepoint b.timepoint

abbrev pub same_frequency : Frequency → Frequency → Bool
same_frequency a b = (a.start_time == b.start_time) && (a.end_time == b.end_time) && (a.headway_secs == b.headway_secs)
    && (a.exact_times == b.exact_times)

-- a trip's content has its stop rows and its frequencies
abbrev pub same_trip : Trip → Trip → Bool
same_trip a b = bytes_eq a.route_id b.route_id
    && bytes_eq a.service_id b.service_id
    && same_text a.trip_headsign b.trip_headsign
    && same_text a.trip_short_name b.trip_short_name
    && same_number a.direction_id b.direction_id
    && (a.wheelchair_accessible == b.wheelchair_accessible)
    && (a.bikes_allowed == b.bikes_allowed)
    && pointwise same_stop_row a.stop_rows b.stop_rows
    && pointwise same_frequency a.frequencies b.frequencies
