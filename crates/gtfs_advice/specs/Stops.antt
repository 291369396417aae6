-- Which stops a reader would look at twice (GTFS Schedule Reference, stops.txt).
-- A coordinate is in units of 10^-9 degree. A stop has a place where both of its coordinates are there.
use Rattle.std.specs.Prelude.{ℕ, ◌==◌, ◌&&◌, ◌||◌, not, Bool, nat_lt, nat_le, List, bytes_eq, find, Option, Some, ℤ, ◌-ℤ◌, unsigned_abs, is_some}
use Rattle.std.specs.List.{list_any}
use Rattle.std.specs.Option.{option_and_then, option_eq}
use Rattle.gtfs_schema.specs.FieldValues.{if_both, if_there}
use Rattle.gtfs_rows.specs.Content.{Content}
use Rattle.gtfs_rows.specs.Rows.{Stop, Trip}
use Rattle.gtfs_advice.specs.TextFaults.{is_garbled_if_given}

-- the stop of an id
abbrev pub stop_with_id : Content → List ℕ → Option Stop
stop_with_id c id = find (λ s. bytes_eq s.stop_id id) c.stops

-- ---- which stops are used

abbrev pub calls_at : List ℕ → Trip → Bool
calls_at id t = list_any (λ row. bytes_eq row.stop_id id) t.stop_rows

-- a stop or platform that no stop time names
abbrev pub has_no_call : Content → Stop → Bool
has_no_call c s = (s.location_type == 0) && not (list_any (calls_at s.stop_id) c.trips)

-- a stop or platform that belongs to a station
abbrev pub is_part_of : List ℕ → Stop → Bool
is_part_of station s = (s.location_type == 0) && option_eq bytes_eq s.parent_station (Some station)

-- a station to which no stop or platform belongs
abbrev pub has_no_stop : Content → Stop → Bool
has_no_stop c s = (s.location_type == 1) && not (list_any (is_part_of s.stop_id) c.stops)

-- ---- where stops are

-- latitude and longitude are both at most a degree from 0, or the latitude is at most a degree from a pole
abbrev pub is_odd_place : ℤ → ℤ → Bool
is_odd_place lat lon = (nat_le (unsigned_abs lat) 1_000_000_000 && nat_le (unsigned_abs lon) 1_000_000_000)
    || nat_le 89_000_000_000 (unsigned_abs lat)

abbrev pub is_near_zero_or_pole : Stop → Bool
is_near_zero_or_pole s = if_both s.stop_lat s.stop_lon is_odd_place

abbrev pub has_place : Stop → Bool
has_place s = is_some s.stop_lat && is_some s.stop_lon

-- both coordinates are there, and differ by more than n units
abbrev pub differ_by_more : ℕ → Option ℤ → Option ℤ → Bool
differ_by_more n a b = if_both a b (λ x y. nat_lt n (unsigned_abs (x -ℤ y)))

-- some kilometre away: more than 0.01 degrees of latitude or 0.02 of longitude, which are not joined at 180 degrees
abbrev pub is_far : Stop → Stop → Bool
is_far s t = has_place s && has_place t
    && (differ_by_more 10_000_000 s.stop_lat t.stop_lat || differ_by_more 20_000_000 s.stop_lon t.stop_lon)

abbrev pub is_far_from_parent : Content → Stop → Bool
is_far_from_parent c s = if_there (option_and_then (stop_with_id c) s.parent_station) (is_far s)

abbrev pub is_garbled_stop : Stop → Bool
is_garbled_stop s = is_garbled_if_given s.stop_name
