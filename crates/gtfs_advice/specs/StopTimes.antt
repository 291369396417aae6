-- Which trips a reader would look at twice for their stop times (GTFS Schedule Reference, stop_times.txt).
-- The stop times of a trip stand by their sequence. Times are seconds from the origin of the service day.
use Rattle.std.specs.Prelude.{ℕ, ◌+◌, ◌-◌, ◌*◌, ◌==◌, ◌&&◌, Bool, false, if◌then◌else◌, nat_eq, nat_lt, List, [], ◌∷◌, length, take, drop, map, filter, bytes_eq, Option, None, ℤ, ◌-ℤ◌, unsigned_abs}
use Rattle.std.specs.List.{last_or, list_all, list_any, range_with_len}
use Rattle.std.specs.Option.{option_and_then}
use Rattle.gtfs_schema.specs.FieldValues.{if_both}
use Rattle.gtfs_rows.specs.Content.{Content}
use Rattle.gtfs_rows.specs.Rows.{Stop, StopRow, Trip}
use Rattle.gtfs_rows.specs.Runs.{first_leaves, is_timed}
use Rattle.gtfs_rows.specs.SoundContent.{comes, leaves}
use Rattle.gtfs_advice.specs.Stops.{has_place, stop_with_id}

-- ---- rows that follow each other

-- each n rows that follow each other
abbrev pub stretches : ℕ → List StopRow → List (List StopRow)
stretches n rows = filter (λ s. length s == n) (map (λ k. take n (drop k rows)) (range_with_len 0 (length rows)))

-- when the last of some rows is reached
abbrev pub last_comes : List StopRow → Option ℕ
last_comes rows = option_and_then comes (last_or None rows)

-- a test of two rows, of which one follows the other
abbrev pub of_two : (StopRow → StopRow → Bool) → List StopRow → Bool
of_two test [] = false
of_two test (r ∷ []) = false
of_two test (r ∷ s ∷ rest) = test r s

-- some row and the next one pass the test
abbrev pub any_two : (StopRow → StopRow → Bool) → Trip → Bool
any_two test t = list_any (of_two test) (stretches 2 t.stop_rows)

-- ---- the rules

abbrev pub is_same_stop : StopRow → StopRow → Bool
is_same_stop r s = bytes_eq r.stop_id s.stop_id

abbrev pub stops_twice_in_a_row : Trip → Bool
stops_twice_in_a_row t = any_two is_same_stop t

-- all rows have a time, and the last one is reached when the first one is left
abbrev pub is_at_one_moment : List StopRow → Bool
is_at_one_moment rows = list_all is_timed rows && if_both (first_leaves rows) (last_comes rows) nat_eq

abbrev pub has_six_stops_at_one_moment : Trip → Bool
has_six_stops_at_one_moment t = list_any is_at_one_moment (stretches 6 t.stop_rows)

-- the latitude of a stop that has a place
abbrev pub latitude : Stop → Option ℤ
latitude s = if has_place s then s.stop_lat else None

abbrev pub latitude_at : Content → StopRow → Option ℤ
latitude_at c row = option_and_then latitude (stop_with_id c row.stop_id)

-- farther apart, in units of 10^-9 degree of latitude, than 500 km/h allow from this second to that, with a minute more
abbrev pub is_too_far : ℤ → ℤ → ℕ → ℕ → Bool
is_too_far x y leaving reaching = nat_lt (1_250_000 * (reaching - leaving + 60)) (unsigned_abs (x -ℤ y))

abbrev pub is_too_fast : Content → StopRow → StopRow → Bool
is_too_fast c r s = if_both (latitude_at c r) (latitude_at c s) (λ x y. if_both (leaves r) (comes s) (is_too_far x y))

abbrev pub is_faster_than_a_train : Content → Trip → Bool
is_faster_than_a_train c t = any_two (is_too_fast c) t

-- riders may neither board nor leave
abbrev pub is_closed : StopRow → Bool
is_closed row = (row.pickup_type == 1) && (row.drop_off_type == 1)

abbrev pub has_closed_stop : Trip → Bool
has_closed_stop t = list_any is_closed t.stop_rows

-- from leaving the first row to reaching the last one
abbrev pub is_longer_than_a_day : Trip → Bool
is_longer_than_a_day t = if_both (first_leaves t.stop_rows) (last_comes t.stop_rows) (λ from until. nat_lt (from + 86_400) until)
