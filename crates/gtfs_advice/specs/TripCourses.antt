-- Trips by what makes two of them the same: their route, service, stop times and frequencies. Two are the same where these compare
-- as equal. Texts of headsigns stand by their numbers.
use Rattle.std.specs.Prelude.{◌≡◌, ◌<◌, ◌==◌, ◌&&◌, not, if◌then◌else◌, ℕ, nat_eq, Bool, false, List, drop, length, map, slice_index_or, Option, option_map, Some, None}
use Rattle.std.specs.Cmp.Lexicographic.{slice_cmp}
use Rattle.std.specs.List.{All, list_any, range_with_len, slice_get, zip}
use Rattle.std.specs.Option.{option_cmp, option_eq}
use Rattle.std.specs.Ordering.{is_eq, nat_cmp, ordering_then}
use Rattle.std.specs.declared.cmp.Ordering.{Ordering}
use Rattle.gtfs_field.specs.TextOrder.{text_cmp}
use Rattle.gtfs_rows.specs.RowChoices.{drop_off_code, exact_code, pickup_code, timepoint_code}
use Rattle.gtfs_rows.specs.NamedRows.{text_of_number}
use Rattle.gtfs_rows.specs.Rows.{Trip}
use Rattle.gtfs_rows.specs.RowsInMemory.{content_of_parts, frequency_of, route_ids, service_ids}
use Rattle.gtfs_rows.specs.declared.frequency.Frequency.{Frequency}
use Rattle.gtfs_rows.specs.declared.parts.Parts.{Parts}
use Rattle.gtfs_stop_times.specs.declared.stop_row.StopRow.{StopRow}
use Rattle.gtfs_advice.specs.NumberedRows.{GoesAlong}
use Rattle.gtfs_advice.specs.Trips.{is_same_as_another}
use Rattle.gtfs_advice.specs.declared.trip_courses.Course.{Course}

abbrev pub place_cmp : StopRow → StopRow → Ordering
place_cmp r s = ordering_then (ordering_then (nat_cmp r.stop_id.0 s.stop_id.0) (option_cmp nat_cmp r.arrival_time s.arrival_time))
    (option_cmp nat_cmp r.departure_time s.departure_time)

abbrev pub headsign_cmp : List (List ℕ) → Option ℕ → Option ℕ → Ordering
headsign_cmp headsigns a b = option_cmp text_cmp (option_map (text_of_number headsigns) a) (option_map (text_of_number headsigns) b)

-- stop times but for their sequence
abbrev pub call_cmp : List (List ℕ) → StopRow → StopRow → Ordering
call_cmp headsigns r s = ordering_then (place_cmp r s) (ordering_then (ordering_then (ordering_then
    (headsign_cmp headsigns r.stop_headsign s.stop_headsign)
    (nat_cmp (pickup_code r.pickup_type) (pickup_code s.pickup_type)))
    (nat_cmp (drop_off_code r.drop_off_type) (drop_off_code s.drop_off_type)))
    (option_cmp nat_cmp (option_map timepoint_code r.timepoint) (option_map timepoint_code s.timepoint)))

abbrev pub period_cmp : Frequency → Frequency → Ordering
period_cmp f g = ordering_then (ordering_then (ordering_then (nat_cmp f.start_time g.start_time) (nat_cmp f.end_time g.end_time))
    (nat_cmp f.headway_secs g.headway_secs)) (nat_cmp (exact_code f.exact_times) (exact_code g.exact_times))

abbrev pub course_cmp : List (List ℕ) → Course → Course → Ordering
course_cmp headsigns x y = ordering_then (ordering_then (nat_cmp x.route.0 y.route.0) (nat_cmp x.service.0 y.service.0))
    (ordering_then (slice_cmp (call_cmp headsigns) x.rows.now y.rows.now) (slice_cmp period_cmp x.periods.now y.periods.now))

-- trips that are the same by their numbers
abbrev pub listed_cmp : List (List ℕ) → Course → Course → Ordering
listed_cmp headsigns x y = ordering_then (course_cmp headsigns x y) (nat_cmp x.trip.0 y.trip.0)

-- the trip of a number in the content of parts, of which this is the course
pub record IsCourse (p : Parts) (x : Course) : Type 0 where
  pub trip : Trip
  pub there : slice_get (content_of_parts p).trips x.trip.0 ≡ Some trip
  pub route : trip.route_id ≡ text_of_number (route_ids p) x.route.0
  pub route_known : x.route.0 < length p.routes
  pub service : trip.service_id ≡ text_of_number (service_ids p) x.service.0
  pub service_known : x.service.0 < length p.services
  pub along : GoesAlong p x.rows.now trip
  pub periods : trip.frequencies ≡ map frequency_of x.periods.now

-- the courses of all trips, by their numbers
pub record AreCourses (p : Parts) (xs : List Course) : Type 0 where
  pub numbers : map (λ x. x.trip.0) xs ≡ range_with_len 0 (length p.trips)
  pub each : All (IsCourse p) xs

-- ---- trips that stand one after the other

-- the second has a stop time, and is the same as the first
abbrev pub is_repeat : List (List ℕ) → Course → Course → Bool
is_repeat headsigns x y = not (length y.rows.now == 0) && is_eq (course_cmp headsigns x y)

-- each with the next one
abbrev pub neighbours : List Course → List (Course × Course)
neighbours xs = zip xs (drop 1 xs)

-- the number of the second, if it is a repeat
abbrev pub repeated : List (List ℕ) → Course × Course → Option ℕ
repeated headsigns w = if is_repeat headsigns w.0 w.1 then Some w.1.trip.0 else None

-- the trip of a number is a repeat of the one before it
abbrev pub repeats_one : List (List ℕ) → List Course → ℕ → Bool
repeats_one headsigns xs k = list_any (λ w. option_eq nat_eq (repeated headsigns w) (Some k)) (neighbours xs)

-- at the number of each trip stands whether it has a stop time and is like an earlier trip
pub record AreRepeats (p : Parts) (marks : List Bool) : Type 0 where
  pub count : length marks ≡ length p.trips
  pub at : (n : ℕ) (t : Trip) → slice_get (content_of_parts p).trips n ≡ Some t → slice_index_or marks n false ≡ is_same_as_another (content_of_parts p) t
