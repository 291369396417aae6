-- How many lanes a stop has, and the latest time at which a run passes it.
use Rattle.std.specs.Prelude.{ℕ, ◌+◌, ◌==◌, ◌&&◌, not, Bool, List, length, map, filter, max}
use Rattle.std.specs.List.{flat_map, enumerate_from, fold}
use Rattle.std.specs.declared.cmp.Ordering.{Ordering}
use Rattle.std.specs.Ordering.{nat_cmp, on, then_cmp}
use Rattle.std.specs.Cmp.Lexicographic.{slice_cmp}
use Rattle.std.specs.FinSet as set
use Rattle.gtfs_field.specs.TextOrder.{text_cmp}
use Rattle.gtfs_rows.specs.Content.{Content}
use Rattle.gtfs_rows.specs.Rows.{StopRow, Trip}
use Rattle.gtfs_rows.specs.Places.{is_in_place}
use Rattle.gtfs_rows.specs.Runs.{is_departure_row, passes_at, runs}

-- what the trips of a list lane have in common: the stops of their rows, the position of a row from 0, the service
abbrev pub Course : Type 0
Course = List (List ℕ) × ℕ × List ℕ

abbrev pub course_cmp : Course → Course → Ordering
course_cmp = then_cmp (on (λ p. p.0) (slice_cmp text_cmp)) (then_cmp (on (λ p. p.1) nat_cmp) (on (λ p. p.2) text_cmp))

-- the departure rows of a trip at the place of a stop, with their positions from 0
abbrev pub departure_rows : Content → List ℕ → Trip → List (ℕ × StopRow)
departure_rows c s t = filter (λ p. is_departure_row t p.1 && is_in_place c s p.1.stop_id) (enumerate_from 0 t.stop_rows)

abbrev pub stops_of : Trip → List (List ℕ)
stops_of t = map (λ row. row.stop_id) t.stop_rows

abbrev pub courses_of : Content → List ℕ → Trip → List Course
courses_of c s t = map (λ p. (stops_of t, p.0, t.service_id)) (departure_rows c s t)

abbrev pub has_periods : Trip → Bool
has_periods t = not (length t.frequencies == 0)

-- one list for each course of the trips without frequencies
abbrev pub list_count : Content → List ℕ → ℕ
list_count c s = set.len (set.from_list {R = course_cmp} (flat_map (courses_of c s) (filter (λ t. not (has_periods t)) c.trips)))

-- one period for each frequency row and departure row of the others
abbrev pub period_count : Content → List ℕ → ℕ
period_count c s = length (flat_map (λ t. flat_map (λ period. departure_rows c s t) t.frequencies) (filter has_periods c.trips))

abbrev pub lane_count : Content → List ℕ → ℕ
lane_count c s = list_count c s + period_count c s

-- the latest second at which a run passes a departure row at the place, 0 where there is none
abbrev pub latest : Content → List ℕ → ℕ
latest c s = fold max 0 (flat_map (λ t. flat_map (λ p. map (λ r. passes_at t r p.1) (runs t)) (departure_rows c s t)) c.trips)
