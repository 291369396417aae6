-- What the code makes on the way to a timetable: columns, which are runs of trips by their numbers, and the sheet of a pattern.
use Rattle.std.specs.Prelude.{◌≡◌, ℕ, ◌<◌, ◌≤◌, ◌+◌, ◌==◌, ◌&&◌, Bool, true, cond, List, [], ◌∷◌, All, is_some, length, map, filter, slice_get, slice_index_or, Option, Some, None, option_and_then, unwrap_or, ℤ}
use Rattle.std.specs.List.{filter_map, range_with_len}
use Rattle.std.specs.declared.cmp.Ordering.{Ordering}
use Rattle.std.specs.Ordering.{is_lt, nat_cmp, on, then_cmp}
use Rattle.gtfs_schema.specs.FieldValues.{if_there}
use Rattle.gtfs_rows.specs.Content.{Content}
use Rattle.gtfs_rows.specs.Rows.{Trip}
use Rattle.gtfs_stop_times.specs.RowTimes.{left_at}
use Rattle.gtfs_rows.specs.RowsInMemory.{content_of_parts, stop_ids, text_of_number, trip_ids}
use Rattle.gtfs_rows.specs.declared.numbers.TripNo.{TripNo}
use Rattle.gtfs_rows.specs.declared.parts.Parts.{Parts}
use Rattle.gtfs_stop_times.specs.declared.stop_row.StopRow.{StopRow as StopTime}
use Rattle.gtfs_runs.specs.Tallies.{tally}
use Rattle.gtfs_runs.specs.Patterns.{rows_of_number}
use Rattle.gtfs_rows.specs.Runs.{is_run}
use Rattle.gtfs_runs.specs.declared.pattern.Pattern.{Pattern}
use Rattle.gtfs_rows.specs.Departures.{runs_on}
use Rattle.gtfs_board.specs.Timetable.{Run, Sheet, direction_rank, has_run_on, row_at, runs_of, time_passed, time_of_run}
use Rattle.gtfs_board.specs.declared.sheet.columns.RunColumn.{RunColumn}

-- ---- columns

-- by the start of the run, then by the trip
abbrev pub column_cmp : RunColumn → RunColumn → Ordering
column_cmp = then_cmp (on (λ c. c.start) nat_cmp) (on (λ c. c.trip.0) nat_cmp)

abbrev pub is_column_before : RunColumn → RunColumn → Bool
is_column_before x y = is_lt (column_cmp x y)

abbrev pub is_same_column : RunColumn → RunColumn → Bool
is_same_column c x = (c.start == x.start) && (c.trip.0 == x.trip.0)

-- the column is a run of its trip on the day
abbrev pub is_run_on : Parts → ℤ → RunColumn → Bool
is_run_on p d c = if_there (slice_get (content_of_parts p).trips c.trip.0) (λ t. runs_on (content_of_parts p) t d && is_run t c.start)

-- and its trip is the one of this number
abbrev pub is_column_of : Parts → ℤ → RunColumn → TripNo → Bool
is_column_of p d c n = (c.trip.0 == n.0) && is_run_on p d c

-- a number is that of a trip that has a stop row
abbrev pub HasRow : Parts → TripNo → Type 0
HasRow p n = (n.0 < length p.trips) × (0 < length (rows_of_number p n.0))

-- the times of a column can be shown at this many stop rows of its trip
pub record IsShownAlong (p : Parts) (stop_count : ℕ) (c : RunColumn) : Type 0 where
  pub trip : c.trip.0 < length p.trips
  pub reaches : stop_count ≤ length (rows_of_number p c.trip.0)
  pub early : c.start < 3_600_000

-- when the run passes the row at a position, none where the row is untimed
abbrev pub time_of_column : Content → ℕ → RunColumn → Option ℕ
time_of_column f i c = option_and_then (λ t. option_and_then (time_passed t c.start) (row_at t i)) (slice_get f.trips c.trip.0)

-- when it passes each of this many rows
abbrev pub times_of_column : Content → ℕ → RunColumn → List (Option ℕ)
times_of_column f stop_count c = map (λ i. time_of_column f i c) (range_with_len 0 stop_count)

-- what the times of a trip's stop times keep: none is left after 999:59:59, and none with a time before the first
pub record KeepTimes (rows : List StopTime) : Type 0 where
  pub late : (k : ℕ) (d : StopTime) → k < length rows → unwrap_or (left_at (slice_index_or rows k d)) 0 ≤ 3_599_999
  pub later : (k : ℕ) (d : StopTime) → k < length rows → is_some (left_at (slice_index_or rows k d)) ≡ true
      → unwrap_or (left_at (slice_index_or rows 0 d)) 0 ≤ unwrap_or (left_at (slice_index_or rows k d)) 0

abbrev pub named_column : Parts → RunColumn → Run
named_column p c = (c.start, text_of_number (trip_ids p) c.trip.0)

abbrev pub column_times : Content → ℕ → List RunColumn → List (List (Option ℕ))
column_times f stop_count cs = map (λ i. map (time_of_column f i) cs) (range_with_len 0 stop_count)

-- ---- patterns

-- the trips of a pattern go in the direction, where one is given
abbrev pub goes : Option ℕ → Pattern → Bool
goes None x = true
goes (Some d) x = direction_rank x.direction == d + 1

-- a pattern of the parts: its trips have its stops, and each stands once
pub record IsPattern (p : Parts) (x : Pattern) : Type 0 where
  pub stops : All (λ s. s.0 < length p.stops) x.stops
  pub trips : All (HasRow p) x.trips
  pub along : All (λ n. map (λ row. row.stop_id) (rows_of_number p n.0) ≡ x.stops) x.trips
  pub once : (m : ℕ) → tally (λ n. m == n.0) x.trips ≤ 1

-- the trips of these numbers that have a run on the day
abbrev pub running_at : Content → ℤ → List TripNo → List Trip
running_at f d ns = filter (has_run_on f d) (filter_map (λ n. slice_get f.trips n.0) ns)

abbrev pub stops_along : Parts → Pattern → List (List ℕ)
stops_along p x = map (λ s. text_of_number (stop_ids p) s.0) x.stops

-- a sheet of a pattern with these runs and times
abbrev pub sheet_with : Parts → List ℕ → ℤ → Pattern → List Run → List (List (Option ℕ)) → Sheet
sheet_with p route d x runs times = record {
  route = route;
  direction = x.direction;
  day = d;
  stops = stops_along p x;
  runs = runs;
  times = times;
}

abbrev pub sheet_of_columns : Parts → List ℕ → ℤ → Pattern → List RunColumn → Sheet
sheet_of_columns p route d x cs =
    sheet_with p route d x (map (named_column p) cs) (column_times (content_of_parts p) (length x.stops) cs)

abbrev pub sheet_of_trips : Parts → List ℕ → ℤ → Pattern → List Trip → Sheet
sheet_of_trips p route d x ts =
    sheet_with p route d x (runs_of ts) (map (λ i. map (time_of_run ts i) (runs_of ts)) (range_with_len 0 (length x.stops)))

-- the sheet of a pattern, if one of its trips has a run on the day
abbrev pub is_idle : Parts → ℤ → Pattern → Bool
is_idle p d x = length (running_at (content_of_parts p) d x.trips) == 0

abbrev pub sheet_along : Parts → List ℕ → ℤ → Pattern → Sheet
sheet_along p route d x = sheet_of_trips p route d x (running_at (content_of_parts p) d x.trips)

abbrev pub sheets_along : Parts → List ℕ → ℤ → Pattern → List Sheet
sheets_along p route d x = cond (is_idle p d x) [] (sheet_along p route d x ∷ [])
