-- The timetable of a route on a day: its sheets, and the text of a sheet.
-- GTFS Schedule Reference, trips.txt, stop_times.txt, frequencies.txt, calendar.txt and calendar_dates.txt.
use Rattle.std.specs.Prelude.{ℕ, ◌+◌, ◌-◌, ◌++◌, ◌==◌, ◌&&◌, not, Bool, true, if◌then◌else◌, bytes_eq, List, length, map, filter, find, zip, slice_get, codes, decimal, Option, Some, None, option_and_then, ℤ}
use Rattle.std.specs.List.{flat_map, list_any, range_with_len}
use Rattle.std.specs.declared.cmp.Ordering.{Ordering}
use Rattle.std.specs.Ordering.{nat_cmp, is_eq, is_lt, on, then_cmp}
use Rattle.std.specs.Cmp.Lexicographic.{slice_cmp}
use Rattle.gtfs_field.specs.Canonical.{date_text, time_text}
use Rattle.gtfs_field.specs.TextOrder.{text_cmp}
use Rattle.gtfs_rows.specs.Content.{Content}
use Rattle.gtfs_rows.specs.Rows.{StopRow, Trip}
use Rattle.gtfs_runs.specs.Lanes.{stops_of}
use Rattle.gtfs_rows.specs.Runs.{is_timed, passes_at, runs}
use Rattle.gtfs_rows.specs.Departures.{runs_on}
use Rattle.gtfs_board.specs.upcoming.QueueOrder.{ascending_by}

-- a run of a sheet: the second at which it starts, and its trip
abbrev pub Run : Type 0
Run = ℕ × List ℕ

abbrev pub run_cmp : Run → Run → Ordering
run_cmp = then_cmp (on (λ r. r.0) nat_cmp) (on (λ r. r.1) text_cmp)

abbrev pub is_run_before : Run → Run → Bool
is_run_before x y = is_lt (run_cmp x y)

-- ---- what the trips of a sheet share: a direction and the stops of their rows

abbrev pub SheetHeading : Type 0
SheetHeading = ℕ × List (List ℕ)

-- no direction comes before 0, and 0 before 1
abbrev pub direction_rank : Option ℕ → ℕ
direction_rank None = 0
direction_rank (Some d) = d + 1

abbrev pub direction_at : ℕ → Option ℕ
direction_at n = if n == 0 then None else Some (n - 1)

abbrev pub heading_cmp : SheetHeading → SheetHeading → Ordering
heading_cmp = then_cmp (on (λ h. h.0) nat_cmp) (on (λ h. h.1) (slice_cmp text_cmp))

abbrev pub is_heading_before : SheetHeading → SheetHeading → Bool
is_heading_before x y = is_lt (heading_cmp x y)

abbrev pub sheet_heading : Trip → SheetHeading
sheet_heading t = (direction_rank t.direction_id, stops_of t)

abbrev pub has_heading : SheetHeading → Trip → Bool
has_heading h t = is_eq (heading_cmp h (sheet_heading t))

-- ---- the trips of a timetable

-- the id is that of a route of the feed
abbrev pub is_route : Content → List ℕ → Bool
is_route f id = list_any (λ r. bytes_eq r.route_id id) f.routes

-- a trip goes in the direction, where one is given
abbrev pub wants : Option ℕ → Trip → Bool
wants None t = true
wants (Some d) t = direction_rank t.direction_id == d + 1

-- a trip has a run on the day
abbrev pub has_run_on : Content → ℤ → Trip → Bool
has_run_on f d t = runs_on f t d && not (length (runs t) == 0)

-- the trips of the route, in this direction if one is given, that have a run on the day
abbrev pub running : Content → List ℕ → Option ℕ → ℤ → List Trip
running f route direction d = filter (λ t. bytes_eq t.route_id route && wants direction t && has_run_on f d t) f.trips

-- the headings of these trips, each once, by direction, then by their stops
abbrev pub headings : List Trip → List SheetHeading
headings trips = ascending_by is_heading_before (map sheet_heading trips)

-- ---- a sheet

-- the runs of a trip, with its id
abbrev pub named_runs : Trip → List Run
named_runs t = map (λ r. (r, t.trip_id)) (runs t)

-- the runs of trips, each once, by their start, then by the trip's id
abbrev pub runs_of : List Trip → List Run
runs_of trips = ascending_by is_run_before (flat_map named_runs trips)

abbrev pub runs_under : SheetHeading → List Trip → List Run
runs_under h trips = runs_of (filter (has_heading h) trips)

-- the row of a trip at a position; the trips of a sheet have as many
abbrev pub row_at : Trip → ℕ → Option StopRow
row_at t i = slice_get t.stop_rows i

-- when a run passes a row of its trip, none where the row is untimed
abbrev pub time_passed : Trip → ℕ → StopRow → Option ℕ
time_passed t r row = if is_timed row then Some (passes_at t r row) else None

abbrev pub time_of_run : List Trip → ℕ → Run → Option ℕ
time_of_run trips i run = option_and_then (λ t. option_and_then (time_passed t run.0) (row_at t i)) (find (λ t. bytes_eq t.trip_id run.1) trips)

-- the runs that pass one list of stops in one direction
pub record Sheet : Type 0 where
  pub route : List ℕ
  pub direction : Option ℕ
  pub day : ℤ
  pub stops : List (List ℕ)
  pub runs : List Run
  -- for each stop the time of each run, none where the row is untimed
  pub times : List (List (Option ℕ))

abbrev pub sheet_under : List ℕ → ℤ → List Trip → SheetHeading → Sheet
sheet_under route day trips h = record {
  route = route;
  direction = direction_at h.0;
  day = day;
  stops = h.1;
  runs = runs_under h trips;
  times = map (λ i. map (time_of_run trips i) (runs_under h trips)) (range_with_len 0 (length h.1));
}

-- the timetable: a sheet for each heading of the trips that run on the day
abbrev pub sheets : Content → List ℕ → Option ℕ → ℤ → List Sheet
sheets f route direction day = map (sheet_under route day (running f route direction day)) (headings (running f route direction day))

-- ---- the text of a sheet

abbrev pub time_shown : Option ℕ → List ℕ
time_shown None = codes "-"
time_shown (Some t) = time_text t

abbrev pub direction_shown : Option ℕ → List ℕ
direction_shown None = codes "-"
direction_shown (Some d) = decimal d

-- a field with the tab before it
abbrev pub after_tab : List ℕ → List ℕ
after_tab t = codes "\t" ++ t

-- fields with a tab before each, and the end of the line
abbrev pub tabbed : List (List ℕ) → List ℕ
tabbed fields = flat_map after_tab fields ++ codes "\n"

-- == ROUTE DIRECTION DATE
abbrev pub title_text : Sheet → List ℕ
title_text s = codes "== " ++ s.route ++ codes " " ++ direction_shown s.direction ++ codes " " ++ date_text s.day ++ codes "\n"

-- the trips of the runs
abbrev pub trips_text : Sheet → List ℕ
trips_text s = codes "trip" ++ tabbed (map (λ r. r.1) s.runs)

-- a stop and the times of the runs there
abbrev pub stop_text : List ℕ × List (Option ℕ) → List ℕ
stop_text line = line.0 ++ tabbed (map time_shown line.1)

abbrev pub sheet_text : Sheet → List ℕ
sheet_text s = title_text s ++ trips_text s ++ flat_map stop_text (zip s.stops s.times)
