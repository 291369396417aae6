-- What departure rows add to what leaves a place, each by itself.
use Rattle.std.specs.Prelude.{◌≡◌, ◌≤◌, ◌<◌, ◌+◌, ◌++◌, ◌==◌, ℕ, All, Bool, List, [], ◌∷◌, cond, filter, length, map, slice_index_or}
use Rattle.gtfs_rows.specs.Trips.{frequencies_by_trip, stop_rows_by_trip}
use Rattle.gtfs_rows.specs.RowsInMemory.{content_of_parts}
use Rattle.gtfs_rows.specs.declared.frequency.Frequency.{Frequency}
use Rattle.gtfs_rows.specs.declared.parts.Parts.{Parts}
use Rattle.gtfs_times.specs.TimedRows.{timed_parts}
use Rattle.gtfs_times.specs.declared.times.Times.{Times}
use Rattle.gtfs_runs.specs.LaneKinds.{IsPeriodLane}
use Rattle.gtfs_runs.specs.StopLanes.{LaneValue}
use Rattle.gtfs_runs.specs.declared.event.Event.{Event}
use Rattle.gtfs_runs.specs.declared.departure_row.DepartureRow.{DepartureRow}
use Rattle.gtfs_runs.specs.declared.stop_lanes.listed.ListedEvent.{ListedEvent}
use Rattle.gtfs_runs.specs.declared.stop_lanes.passing.Passing.{Passing}
use Rattle.gtfs_runs.specs.steps.Courses.{AreServed, Stopping, stopping_of}
use Rattle.gtfs_runs.specs.steps.FoundEvents.{stopping_at, times_passed_in, times_told}
use Rattle.gtfs_runs.specs.steps.TripGroups.{trip_group}
use Rattle.gtfs_runs.specs.steps.NotedRows.{noted_passing}
use Rattle.gtfs_runs.specs.steps.Passings.{first_left}

-- it is of a trip of the feed, and no vehicle leaves after 999:59:59
abbrev pub IsInside : Parts → DepartureRow → Type 0
IsInside p x = (x.trip < length p.trips) × (x.left ≤ 3_599_999)

-- ---- one row

-- how it is passed
abbrev pub row_passing : Parts → DepartureRow → Passing
row_passing p x = noted_passing (first_left (slice_index_or (stop_rows_by_trip p) x.trip [])) x

-- the rows of frequencies.txt of its trip
abbrev pub row_periods : Parts → DepartureRow → List Frequency
row_periods p x = slice_index_or (frequencies_by_trip p) x.trip []

-- its trip has none
abbrev pub runs_once : Parts → DepartureRow → Bool
runs_once p x = length (row_periods p x) == 0

-- its event, where its trip has none
abbrev pub row_stopping : Parts → DepartureRow → Stopping
row_stopping p x = stopping_at (trip_group p x.trip).1 (trip_group p x.trip).0 x.trip (first_left (slice_index_or (stop_rows_by_trip p) x.trip [])) (row_passing p x)

-- how often its lanes tell an event of a service
abbrev pub row_told : Parts → ℕ → Event → DepartureRow → ℕ
row_told p k e x = cond ((trip_group p x.trip).0 == k) (times_passed_in x.trip e (row_passing p x ∷ []) (row_periods p x)) 0

-- how many lanes it has
abbrev pub row_lanes : Parts → DepartureRow → ℕ
row_lanes p x = length (row_periods p x)

-- ---- several

abbrev pub sum_over : (DepartureRow → ℕ) → List DepartureRow → ℕ
sum_over f [] = 0
sum_over f (x ∷ xs) = f x + sum_over f xs

-- what these rows of a feed add to the events and the lanes
pub record AreAdded (p : Parts) (rows : List DepartureRow) (old new : List ListedEvent) (before after : List LaneValue) : Type 0 where
  pub events : map (stopping_of p) new ≡ map (stopping_of p) old ++ map (row_stopping p) (filter (runs_once p) rows)
  pub services : AreServed p old → AreServed p new
  pub told : (k : ℕ) (e : Event) → times_told k e after ≡ times_told k e before + sum_over (row_told p k e) rows
  pub counted : length after ≡ length before + sum_over (row_lanes p) rows
  pub within : All (λ lane. lane.service < length p.services) before → All (λ lane. lane.service < length p.services) after
  pub runs : (times : Times) → All (IsPeriodLane (content_of_parts (timed_parts times p))) before → All (IsPeriodLane (content_of_parts (timed_parts times p))) after
