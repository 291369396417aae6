-- What is found of the trips so far: the events of those without frequencies, and the lanes of the others.
use Rattle.std.specs.Prelude.{◌≡◌, ◌<◌, ◌≤◌, ◌+◌, ◌&&◌, ℕ, not, nat_lt, All, List, [], ◌∷◌, cond, filter, length, map, take}
use Rattle.std.specs.List.{flat_map}
use Rattle.std.specs.List.Sorted.{IsPermutation}
use Rattle.gtfs_rows.specs.RowsInMemory.{content_of_parts, frequency_of, service_ids, stop_ids, text_of_number}
use Rattle.gtfs_rows.specs.declared.frequency.Frequency.{Frequency}
use Rattle.gtfs_rows.specs.declared.parts.Parts.{Parts}
use Rattle.gtfs_runs.specs.EventOrder.{is_same}
use Rattle.gtfs_runs.specs.Tallies.{tally}
use Rattle.gtfs_runs.specs.Events.{is_event}
use Rattle.gtfs_runs.specs.LaneKinds.{IsPeriodLane}
use Rattle.gtfs_runs.specs.Lanes.{courses_of, departure_rows, has_periods}
use Rattle.gtfs_runs.specs.StopLanes.{LaneValue, events_of_service}
use Rattle.gtfs_rows.specs.Runs.{starts_run}
use Rattle.gtfs_runs.specs.declared.event.Event.{Event}
use Rattle.gtfs_runs.specs.declared.stop_lanes.passing.Passing.{Passing}
use Rattle.gtfs_runs.specs.steps.Courses.{IsCourse, IsListed, Stopping, course_of, stopping_events}
use Rattle.gtfs_runs.specs.steps.Passings.{passing_event}

-- how often the lanes of a service tell an event
abbrev pub times_told : ℕ → Event → List LaneValue → ℕ
times_told k e lanes = tally (is_same e) (events_of_service k lanes)

-- ---- one trip

-- the events of a trip without frequencies that starts at a second
abbrev pub stopping_at : List ℕ → ℕ → ℕ → ℕ → Passing → Stopping
stopping_at stops service trip start x = record {
  course = record { service = service; row = x.row; stops = stops };
  event = passing_event trip start x;
}

-- how many of these stop times a run of a period passes by the event
abbrev pub times_passed : ℕ → Event → List Passing → Frequency → ℕ
times_passed trip e xs f = tally (λ x. starts_run (frequency_of f) e.run && is_same e (passing_event trip e.run x)) xs

-- the same of several periods
abbrev pub times_passed_in : ℕ → Event → List Passing → List Frequency → ℕ
times_passed_in trip e xs [] = 0
times_passed_in trip e xs (f ∷ fs) = times_passed trip e xs f + times_passed_in trip e xs fs

-- a period that has a run, and of which no run starts after 999:59:59
pub record HasRuns (f : Frequency) : Type 0 where
  pub lasts : f.start_time < f.end_time
  pub moves : 0 < f.headway_secs
  pub ends : f.end_time ≤ 3_599_999

-- ---- the trips with a number below this one

-- what was found of them: the events of those without frequencies, and how often lanes of the others tell an event of a service, and how many these lanes are
pub record AreTold (p : Parts) (s n : ℕ) (listed : List Stopping) (told : ℕ → Event → ℕ) (count : ℕ) : Type 0 where
  pub exact : (k : ℕ) (e : Event) → k < length p.services
      → tally (is_same e) (stopping_events k listed) + told k e ≡ cond (nat_lt e.trip.0 n && is_event (content_of_parts p) (text_of_number (stop_ids p) s) (text_of_number (service_ids p) k) e) 1 0
  pub known : All (λ x. IsCourse p x.course) listed
  pub own : All (IsListed p) listed
  pub courses : IsPermutation (flat_map (courses_of (content_of_parts p) (text_of_number (stop_ids p) s)) (filter (λ t. not (has_periods t)) (take n (content_of_parts p).trips)))
      (map (λ x. course_of p x.course) listed)
  pub counted : count
      ≡ length (flat_map (λ t. flat_map (λ period. departure_rows (content_of_parts p) (text_of_number (stop_ids p) s) t) t.frequencies) (filter has_periods (take n (content_of_parts p).trips)))

-- the same, with the lanes
pub record AreFound (p : Parts) (s n : ℕ) (listed : List Stopping) (periods : List LaneValue) : Type 0 where
  pub told : AreTold p s n listed (λ k e. times_told k e periods) (length periods)
  pub within : All (λ lane. lane.service < length p.services) periods
  pub runs : All (IsPeriodLane (content_of_parts p)) periods
