-- The course of each event of trips without frequencies, by numbers, and the order that brings courses together.
use Rattle.std.specs.Prelude.{◌≡◌, ◌<◌, ◌+◌, ◌==◌, ℕ, Bool, true, All, List, [], ◌∷◌, Some, cond, filter, length, map}
use Rattle.std.specs.List.{list_any}
use Rattle.std.specs.Cmp.Lexicographic.{slice_cmp}
use Rattle.std.specs.Ordering.{nat_cmp, on, then_cmp, is_eq}
use Rattle.std.specs.declared.cmp.Ordering.{Ordering}
use Rattle.gtfs_rows.specs.RowsInMemory.{content_of_parts, service_ids, stop_ids, text_of_number}
use Rattle.gtfs_rows.specs.declared.parts.Parts.{Parts}
use Rattle.gtfs_runs.specs.LaneKinds.{course_at, is_of_list}
use Rattle.gtfs_runs.specs.Lanes.{Course}
use Rattle.gtfs_runs.specs.EventOrder.{event_cmp}
use Rattle.gtfs_runs.specs.declared.event.Event.{Event}
use Rattle.gtfs_runs.specs.declared.stop_lanes.listed.ListedEvent.{ListedEvent}
use Rattle.gtfs_runs.specs.steps.TripGroups.{trip_group}

-- the service, the position of a stop time and the stops of a trip
pub record CourseNo : Type 0 where
  pub service : ℕ
  pub row : ℕ
  pub stops : List ℕ

-- an event of a lane of this course
pub record Stopping : Type 0 where
  pub course : CourseNo
  pub event : Event

abbrev pub event_of : ListedEvent → Event
event_of x = record { at = x.at; trip = record { 0 = x.trip }; run = x.run; seq = x.seq; row = x.row }

-- of a trip of these parts
abbrev pub stopping_of : Parts → ListedEvent → Stopping
stopping_of p x = record {
  course = record { service = (trip_group p x.trip).0; row = x.row; stops = (trip_group p x.trip).1 };
  event = event_of x;
}

-- each has the number of the service of its trip
abbrev pub AreServed : Parts → List ListedEvent → Type 0
AreServed p xs = All (λ x. (trip_group p x.trip).0 ≡ x.service) xs

-- ---- order

abbrev pub course_no_cmp : CourseNo → CourseNo → Ordering
course_no_cmp = then_cmp (on (λ c. c.service) nat_cmp)
    (then_cmp (on (λ c. c.stops) (slice_cmp nat_cmp))
    (on (λ c. c.row) nat_cmp))

-- by course, then by event
abbrev pub stopping_cmp : Stopping → Stopping → Ordering
stopping_cmp = then_cmp (on (λ x. x.course) course_no_cmp) (on (λ x. x.event) event_cmp)

-- ---- counts

-- the events of one service
abbrev pub stopping_events : ℕ → List Stopping → List Event
stopping_events k xs = map (λ x. x.event) (filter (λ x. x.course.service == k) xs)

abbrev pub is_same_course : CourseNo → CourseNo → Bool
is_same_course x y = is_eq (course_no_cmp x y)

-- how many are different
abbrev pub how_many : {X : Type 0} → (X → X → Bool) → List X → ℕ
how_many same [] = 0
how_many same (x ∷ xs) = cond (list_any (same x) xs) (how_many same xs) (how_many same xs + 1)

-- ---- by texts

-- the numbers are those of a service and of stops
pub record IsCourse (p : Parts) (c : CourseNo) : Type 0 where
  pub service : c.service < length p.services
  pub stops : All (λ n. n < length p.stops) c.stops

abbrev pub course_of : Parts → CourseNo → Course
course_of p c = (map (text_of_number (stop_ids p)) c.stops, c.row, text_of_number (service_ids p) c.service)

-- the event is of a trip without rows of frequencies.txt, and this is its course
pub record IsListed (p : Parts) (x : Stopping) : Type 0 where
  pub listed : is_of_list (content_of_parts p) x.event ≡ true
  pub course : course_at (content_of_parts p) x.event ≡ Some (course_of p x.course)
