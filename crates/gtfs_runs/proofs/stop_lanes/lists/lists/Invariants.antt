use Rattle.std.proofs.Common.{◌≡◌, ◌≤◌, ◌<◌, ◌+◌, ◌-◌, ◌++◌, ℕ, drop, length, map}
use Rattle.std.specs.List.{All}
use Rattle.gtfs_rows.specs.RowsInMemory.{content_of_parts}
use Rattle.gtfs_rows.specs.declared.parts.Parts.{Parts}
use Rattle.gtfs_runs.specs.LaneKinds.{IsListLane}
use Rattle.gtfs_runs.specs.StopLanes.{events_of_service, list_value}
use Rattle.gtfs_runs.specs.steps.Courses.{AreServed, IsListed, how_many, is_same_course, stopping_events, stopping_of}
use Rattle.gtfs_runs.specs.steps.CourseNumbers.{AreNumbered}
use Rattle.gtfs_runs.proofs.stop_lanes.lists.lists.Given as goal

-- the lanes so far, with what is left, tell the events and courses of all
abbrev pub invariant-loop-at : goal.invariant-loop-at
invariant-loop-at l = record {
  upto : l.at ≤ length l.listed;
  told : (p : Parts) (k : ℕ) → AreNumbered p l.listed → AreServed p l.listed
      → events_of_service k (map list_value l.lists.items) ++ stopping_events k (map (stopping_of p) (drop l.at l.listed)) ≡ stopping_events k (map (stopping_of p) l.listed);
  counted : (p : Parts) → AreNumbered p l.listed
      → length l.lists.items + how_many is_same_course (map (λ x. x.course) (map (stopping_of p) (drop l.at l.listed))) ≡ how_many is_same_course (map (λ x. x.course) (map (stopping_of p) l.listed));
  within : (m : ℕ) → All (λ x. x.service < m) l.listed → All (λ lane. lane.service < m) (map list_value l.lists.items);
  alike : (p q : Parts) → AreNumbered p l.listed → All (λ x. IsListed q (stopping_of p x)) l.listed → All (IsListLane (content_of_parts q)) (map list_value l.lists.items);
}

abbrev pub decreases-loop-at : goal.decreases-loop-at
decreases-loop-at l = length l.listed - l.at
