use Rattle.std.proofs.Common.{◌≡◌, ◌≤◌, ◌<◌, ◌-◌, ℕ, true, length, get_or}
use Rattle.gtfs_rows.specs.declared.parts.Parts.{Parts}
use Rattle.gtfs_runs.specs.declared.stop_lanes.listed.ListedEvent.{ListedEvent}
use Rattle.gtfs_runs.specs.steps.Courses.{stopping_of}
use Rattle.gtfs_runs.specs.steps.CourseNumbers.{AreNumbered, is_alike}
use Rattle.gtfs_runs.proofs.stop_lanes.lists.course_len.Given as goal

-- those so far have one course
abbrev pub invariant-loop-len : goal.invariant-loop-len
invariant-loop-len l = record {
  some : 0 < l.len;
  within : l.len ≤ length l.listed;
  alike : (k : ℕ) (d : ListedEvent) → k < l.len → is_alike (get_or l.listed 0 d) (get_or l.listed k d) ≡ true;
  same : (p : Parts) (k : ℕ) (d : ListedEvent) → AreNumbered p l.listed → k < l.len → (stopping_of p (get_or l.listed k d)).course ≡ (stopping_of p (get_or l.listed 0 d)).course;
}

abbrev pub decreases-loop-len : goal.decreases-loop-len
decreases-loop-len l = length l.listed - l.len
