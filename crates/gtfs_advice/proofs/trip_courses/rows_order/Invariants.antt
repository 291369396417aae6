use Rattle.std.proofs.Common.{◌≡◌, length}
use Rattle.std.specs.Cmp.Lexicographic.{slice_cmp}
use Rattle.gtfs_advice.specs.TripCourses.{call_cmp}
use Rattle.gtfs_advice.proofs.trip_courses.rows_order.Given as goal

-- what is left compares like the whole
abbrev pub invariant-loop-row : goal.invariant-loop-row
invariant-loop-row l = slice_cmp (call_cmp l.headsigns) l.fn.a l.fn.b ≡ slice_cmp (call_cmp l.headsigns) l.left l.right

abbrev pub decreases-loop-row : goal.decreases-loop-row
decreases-loop-row l = length l.left
