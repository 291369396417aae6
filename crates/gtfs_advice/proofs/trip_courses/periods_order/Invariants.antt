use Rattle.std.proofs.Common.{◌≡◌, length}
use Rattle.std.specs.Cmp.Lexicographic.{slice_cmp}
use Rattle.gtfs_advice.specs.TripCourses.{period_cmp}
use Rattle.gtfs_advice.proofs.trip_courses.periods_order.Given as goal

-- what is left compares like the whole
abbrev pub invariant-loop-period : goal.invariant-loop-period
invariant-loop-period l = slice_cmp period_cmp l.fn.a l.fn.b ≡ slice_cmp period_cmp l.left l.right

abbrev pub decreases-loop-period : goal.decreases-loop-period
decreases-loop-period l = length l.left
