use Rattle.gtfs_advice.proofs.CourseLists.{AreCoursesTo}
use Rattle.gtfs_advice.proofs.trip_courses.courses.Given as goal

-- the courses so far
abbrev pub invariant-loop-number : goal.invariant-loop-number
invariant-loop-number l = AreCoursesTo l.feed l.number l.courses.items
