use Rattle.std.proofs.Common.{refl}
use Rattle.gtfs_advice.proofs.TripTelling.{is_course}
use Rattle.gtfs_advice.proofs.trip_courses.Course.of.Goals as goal

pub returns-clause-course : goal.returns-clause-course
returns-clause-course c =
    is_course c.args.feed.now c.soundness.ensures _ c.trip_by_number-row.result.now c.trip_by_number-row.ensures c.trip_rows.ensures c.trip_frequencies.ensures refl refl
