use Rattle.std.proofs.Common.{ap, arith}
use Rattle.gtfs_advice.proofs.CourseLists.{all-courses, courses-more, no-courses}
use Rattle.gtfs_advice.proofs.trip_courses.courses.Goals as goal

pub loop-number-init : goal.loop-number-init
loop-number-init c = no-courses c.args.feed.now c.in_ok-courses.courses.items c.in_ok-courses.ensures.items

pub loop-number-preserved : goal.loop-number-preserved
loop-number-preserved c =
    courses-more c.args.feed.now c.loop-number.number c.of.result c.loop-number.courses.items c.push.new.self.items (ap (λ t. t.0) c.of.ensures.trip) c.of.ensures.course c.in_ok-push.ensures.items c.loop-number.invariant

pub returns : goal.returns
returns c = all-courses c.args.feed.now c.loop-number.number c.loop-number.courses.items (omega (arith, c.trip_count-number-end.ensures)) c.loop-number.invariant
