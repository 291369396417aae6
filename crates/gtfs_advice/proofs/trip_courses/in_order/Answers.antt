use Rattle.std.proofs.Common.{rules, of_calls}
use Rattle.std.specs.Ordering.{is_lt}
use Rattle.std.proofs.lemmas.Fn.{always_returns_same}
use Rattle.std.proofs.lemmas.List.Sorted.{ranks_by}
use Rattle.gtfs_advice.specs.TripCourses.{listed_cmp}
use Rattle.gtfs_advice.proofs.SameCourses.{listed_total}
use Rattle.gtfs_advice.proofs.trip_courses.in_order.Goals as goal

pub returns-clause-in_order : goal.returns-clause-in_order
returns-clause-in_order c =
    let cmp = listed_cmp c.args.headsigns.now in
    c.in_ok-sort_by.ensures.sorted (λ x y. is_lt (cmp x y)) (ranks_by (listed_total c.args.headsigns.now) (λ x. x)) (always_returns_same _ _ _ (λ a r f called. search (rules, of_calls)))
