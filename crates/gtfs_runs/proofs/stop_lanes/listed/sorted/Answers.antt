use Rattle.std.proofs.lemmas.List.Sorted.{IsPermutation-trans}
use Rattle.gtfs_runs.specs.steps.Courses.{stopping_cmp, stopping_of}
use Rattle.gtfs_runs.specs.steps.CourseNumbers.{IsNumbered}
use Rattle.gtfs_runs.proofs.CourseOrder.{sorted-mapped}
use Rattle.gtfs_runs.proofs.Numbers.{in_order, pairs_permuted}
use Rattle.gtfs_runs.proofs.stop_lanes.listed.sorted.Goals as goal

pub returns-clause-same : goal.returns-clause-same
returns-clause-same c = IsPermutation-trans _ _ _ c.in_ok-sorted.ensures c.sort_unstable.ensures.permutation

pub returns-clause-in_order : goal.returns-clause-in_order
returns-clause-in_order c = λ p numbers.
    sorted-mapped (stopping_of p) stopping_cmp _
    (in_order p _ (pairs_permuted (IsNumbered p) _ _ (returns-clause-same c) numbers) c.sort_unstable.ensures.sorted)
