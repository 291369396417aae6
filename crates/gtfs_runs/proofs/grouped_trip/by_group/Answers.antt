use Rattle.std.proofs.Common.{rules}
use Rattle.std.specs.Ordering.{is_lt}
use Rattle.std.proofs.lemmas.List.Sorted.{answers_always, ranks_by}
use Rattle.gtfs_runs.specs.steps.TripGroups.{grouped_cmp}
use Rattle.gtfs_runs.proofs.Numbers.{grouped_total}
use Rattle.gtfs_runs.proofs.grouped_trip.by_group.Goals as goal

pub returns-clause-in_order : goal.returns-clause-in_order
returns-clause-in_order c = c.sort_unstable_by.ensures.sorted (λ x y. is_lt (grouped_cmp x y)) (ranks_by grouped_total (λ x. x)) (answers_always _ _ _ (λ f a r g called. search rules))
