use Rattle.std.proofs.Common.{rules}
use Rattle.std.specs.Ordering.{is_lt}
use Rattle.std.proofs.lemmas.List.Sorted.{answers_always, ranks_by}
use Rattle.gtfs_nearby.specs.AreaTree.{listed_cmp}
use Rattle.gtfs_nearby.proofs.Runs.{listed_total}
use Rattle.gtfs_nearby.proofs.listed.in_order.Goals as goal

pub returns-clause-in_order : goal.returns-clause-in_order
returns-clause-in_order c =
    c.sort_unstable_by.ensures.sorted (λ x y. is_lt (listed_cmp x y)) (ranks_by listed_total (λ x. x)) (answers_always _ _ _ (λ f a r g called. search rules))
