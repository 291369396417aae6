use Rattle.std.proofs.Common.{rules, ◌≡◌, IsPermutation}
use Rattle.std.proofs.lemmas.List.Sorted.{answers_always}
use Rattle.gtfs_days.proofs.Exceptions.{by_day_from_sort}
use Rattle.gtfs_days.proofs.service.Service.new.Goals as goal

pub invariant_of-result : goal.invariant_of-result
invariant_of-result c =
    let copied : c.extend_from_slice.new.self.items ≡ c.args.exceptions.now = rw c.in_ok-by_day.ensures.items at c.in_ok-extend_from_slice.ensures.items in
    let moved : IsPermutation c.args.exceptions.now c.sort_unstable_by_key.new.self.items = rw copied at c.sort_unstable_by_key.ensures.permutation in (
      c.requires.ordered,
      by_day_from_sort c.args.exceptions.now c.sort_unstable_by_key.new.self.items c.requires.once moved
          (c.sort_unstable_by_key.ensures.sorted (λ e. e.0) (answers_always _ _ _ (λ f a r g called. search rules))),
    )

pub returns-clause-by_day : goal.returns-clause-by_day
returns-clause-by_day c = (invariant_of-result c).1
