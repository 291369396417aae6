use Rattle.std.proofs.Common.{rules}
use Rattle.std.specs.Prelude.{int_lt}
use Rattle.std.proofs.lemmas.List.Sorted.{answers_always}
use Rattle.gtfs_trip_rules.proofs.DayFacts.{once_is}
use Rattle.gtfs_trip_rules.proofs.services.dates.names_each_day_once.Goals as goal

pub returns : goal.returns
returns c = once_is c.args.exceptions.now c.in_ok-days.days.items c.sort_unstable.new.self.items c.is_sorted_by.result c.in_ok-days.ensures
    c.sort_unstable.ensures.permutation c.sort_unstable.ensures.sorted
    (rw c.deref.ensures.value at (c.is_sorted_by.ensures.cases int_lt (answers_always _ _ _ (λ f a r g called. search rules))))
