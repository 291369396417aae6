use Rattle.std.proofs.Common.{rules, of_calls, ◌≡◌, ◌∙◌, ◌-◌, take, drop, length, int_lt, to_z, of_z, to_z-of_z, FitsSigned, w32}
use Rattle.std.proofs.lemmas.Fn.{always_returns_same}
use Rattle.std.proofs.lemmas.List.{take_rest}
use Rattle.gtfs_days.proofs.ActiveDays.{rest_from}
use Rattle.gtfs_days.proofs.service.Service.exceptions_from.Goals as goal

pub returns : goal.returns
returns c =
    let items = c.self.inside.exceptions.items in
    let fits : FitsSigned w32 c.number-from.result = search rules in
    let day : to_z w32 (of_z w32 c.number-from.result) ≡ c.args.day = to_z-of_z fits ∙ c.number-from.ensures.value in
    let parted = c.partition_point-first.ensures.partitioned (λ e. int_lt e.0 (to_z w32 (of_z w32 c.number-from.result))) (always_returns_same _ _ _ (λ a r f k. search (rules, of_calls))) in
    let rest = rest_from c.self.inside.week c.self.inside.exceptions.items c.args.day c.partition_point-first.result c.self.invariant.1 (rw (day, c.deref.ensures.value) at parted) in
    let lent : take (length c.deref-2.result.now - c.partition_point-first.result) (drop c.partition_point-first.result c.deref-2.result.now) ≡ drop c.partition_point-first.result c.self.inside.exceptions.items =
    rw c.deref-2.ensures.value (take_rest c.self.inside.exceptions.items c.partition_point-first.result) in
    rw (← c.self.view_is, lent) (record { by_day = rest.by_day; from_on = rest.from_on; same = rest.same })
