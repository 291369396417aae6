use Rattle.std.proofs.Common.{rules, subst, sym, ◌≡◌, ◌∙◌, true, false, ℤ, pos, ◌+ℤ◌, drop, int_lt, to_z, of_z, to_z-of_z, FitsSigned, w32}
use Rattle.std.specs.Option.{option_map_or}
use Rattle.gtfs_days.proofs.ActiveDays.{IsLeft, answer_before, answer_added, answer_last, first_from, left_after, left_all}
use Rattle.gtfs_days.proofs.service.Service.next_among.Goals as goal

pub loop-day-init : goal.loop-day-init
loop-day-init c =
    let back : to_z w32 (of_z w32 c.args.from) ≡ c.args.from = to_z-of_z c.ranges.from in
    let first = rw back at c.next_regular-regular.ensures in
    rw back (c.args.from, left_all c.args.self.now.week c.args.exceptions.now c.args.from c.next_regular-regular.result c.requires.low c.requires.by_day c.requires.from_on first)

pub returns-then-is_before : goal.returns-then-is_before
returns-then-is_before c =
    let back : to_z w32 (of_z w32 c.args.from) ≡ c.args.from = to_z-of_z c.ranges.from in
    let left : IsLeft c.args.self.now.week c.args.exceptions.now c.args.from c.loop-day.invariant.0 (drop c.loop-day.day-index c.args.exceptions.now) c.loop-day.regular = rw (← back) c.loop-day.invariant.1 in
    let fits : FitsSigned w32 c.number-day.result = search rules in
    let day : to_z w32 (of_z w32 c.number-day.result) ≡ c.loop-day-item.result.0 = to_z-of_z fits ∙ c.number-day.ensures.value in
    let early : option_map_or (λ f. int_lt f c.loop-day-item.result.0) c.loop-day.regular false ≡ true =
    subst (λ (x : ℤ). option_map_or (λ f. int_lt f x) c.loop-day.regular false ≡ true) day (sym c.if-is_before.ensures) in
    answer_before c.args.self.now.week c.args.exceptions.now c.args.from c.loop-day.invariant.0 c.loop-day.day-index c.loop-day-item.result c.loop-day.regular c.loop-day-test.true c.loop-day-item.is left early

pub returns-in-Added : goal.returns-in-Added
returns-in-Added c =
    let back : to_z w32 (of_z w32 c.args.from) ≡ c.args.from = to_z-of_z c.ranges.from in
    let left : IsLeft c.args.self.now.week c.args.exceptions.now c.args.from c.loop-day.invariant.0 (drop c.loop-day.day-index c.args.exceptions.now) c.loop-day.regular = rw (← back) c.loop-day.invariant.1 in
    let fits : FitsSigned w32 c.number-day.result = search rules in
    let day : to_z w32 (of_z w32 c.number-day.result) ≡ c.loop-day-item.result.0 = to_z-of_z fits ∙ c.number-day.ensures.value in
    let late : option_map_or (λ f. int_lt f c.loop-day-item.result.0) c.loop-day.regular false ≡ false =
    subst (λ (x : ℤ). option_map_or (λ f. int_lt f x) c.loop-day.regular false ≡ false) day (sym c.if-is_before.ensures) in
    let service = rw c.number-day.ensures.value at c.number-day.ensures.low in
    rw (c.service_day.ensures, day) (answer_added c.args.self.now.week c.args.exceptions.now c.args.from c.loop-day.invariant.0 c.loop-day.day-index c.loop-day-item.result c.loop-day.regular c.loop-day-test.true c.loop-day-item.is left late c.in-Added.is service)

pub regular_after-regular-requires-clause-regular : goal.regular_after-regular-requires-clause-regular
regular_after-regular-requires-clause-regular c =
    let back : to_z w32 (of_z w32 c.args.from) ≡ c.args.from = to_z-of_z c.ranges.from in
    let left : IsLeft c.args.self.now.week c.args.exceptions.now c.args.from c.loop-day.invariant.0 (drop c.loop-day.day-index c.args.exceptions.now) c.loop-day.regular = rw (← back) c.loop-day.invariant.1 in
    let fits : FitsSigned w32 c.number-day.result = search rules in
    let day : to_z w32 (of_z w32 c.number-day.result) ≡ c.loop-day-item.result.0 = to_z-of_z fits ∙ c.number-day.ensures.value in
    let late : option_map_or (λ f. int_lt f c.loop-day-item.result.0) c.loop-day.regular false ≡ false =
    subst (λ (x : ℤ). option_map_or (λ f. int_lt f x) c.loop-day.regular false ≡ false) day (sym c.if-is_before.ensures) in
    rw day (first_from c.args.self.now.week c.args.exceptions.now c.args.from c.loop-day.invariant.0 c.loop-day.day-index c.loop-day-item.result c.loop-day.regular c.loop-day-test.true c.loop-day-item.is left late)

pub loop-day-preserved : goal.loop-day-preserved
loop-day-preserved c =
    let back : to_z w32 (of_z w32 c.args.from) ≡ c.args.from = to_z-of_z c.ranges.from in
    let left : IsLeft c.args.self.now.week c.args.exceptions.now c.args.from c.loop-day.invariant.0 (drop c.loop-day.day-index c.args.exceptions.now) c.loop-day.regular = rw (← back) c.loop-day.invariant.1 in
    let fits : FitsSigned w32 c.number-day.result = search rules in
    let day : to_z w32 (of_z w32 c.number-day.result) ≡ c.loop-day-item.result.0 = to_z-of_z fits ∙ c.number-day.ensures.value in
    let late : option_map_or (λ f. int_lt f c.loop-day-item.result.0) c.loop-day.regular false ≡ false =
    subst (λ (x : ℤ). option_map_or (λ f. int_lt f x) c.loop-day.regular false ≡ false) day (sym c.if-is_before.ensures) in
    let next = rw day at c.regular_after-regular.ensures in
    rw back (c.loop-day-item.result.0 +ℤ pos 1, left_after c.args.self.now.week c.args.exceptions.now c.args.from c.loop-day.invariant.0 c.loop-day.day-index c.loop-day-item.result c.loop-day.regular c.regular_after-regular.result c.loop-day-test.true c.loop-day-item.is left late c.in-Removed.is next)

pub returns : goal.returns
returns c =
    let back : to_z w32 (of_z w32 c.args.from) ≡ c.args.from = to_z-of_z c.ranges.from in
    let left : IsLeft c.args.self.now.week c.args.exceptions.now c.args.from c.loop-day.invariant.0 (drop c.loop-day.day-index c.args.exceptions.now) c.loop-day.regular = rw (← back) c.loop-day.invariant.1 in
    answer_last c.args.self.now.week c.args.exceptions.now c.args.from c.loop-day.invariant.0 c.loop-day.day-index c.loop-day.regular c.loop-day-test.false left
