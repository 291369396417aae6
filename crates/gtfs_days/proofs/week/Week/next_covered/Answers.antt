use Rattle.std.proofs.Common.{arith, rules, subst, ◌≡◌, ℤ, pos, ◌+ℤ◌, to_z, of_z, to_z-of_z, FitsSigned, w32, below_more, false, get_or}
use Rattle.jiff_core.proofs.SignedLemmas.{signed_arith}
use Rattle.jiff_core.specs.Calendar.{weekday_number}
use Rattle.gtfs_field.proofs.NumberFacts.{int_lt-false, int_lt-true}
use Rattle.gtfs_days.proofs.Weekdays.{NamesNone, span_passed, day_passed, none_before_end, none_in_week, first_named}
use Rattle.gtfs_days.proofs.week.Week.next_covered.Goals as goal

pub returns-then-day-last : goal.returns-then-day-last
returns-then-day-last c =
    let span = span_passed c.args.self.now c.args.from _ _ c.max-first.result c.min-last.result c.ranges.from (search rules) (search rules) c.number.ensures.value c.number-2.ensures.value c.requires.0 c.requires.1 c.number.ensures.high c.max-first.ensures.value c.min-last.ensures.value in
    let fits : FitsSigned w32 c.max-first.result = search rules in
    let back : to_z w32 (of_z w32 c.max-first.result) ≡ c.max-first.result = to_z-of_z fits in
    let none : NamesNone c.args.self.now c.max-first.result c.loop-ahead.ahead = λ k h.
    let at = c.loop-ahead.invariant k h in subst (λ (x : ℤ). get_or c.args.self.now.days (weekday_number (x +ℤ pos k)) false ≡ false) back at in
    let day = day_passed c.max-first.result c.from.result c.loop-ahead.ahead fits (search rules) span.low span.high c.from.ensures c.loop-ahead-test.true in
    let fits_end : FitsSigned w32 c.min-last.result = search rules in
    let back_end : to_z w32 (of_z w32 c.min-last.result) ≡ c.min-last.result = to_z-of_z fits_end in
    let past = rw (back_end, day) at c.if-day-last.true in
    none_before_end c.args.self.now c.args.from c.max-first.result c.min-last.result c.loop-ahead.ahead span none (int_lt-true c.min-last.result (c.max-first.result +ℤ pos c.loop-ahead.ahead) past)

pub weekday-requires : goal.weekday-requires
weekday-requires c =
    let span = span_passed c.args.self.now c.args.from _ _ c.max-first.result c.min-last.result c.ranges.from (search rules) (search rules) c.number.ensures.value c.number-2.ensures.value c.requires.0 c.requires.1 c.number.ensures.high c.max-first.ensures.value c.min-last.ensures.value in
    let fits : FitsSigned w32 c.max-first.result = search rules in
    let back : to_z w32 (of_z w32 c.max-first.result) ≡ c.max-first.result = to_z-of_z fits in
    let day = day_passed c.max-first.result c.from.result c.loop-ahead.ahead fits (search rules) span.low span.high c.from.ensures c.loop-ahead-test.true in
    let fits_end : FitsSigned w32 c.min-last.result = search rules in
    let back_end : to_z w32 (of_z w32 c.min-last.result) ≡ c.min-last.result = to_z-of_z fits_end in
    let within = int_lt-false c.min-last.result (c.max-first.result +ℤ pos c.loop-ahead.ahead) (rw (back_end, day) at c.if-day-last.false) in
    rw day (omega (arith, signed_arith, span.low), omega (arith, signed_arith, span.service))

pub returns-then-self-weekday : goal.returns-then-self-weekday
returns-then-self-weekday c =
    let span = span_passed c.args.self.now c.args.from _ _ c.max-first.result c.min-last.result c.ranges.from (search rules) (search rules) c.number.ensures.value c.number-2.ensures.value c.requires.0 c.requires.1 c.number.ensures.high c.max-first.ensures.value c.min-last.ensures.value in
    let fits : FitsSigned w32 c.max-first.result = search rules in
    let back : to_z w32 (of_z w32 c.max-first.result) ≡ c.max-first.result = to_z-of_z fits in
    let none : NamesNone c.args.self.now c.max-first.result c.loop-ahead.ahead = λ k h.
    let at = c.loop-ahead.invariant k h in subst (λ (x : ℤ). get_or c.args.self.now.days (weekday_number (x +ℤ pos k)) false ≡ false) back at in
    let day = day_passed c.max-first.result c.from.result c.loop-ahead.ahead fits (search rules) span.low span.high c.from.ensures c.loop-ahead-test.true in
    let fits_end : FitsSigned w32 c.min-last.result = search rules in
    let back_end : to_z w32 (of_z w32 c.min-last.result) ≡ c.min-last.result = to_z-of_z fits_end in
    let within = int_lt-false c.min-last.result (c.max-first.result +ℤ pos c.loop-ahead.ahead) (rw (back_end, day) at c.if-day-last.false) in
    let named = rw (c.weekday.ensures.value, day) at c.if-self-weekday.true in
    rw day (first_named c.args.self.now c.args.from c.max-first.result c.min-last.result c.loop-ahead.ahead span c.requires.0 none within named)

pub loop-ahead-preserved : goal.loop-ahead-preserved
loop-ahead-preserved c =
    let span = span_passed c.args.self.now c.args.from _ _ c.max-first.result c.min-last.result c.ranges.from (search rules) (search rules) c.number.ensures.value c.number-2.ensures.value c.requires.0 c.requires.1 c.number.ensures.high c.max-first.ensures.value c.min-last.ensures.value in
    let fits : FitsSigned w32 c.max-first.result = search rules in
    let back : to_z w32 (of_z w32 c.max-first.result) ≡ c.max-first.result = to_z-of_z fits in
    let day = day_passed c.max-first.result c.from.result c.loop-ahead.ahead fits (search rules) span.low span.high c.from.ensures c.loop-ahead-test.true in
    let unnamed = rw (c.weekday.ensures.value, day) at c.if-self-weekday.false in
    below_more _ _ c.loop-ahead.invariant (rw back unnamed)

pub returns : goal.returns
returns c =
    let span = span_passed c.args.self.now c.args.from _ _ c.max-first.result c.min-last.result c.ranges.from (search rules) (search rules) c.number.ensures.value c.number-2.ensures.value c.requires.0 c.requires.1 c.number.ensures.high c.max-first.ensures.value c.min-last.ensures.value in
    let fits : FitsSigned w32 c.max-first.result = search rules in
    let back : to_z w32 (of_z w32 c.max-first.result) ≡ c.max-first.result = to_z-of_z fits in
    let none : NamesNone c.args.self.now c.max-first.result 7 = λ k h.
    let at = c.loop-ahead.invariant k (omega arith) in subst (λ (x : ℤ). get_or c.args.self.now.days (weekday_number (x +ℤ pos k)) false ≡ false) back at in
    none_in_week c.args.self.now c.args.from c.max-first.result c.min-last.result span none
