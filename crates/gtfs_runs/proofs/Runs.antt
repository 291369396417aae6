-- The events of a period ascend, and two of them stand next to a time.
use Rattle.std.proofs.Common.{◌≡◌, ◌≤◌, ◌<◌, ◌+◌, ◌*◌, ℕ, zero, suc, Bool, true, false, cond, map, Option, Some, None, find, nat_lt, refl, arith, mul-le-mul_right}
use Rattle.std.specs.Prelude.{ℤ, pos, ◌+ℤ◌, ◌<ℤ◌, ◌≤ℤ◌}
use Rattle.std.specs.List.{range_with_len}
use Rattle.std.proofs.lemmas.Int.{ints}
use Rattle.std.specs.declared.cmp.Ordering.TheVariants.{Less}
use Rattle.std.proofs.lemmas.Bool.Decides.{nat_tests}
use Rattle.std.proofs.lemmas.List.FromFn.{length-map-range_with_len as length-range}
use Rattle.gtfs_field.proofs.OrderingFacts.{nat-less as less-at}
use Rattle.gtfs_rows.specs.TransferOrder.{Ascends}
use Rattle.gtfs_runs.specs.declared.event.Event.{Event}
use Rattle.gtfs_runs.specs.EventOrder.{event_cmp, IsFrom, first_of_two}
use Rattle.gtfs_runs.specs.PeriodRuns.{run_event, run_events}
use Rattle.gtfs_runs.proofs.Finding.{get_or-range_0}

step-up : (first : ℕ) (i j h : ℕ) → i < j → 0 < h → first + i * h < first + j * h
step-up first i j h above moves = grind arith

event-less : (first : Event) (h i j : ℕ) → i < j → 0 < h → event_cmp (run_event first h i) (run_event first h j) ≡ Less
event-less first h i j above moves = rw (less-at (first.at + i * h) (first.at + j * h) (step-up first.at i j h above moves)) refl

pub runs-ascend : (first : Event) (headway count : ℕ) → 0 < headway → Ascends event_cmp (run_events first headway count)
unfolding run_events
runs-ascend first headway count moves i j d above within =
    let f = run_event first headway in
    let last : j < count = rw (length-range f 0 count) at within in
    rw (get_or-range_0 f count i d (omega arith), get_or-range_0 f count j d last) (event-less first headway i j above moves)

-- the element at an index, where it passes and those before it do not
second-found : (f : ℕ → Event) (test : Event → Bool) (a n : ℕ) → test (f (a + 1)) ≡ true → find test (map f (range_with_len (a + 1) n)) ≡ cond (nat_lt 1 (suc n)) (Some (f (a + 1))) None
second-found f test a zero after = refl
second-found f test a (suc n) after =
    let two : nat_lt 1 (suc (suc n)) ≡ true = grind (arith, nat_tests) in
    rw (two, after) refl

-- where no element before an index passes and each after it does
two-found : (f : ℕ → Event) (test : Event → Bool) (a n i : ℕ) → ((j : ℕ) → a ≤ j → j < a + i → test (f j) ≡ false) → test (f (a + i + 1)) ≡ true
    → find test (map f (range_with_len a n)) ≡ first_of_two test (cond (nat_lt i n) (Some (f (a + i))) None) (cond (nat_lt (i + 1) n) (Some (f (a + i + 1))) None)
two-found f test a zero i before after =
    let one : nat_lt i 0 ≡ false = grind (arith, nat_tests) in
    let two : nat_lt (i + 1) 0 ≡ false = grind (arith, nat_tests) in
    rw (one, two) refl
two-found f test a (suc n) zero before after =
    let e : a + 0 ≡ a = omega arith in
    let one : nat_lt 0 (suc n) ≡ true = grind (arith, nat_tests) in
    let second = second-found f test a n (rw e at after) in
    rw (one, e, second) refl
two-found f test a (suc n) (suc i) before after =
    let fails : test (f a) ≡ false = before a (omega arith) (omega arith) in
    let one : nat_lt (suc i) (suc n) ≡ nat_lt i n = grind (arith, nat_tests) in
    let two : nat_lt (suc i + 1) (suc n) ≡ nat_lt (i + 1) n = grind (arith, nat_tests) in
    let here : a + suc i ≡ a + 1 + i = omega arith in
    let next : a + suc i + 1 ≡ a + 1 + i + 1 = omega arith in
    rw (fails, one, two, here) (two-found f test (a + 1) n i (λ j from to. before j (omega arith) (omega arith)) (rw here at after))

-- a run before one that is at most a headway past a time, and the run after one that is not before it
earlier-run : (first h i j : ℕ) (at : ℤ) → (0 < i → pos (first + i * h) <ℤ (at +ℤ pos h)) → j < i → pos (first + j * h) <ℤ at
earlier-run first h i j at below before =
    let product : suc j * h ≤ i * h = mul-le-mul_right h (omega arith) in
    let near : pos (first + i * h) <ℤ (at +ℤ pos h) = below (omega arith) in
    omega (arith, ints)

later-run : (first h i : ℕ) (at : ℤ) → 0 < h → at ≤ℤ pos (first + i * h) → at <ℤ pos (first + (i + 1) * h)
later-run first h i at moves from = omega (arith, ints)

-- the first two runs from a time on, which every test from that time on chooses from
pub first-from : (first : Event) (h n i : ℕ) (at : ℤ) (test : Event → Bool) → 0 < h
    → (0 < i → pos (first.at + i * h) <ℤ (at +ℤ pos h)) → at ≤ℤ pos (first.at + i * h) → IsFrom at test
    → find test (run_events first h n) ≡ first_of_two test (cond (nat_lt i n) (Some (run_event first h i)) None) (cond (nat_lt (i + 1) n) (Some (run_event first h (i + 1))) None)
unfolding run_events
first-from first h n i at test moves below from is =
    let f = run_event first h in
    let e : 0 + i ≡ i = omega arith in
    let after : test (f (0 + i + 1)) ≡ true = rw e (is.after (f (i + 1)) (later-run first.at h i at moves from)) in
    rw e at (two-found f test 0 n i (λ j low to. is.before (f j) (earlier-run first.at h i j at below (omega arith))) after)

pub first-passes : (test : Event → Bool) (e : Event) (first second : Option Event) → first ≡ Some e → test e ≡ true → first_of_two test first second ≡ Some e
first-passes test e first second is passes = rw (is, passes) refl

pub second-passes : (test : Event → Bool) (e : Event) (first second : Option Event) → first ≡ Some e → test e ≡ false → first_of_two test first second ≡ second
second-passes test e first second is fails = rw (is, fails) refl

pub none-passes : (test : Event → Bool) (first second : Option Event) → first ≡ None → first_of_two test first second ≡ second
none-passes test first second is = rw is refl
