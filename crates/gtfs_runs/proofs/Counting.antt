-- How often an event stands among those of a period.
use Rattle.std.proofs.Common.{◌≡◌, ◌≤◌, ◌<◌, ◌+◌, ◌*◌, ◌-◌, ◌/◌, ◌%◌, ◌&&◌, ◌==◌, ℕ, zero, suc, Bool, true, false, cond, List, [], ◌∷◌, map, nat_lt, nat_le, refl, sym, ◌∙◌, ap, arith, inl, inr, ◌⊎◌, subst, mul-le-mul_right, zero-add}
use Rattle.std.specs.Cmp.Derive.{both_true}
use Rattle.std.proofs.Math.Nat.{mul-mod_left, mul-div_cancel}
use Rattle.std.proofs.lemmas.Nat.{div-add-mod'}
use Rattle.std.specs.List.{range_with_len}
use Rattle.std.specs.Cmp.{tied_itself, ranked, both_ways}
use Rattle.std.specs.declared.cmp.Ordering.TheVariants.{Equal}
use Rattle.std.specs.Ordering.{is_eq}
use Rattle.std.proofs.lemmas.Bool.{cases_Bool, eqb-true as eq_test, le-leb as le_holds, lt-ltb as lt_holds, ltb-true as lt_test, leb-true as le_test, ltb-false as ge_test, le-ltb as lt_fails, and_parts as and-split}
use Rattle.std.proofs.lemmas.Bool.Decides.{nat_tests}
use Rattle.gtfs_field.proofs.OrderingFacts.{equal, tied as parts}
use Rattle.gtfs_rows.specs.Rows.{Frequency}
use Rattle.gtfs_runs.specs.declared.event.Event.{Event}
use Rattle.gtfs_runs.specs.EventOrder.{is_same}
use Rattle.gtfs_runs.specs.Tallies.{tally}
use Rattle.gtfs_runs.specs.PeriodRuns.{run_event, run_events, event_of_run, is_of_period}
use Rattle.gtfs_rows.specs.Runs.{starts_run}
use Rattle.gtfs_runs.proofs.Orders.{events_total}

-- ---- the same event

pub same-self : (e : Event) → is_same e e ≡ true
same-self e = ap is_eq (tied_itself events_total e)

pub same-is : (e x : Event) → is_same e x ≡ true → e ≡ x
same-is e x h =
    let a = parts _ _ (equal _ h) in
    let b = parts _ _ a.1 in
    let c = parts _ _ b.1 in
    let d = parts _ _ c.1 in
    let ats = ranked e.at x.at Equal (sym a.0) in
    let trips = ranked e.trip.0 x.trip.0 Equal (sym b.0) in
    let runs = ranked e.run x.run Equal (sym c.0) in
    let seqs = ranked e.seq x.seq Equal (sym d.0) in
    let rows = ranked e.row x.row Equal (sym d.1) in
    λ i. record { at = ats i; trip = record { 0 = trips i }; run = runs i; seq = seqs i; row = rows i }

-- ---- tests

neq_above : (a b : ℕ) → a ≤ b → (a == b) ≡ false → a + 1 ≤ b
neq_above a b h k = grind (arith, nat_tests)

and-false : (b : Bool) → ◌≡◌ {A = ℕ} (cond (b && false) 1 0) 0
and-false true = refl
and-false false = refl

less_or : (n i : ℕ) → (n ≤ i) ⊎ (i < n)
less_or n i = elim (cases_Bool (nat_lt i n)) [ inl is ↦ inr (lt_test i n is) | inr isnt ↦ inl (ge_test i n isnt) ]

-- ---- counts

pub tally-map : {X Y : Type 0} (p : Y → Bool) (f : X → Y) (xs : List X) → tally p (map f xs) ≡ tally (λ x. p (f x)) xs
tally-map p f [] = refl
tally-map p f (x ∷ xs) = rw (tally-map p f xs) refl

-- among numbers in a row, where only one can pass
tally-none : (q : ℕ → Bool) (i a n : ℕ) → ((j : ℕ) → q j ≡ true → j ≡ i) → i < a → tally q (range_with_len a n) ≡ 0
tally-none q i a zero one before = refl
tally-none q i a (suc n) one before = elim (cases_Bool (q a)) [
  | inl is ↦ let e : a ≡ i = one a is in absurd (omega arith)
  | inr isnt ↦ rw (isnt, tally-none q i (a + 1) n one (omega arith)) refl
]

pub tally-range : (q : ℕ → Bool) (i a n : ℕ) → ((j : ℕ) → q j ≡ true → j ≡ i) → a ≤ i → tally q (range_with_len a n) ≡ cond (nat_lt i (a + n) && q i) 1 0
tally-range q i a zero one from =
    let past : nat_lt i (a + 0) ≡ false = lt_fails i (a + 0) (omega arith) in
    rw past refl
tally-range q i a (suc n) one from = elim (cases_Bool (q a)) [
  | inl is ↦
      let e : a ≡ i = one a is in
      let here : q i ≡ true = ap q (sym e) ∙ is in
      let within : nat_lt i (a + suc n) ≡ true = lt_holds i (a + suc n) (omega arith) in
      rw (is, within, here, tally-none q i (a + 1) n one (omega arith)) refl
  | inr isnt ↦ elim (cases_Bool (a == i)) [
    | inl now ↦
        let e : a ≡ i = eq_test a i now in
        let fails : q i ≡ false = ap q (sym e) ∙ isnt in
        rw (isnt, fails, tally-none q i (a + 1) n one (omega arith)) (sym (and-false (nat_lt i (a + suc n))))
    | inr later ↦
        let more : a + 1 + n ≡ a + suc n = omega arith in
        let apart : a + 1 ≤ i = neq_above a i from later in
        rw isnt (zero-add (tally q (range_with_len (a + 1) n)) ∙ rw more at (tally-range q i (a + 1) n one apart))
  ]
]

-- ---- the runs of a period

sub_back : (s p : ℕ) → s + p - s ≡ p
sub_back s p = omega arith

step_le : (i n h : ℕ) → i < n → i * h + h ≤ n * h
step_le i n h below = let product : suc i * h ≤ n * h = mul-le-mul_right h below in omega arith

below_end : (s e p q h : ℕ) → q < e - s + h → p + h ≤ q → s + p < e
below_end s e p q h short step = omega arith

up : (s p : ℕ) → s ≤ s + p
up s p = omega arith

-- the second at which a run starts, from its number
starts-at : (start end h n i : ℕ) → n * h < end - start + h → i < n → (nat_le start (start + i * h) && nat_lt (start + i * h) end && ((start + i * h - start) % h == 0)) ≡ true
starts-at start end h n i short below =
    rw (sub_back start (i * h), le_holds start (start + i * h) (up start (i * h)), lt_holds (start + i * h) end (below_end start end (i * h) (n * h) h short (step_le i n h below)), mul-mod_left i h) refl

back_on : (s r p m : ℕ) → s ≤ r → p + m ≡ r - s → m ≡ 0 → s + p ≡ r
back_on s r p m from again none = omega arith

too_late : (s e r p q : ℕ) → s + p ≡ r → r < e → e - s ≤ q → q ≤ p → ⊥
too_late s e r p q at to upto past = omega arith

-- the number of a run, from the second at which it starts
number-at : (start h r : ℕ) → start ≤ r → (r - start) % h ≡ 0 → start + (r - start) / h * h ≡ r
number-at start h r from whole = back_on start r ((r - start) / h * h) ((r - start) % h) from (div-add-mod' (r - start) h) whole

number-below : (start end h n i r : ℕ) → start + i * h ≡ r → r < end → end - start ≤ n * h → i < n
number-below start end h n i r at to upto = elim (less_or n i) [
  | inl past ↦ absurd (too_late start end r (i * h) (n * h) at to upto (mul-le-mul_right h past))
  | inr below ↦ below
]

only-number : (first e : Event) (h j : ℕ) → 0 < h → is_same e (run_event first h j) ≡ true → j ≡ (e.run - first.run) / h
only-number first e h j moves same =
    let gone : e.run - first.run ≡ j * h = ap (λ x. x.run - first.run) (same-is e (run_event first h j) same) ∙ sub_back first.run (j * h) in
    rw gone (sym (mul-div_cancel j moves))

-- a period whose runs are this many
pub record Spans (first : Event) (f : Frequency) (n : ℕ) : Type 0 where
  pub begins : first.run ≡ f.start_time
  pub moves : 0 < f.headway_secs
  pub upto : f.end_time - f.start_time ≤ n * f.headway_secs
  pub short : n * f.headway_secs < f.end_time - f.start_time + f.headway_secs

as_late : (at first run start p : ℕ) → at ≡ first + p → run ≡ start + p → at ≡ first + (run - start)
as_late at first run start p is runs = omega arith

numbered-of_period : (first e : Event) (f : Frequency) (n i : ℕ) → Spans first f n → i < n → is_same e (run_event first f.headway_secs i) ≡ true → is_of_period first f e ≡ true
numbered-of_period first e f n i s below same =
    let h = f.headway_secs in
    let is : e ≡ run_event first h i = same-is e (run_event first h i) same in
    let runs : e.run ≡ first.run + i * h = ap (λ x. x.run) is in
    let later : e.at ≡ first.at + (e.run - first.run) = as_late e.at first.at e.run first.run (i * h) (ap (λ x. x.at) is) runs in
    let starts : starts_run f e.run ≡ true = subst (λ r. starts_run f r ≡ true) (sym (runs ∙ ap (λ b. b + i * h) s.begins)) (starts-at f.start_time f.end_time h n i s.short below) in
    let event : e ≡ event_of_run first e.run = λ t. record { at = later t; trip = (is t).trip; run = e.run; seq = (is t).seq; row = (is t).row } in
    both_true starts (subst (λ x. is_same e x ≡ true) event (same-self e))

of_period-numbered : (first e : Event) (f : Frequency) (n : ℕ) → Spans first f n → is_of_period first f e ≡ true
    → (nat_lt ((e.run - first.run) / f.headway_secs) (0 + n) && is_same e (run_event first f.headway_secs ((e.run - first.run) / f.headway_secs))) ≡ true
of_period-numbered first e f n s holds =
    let whole = and-split (starts_run f e.run) (is_same e (event_of_run first e.run)) holds in
    let starts = and-split (nat_le f.start_time e.run && nat_lt e.run f.end_time) ((e.run - f.start_time) % f.headway_secs == 0) whole.0 in
    let bounds = and-split (nat_le f.start_time e.run) (nat_lt e.run f.end_time) starts.0 in
    let from : first.run ≤ e.run = subst (λ b. b ≤ e.run) (sym s.begins) (le_test _ _ bounds.0) in
    let none_left : (e.run - first.run) % f.headway_secs ≡ 0 = subst (λ b. (e.run - b) % f.headway_secs ≡ 0) (sym s.begins) (eq_test _ _ starts.1) in
    let at : first.run + (e.run - first.run) / f.headway_secs * f.headway_secs ≡ e.run = number-at first.run f.headway_secs e.run from none_left in
    let below = number-below first.run f.end_time f.headway_secs n ((e.run - first.run) / f.headway_secs) e.run at (lt_test _ _ bounds.1) (subst (λ b. f.end_time - b ≤ n * f.headway_secs) (sym s.begins) s.upto) in
    same-number first e f.headway_secs ((e.run - first.run) / f.headway_secs) n (same-is e (event_of_run first e.run) whole.1) at below
  where
    same-number : (first e : Event) (h i n : ℕ) → e ≡ event_of_run first e.run → first.run + i * h ≡ e.run → i < n → (nat_lt i (0 + n) && is_same e (run_event first h i)) ≡ true
    same-number first e h i n is at below =
        let later : e.at ≡ first.at + i * h = ap (λ x. x.at) is ∙ ap (λ d. first.at + d) (ap (λ r. r - first.run) (sym at) ∙ sub_back first.run (i * h)) in
        let event : e ≡ run_event first h i = λ t. record { at = later t; trip = (is t).trip; run = (sym at) t; seq = (is t).seq; row = (is t).row } in
        both_true (lt_holds i (0 + n) (omega arith)) (subst (λ x. is_same e x ≡ true) event (same-self e))

-- an event stands among those of a period once if it is that of a run, and else not
pub period-tally : (first e : Event) (f : Frequency) (n : ℕ) → Spans first f n → tally (is_same e) (run_events first f.headway_secs n) ≡ cond (is_of_period first f e) 1 0
unfolding run_events
period-tally first e f n s =
    let h = f.headway_secs in
    let i = (e.run - first.run) / h in
    let test = both_ways (nat_lt i (0 + n) && is_same e (run_event first h i)) (is_of_period first f e)
    (λ holds. let p = and-split (nat_lt i (0 + n)) (is_same e (run_event first h i)) holds in numbered-of_period first e f n i s (plus-none i n (lt_test _ _ p.0)) p.1)
    (of_period-numbered first e f n s) in
    tally-map (is_same e) (run_event first h) (range_with_len 0 n)
    ∙ tally-range (λ j. is_same e (run_event first h j)) i 0 n (λ j. only-number first e h j s.moves) (least i)
    ∙ ap (λ b. cond b 1 0) test
  where
    plus-none : (i n : ℕ) → i < 0 + n → i < n
    plus-none i n h = omega arith

    least : (i : ℕ) → 0 ≤ i
    least i = omega arith
