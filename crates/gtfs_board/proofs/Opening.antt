use Rattle.std.proofs.Common.{◌≡◌, ℕ, zero, suc, ◌+◌, ◌≤◌, ◌<◌, Bool, true, false, cond, List, [], ◌∷◌, ◌++◌, inl, inr, Option, Some, None, refl, sym, ◌∙◌, ap, arith, find}
use Rattle.std.specs.Prelude.{ℤ, pos, ◌+ℤ◌, int_lt, ◌<ℤ◌, ◌≤ℤ◌}
use Rattle.std.specs.List.{filter_map, cons_option, range_with_len}
use Rattle.std.proofs.lemmas.Int.{ints}
use Rattle.std.proofs.lemmas.Bool.{cases_Bool, cases_eq, cases_lt}
use Rattle.gtfs_field.proofs.NumberFacts.{cases_int, lt-int_lt}
use Rattle.gtfs_runs.specs.Tallies.{tally}
use Rattle.gtfs_runs.proofs.Tallies.{tally-append}
use Rattle.gtfs_board.specs.upcoming.QueueOrder.{IsStrict, same, holds}
use Rattle.gtfs_board.specs.upcoming.OpenedLanes.{Events, AreLanes, AreHeads}
use Rattle.gtfs_board.proofs.Orders.{find-in}
use Rattle.gtfs_board.proofs.Heads.{holds-some}
use Rattle.gtfs_board.proofs.Ints.{le-int_lt, cases_same_int}

module _ {C : Type 0} {lt : C → C → Bool} {instant day : C → ℤ} {lane : C → ℕ} {count latest : ℕ} {events : Events C}
    (o : IsStrict lt) (ls : AreLanes lt instant day lane count latest events) (p : C → Bool) where
  tally-cons : (x : C) (e : Option C) (r : List C) → tally (same lt x) (cons_option e r) ≡ cond (holds lt x e) 1 0 + tally (same lt x) r
  tally-cons x None r = omega arith
  tally-cons x (Some y) r = refl

  not_other : (i : ℕ) (d : ℤ) (x : C) → ((lane x ≡ i) → (day x ≡ d) → ⊥) → holds lt x (find p (events i d)) ≡ false
  not_other i d x apart = elim (cases_Bool (holds lt x (find p (events i d)))) [
    | inl is ↦
        let there = find-in p _ x (holds-some o x _ is) in
        absurd (apart (ls.of_lane i d x there) (ls.of_day i d x there))
    | inr isnt ↦ isnt
  ]

  none_there : (d : ℤ) (x : C) (n a : ℕ) → ((i : ℕ) → a ≤ i → holds lt x (find p (events i d)) ≡ false)
      → tally (same lt x) (filter_map (λ i. find p (events i d)) (range_with_len a n)) ≡ 0
  none_there d x zero a none = refl
  none_there d x (suc n) a none =
      let here = tally-cons x (find p (events a d)) (filter_map (λ i. find p (events i d)) (range_with_len (a + 1) n)) in
      rw (here, none a (omega arith), none_there d x n (a + 1) (λ i h. none i (omega arith))) refl

  one_there : (d : ℤ) (x : C) (n a : ℕ) → day x ≡ d → a ≤ lane x → lane x < a + n
      → tally (same lt x) (filter_map (λ i. find p (events i d)) (range_with_len a n)) ≡ cond (holds lt x (find p (events (lane x) d))) 1 0
  one_there d x zero a e low high = absurd (omega arith)
  one_there d x (suc n) a e low high =
      let here = tally-cons x (find p (events a d)) (filter_map (λ i. find p (events i d)) (range_with_len (a + 1) n)) in
      elim (cases_eq (lane x) a) [
        | inl at ↦
            let none = none_there d x n (a + 1) (λ i h. not_other i d x (λ k _. omega arith)) in
            rw (here, none, at) (omega arith)
        | inr past ↦
            let rest = one_there d x n (a + 1) e (omega arith) (omega arith) in
            rw (here, not_other a d x (λ k _. past k), rest) (omega arith)
      ]

  -- the heads of the lanes on one day
  pub tally-day : (d : ℤ) (x : C) → day x ≡ d
      → tally (same lt x) (filter_map (λ i. find p (events i d)) (range_with_len 0 count)) ≡ cond (holds lt x (find p (events (lane x) d))) 1 0
  tally-day d x e = elim (cases_lt (lane x) count) [
    | inl inside ↦ one_there d x count 0 e (omega arith) (omega arith)
    | inr outside ↦
        let empty = ls.few (lane x) d outside in
        let none = none_there d x count 0 (λ i _. elim (cases_eq (lane x) i) [
          | inl at ↦ rw (← at, empty) refl
          | inr apart ↦ not_other i d x (λ k _. apart k)
        ]) in
        rw (empty, none) refl
  ]

  pub tally-other_day : (d : ℤ) (x : C) → (day x ≡ d → ⊥)
      → tally (same lt x) (filter_map (λ i. find p (events i d)) (range_with_len 0 count)) ≡ 0
  tally-other_day d x apart = none_there d x count 0 (λ i _. not_other i d x (λ _ k. apart k))

  -- the next day is opened
  pub heads_opened : (f : ℤ) (q : List C) → AreHeads lt day lane events f p q
      → AreHeads lt day lane events (f +ℤ pos 1) p (q ++ filter_map (λ i. find p (events i f)) (range_with_len 0 count))
  heads_opened f q heads x =
      let both = tally-append (same lt x) q (filter_map (λ i. find p (events i f)) (range_with_len 0 count)) in
      let old = heads x in
      elim (cases_same_int (day x) f) [
        | inl today ↦
            let fresh = tally-day f x today in
            let past : int_lt (day x) f ≡ false = le-int_lt (day x) f (omega (arith, ints)) in
            let now : int_lt (day x) (f +ℤ pos 1) ≡ true = lt-int_lt (day x) (f +ℤ pos 1) (omega (arith, ints)) in
            let old2 = rw past at old in
            rw (both, fresh, now, today, old2) (omega arith)
        | inr apart ↦
            let fresh = tally-other_day f x apart in
            let alike : int_lt (day x) f ≡ int_lt (day x) (f +ℤ pos 1) = elim (cases_int (day x) f) [
              | inl before ↦ lt-int_lt (day x) f before ∙ sym (lt-int_lt (day x) (f +ℤ pos 1) (omega (arith, ints)))
              | inr after ↦ le-int_lt (day x) f after ∙ sym (le-int_lt (day x) (f +ℤ pos 1) (omega (arith, ints, apart)))
            ] in
            rw (both, fresh, ← alike, old) (omega arith)
      ]

  -- days without events are passed over
  pub heads_skipped : (f g : ℤ) (q : List C) → f ≤ℤ g → ((i : ℕ) (d : ℤ) → f ≤ℤ d → d <ℤ g → events i d ≡ [])
      → AreHeads lt day lane events f p q → AreHeads lt day lane events g p q
  heads_skipped f g q up empty heads x = heads x ∙ ap (λ b. cond b 1 0) (elim (cases_int (day x) f) [
    | inl before ↦
        let a = lt-int_lt (day x) f before in
        let b = lt-int_lt (day x) g (omega (arith, ints)) in
        rw (a, b) refl
    | inr after ↦
        let a = le-int_lt (day x) f after in
        elim (cases_int (day x) g) [
          | inl between ↦
              let none = empty (lane x) (day x) after between in
              let b = lt-int_lt (day x) g between in
              rw (a, b, none) refl
          | inr past ↦
              let b = le-int_lt (day x) g past in
              rw (a, b) refl
        ]
  ])
