use Rattle.std.proofs.Common.{◌≡◌, ℕ, ◌+◌, ◌<◌, Bool, true, false, cond, List, [], ◌∷◌, ◌++◌, ◌⊎◌, inl, inr, Option, Some, None, refl, sym, ◌∙◌, ap, arith, find}
use Rattle.std.specs.Prelude.{ℤ, int_lt, ◌<ℤ◌, ◌≤ℤ◌}
use Rattle.std.specs.Option.{option_to_list}
use Rattle.std.proofs.lemmas.Int.{ints}
use Rattle.std.proofs.lemmas.Bool.{true≢false, false≢true, cases_Bool, cases_eq}
use Rattle.gtfs_field.proofs.NumberFacts.{cases_int, int_lt-true, lt-int_lt}
use Rattle.gtfs_runs.specs.Tallies.{tally}
use Rattle.gtfs_board.specs.upcoming.QueueOrder.{IsStrict, In, Each, same, holds, IsUpward}
use Rattle.gtfs_board.specs.upcoming.OpenedLanes.{Events, AreLanes, is_head, AreHeads}
use Rattle.gtfs_board.proofs.Orders.{Each-in, find-agree, find-in, same-self, same-is, find-least}
use Rattle.gtfs_board.proofs.Ints.{cases_same_int}

module _ {C : Type 0} (p : C → Bool) where
  pub find-passes : (xs : List C) (h : C) → find p xs ≡ Some h → p h ≡ true
  find-passes [] h e = absurd (cc)
  find-passes (x ∷ xs) h e = elim (cases_Bool (p x)) [
    | inl is ↦ let e2 = rw is at e in let e3 : x ≡ h = cc in rw e3 at is
    | inr isnt ↦ find-passes xs h (rw isnt at e)
  ]

module _ {C : Type 0} {lt : C → C → Bool} (o : IsStrict lt) where
  pub in-from_tally : (x : C) (q : List C) → 0 < tally (same lt x) q → In x q
  in-from_tally x [] h = absurd (omega arith)
  in-from_tally x (y ∷ q) h = elim (cases_Bool (same lt x y)) [
    | inl is ↦ inl (same-is o x y is)
    | inr isnt ↦ let k = rw isnt at h in inr (in-from_tally x q (omega (arith, k)))
  ]

  pub tally-option : (x : C) (next : Option C) (r : List C) → tally (same lt x) (option_to_list next ++ r) ≡ cond (holds lt x next) 1 0 + tally (same lt x) r
  tally-option x None r = omega arith
  tally-option x (Some y) r = refl

  pub holds-some : (x : C) (e : Option C) → holds lt x e ≡ true → e ≡ Some x
  holds-some x None h = absurd (false≢true h)
  holds-some x (Some y) h = ap Some (sym (same-is o x y h))

module _ {C : Type 0} {lt : C → C → Bool} {instant day : C → ℤ} {lane : C → ℕ} {count latest : ℕ} {events : Events C}
    (o : IsStrict lt) (ls : AreLanes lt instant day lane count latest events) where
  -- a head stands in the queue
  pub head-waits : (f : ℤ) (p : C → Bool) (q : List C) → AreHeads lt day lane events f p q
      → (i : ℕ) (d : ℤ) (h : C) → d <ℤ f → find p (events i d) ≡ Some h → In h q
  head-waits f p q heads i d h before e =
      let here = find-in p (events i d) h e in
      let to_lane = ls.of_lane i d h here in
      let to_day = ls.of_day i d h here in
      let head : is_head lt day lane events f p h ≡ true = rw (to_day, to_lane, lt-int_lt d f before, e) (same-self o h) in
      let one = heads h ∙ ap (λ b. cond b 1 0) head in
      in-from_tally o h q (omega (arith, one))

  -- the least of the heads is the least of all, where every unopened day lies above it
  pub least_of_all : (f : ℤ) (p : C → Bool) (q : List C) (c : C) → AreHeads lt day lane events f p q → IsUpward lt p
      → Each (λ y. lt y c ≡ false) q
      → ((i : ℕ) (d : ℤ) (y : C) → f ≤ℤ d → In y (events i d) → instant c <ℤ instant y)
      → (i : ℕ) (d : ℤ) (y : C) → In y (events i d) → p y ≡ true → (y ≡ c) ⊎ (lt c y ≡ true)
  least_of_all f p q c heads up least above i d y here passes = elim (cases_int d f) [
    | inl before ↦
        let found = find-least o p up (events i d) (ls.ascend i d) y here passes in
        let h = found.0 in
        let waits = head-waits f p q heads i d h before found.1 in
        let low = Each-in (λ z. lt z c ≡ false) q h least waits in
        elim (cases_Bool (lt c h)) [
          | inl is ↦ elim found.2 [ inl e ↦ inr (rw e is) | inr less ↦ inr (o.trans c h y is less) ]
          | inr isnt ↦
              let e = o.exact c h isnt low in
              elim found.2 [ inl e2 ↦ inl (e2 ∙ sym e) | inr less ↦ inr (rw e less) ]
        ]
    | inr after ↦
        let later = above i d y after here in
        elim (cases_Bool (lt c y)) [
          | inl is ↦ inr is
          | inr isnt ↦ elim (cases_Bool (lt y c)) [
            | inl back ↦ let no_later = ls.follow y c back in absurd (omega (arith, ints, later, no_later))
            | inr neither ↦ inl (sym (o.exact c y isnt neither))
          ]
        ]
  ]

  -- a head is the first above the floor of its lane on its day
  pub head-found : (f : ℤ) (p : C → Bool) (c : C) → is_head lt day lane events f p c ≡ true
      → (day c <ℤ f) × (find p (events (lane c) (day c)) ≡ Some c)
  head-found f p c h = elim (cases_Bool (int_lt (day c) f)) [
    | inl is ↦ (int_lt-true (day c) f is, holds-some o c _ (rw is at h))
    | inr isnt ↦ absurd (false≢true (rw isnt at h))
  ]

  -- the least is taken, and the one after it in its lane waits in its place
  pub heads_taken : (f : ℤ) (p : C → Bool) (c : C) (r : List C) → AreHeads lt day lane events f p (c ∷ r) → IsUpward lt p
      → ((i : ℕ) (d : ℤ) (y : C) → In y (events i d) → p y ≡ true → (y ≡ c) ⊎ (lt c y ≡ true))
      → AreHeads lt day lane events f (lt c) (option_to_list (find (lt c) (events (lane c) (day c))) ++ r)
  heads_taken f p c r heads up least x =
      let next = find (lt c) (events (lane c) (day c)) in
      let mine = ap (λ b. cond b 1 0 + tally (same lt c) r) (sym (same-self o c)) ∙ heads c in
      let head : is_head lt day lane events f p c ≡ true = elim (cases_Bool (is_head lt day lane events f p c)) [
        | inl is ↦ is
        | inr isnt ↦ let none = mine ∙ ap (λ b. cond b 1 0) isnt in absurd (omega (arith, none))
      ] in
      let found = head-found f p c head in
      let floor = find-passes p _ c found.1 in
      let opened = lt-int_lt (day c) f found.0 in
      let given = heads x in
      let elsewhere : ((lane x ≡ lane c) → (day x ≡ day c) → ⊥) → tally (same lt x) (option_to_list next ++ r) ≡ cond (is_head lt day lane events f (lt c) x) 1 0 = λ apart.
      let agree : find p (events (lane x) (day x)) ≡ find (lt c) (events (lane x) (day x)) = find-agree p (lt c) _ (λ y i. elim (cases_Bool (p y)) [
        | inl is ↦ elim (least (lane x) (day x) y i is) [
          | inl e ↦ absurd (apart (sym (ls.of_lane _ _ y i) ∙ ap lane e) (sym (ls.of_day _ _ y i) ∙ ap day e))
          | inr above ↦ is ∙ sym above
        ]
        | inr isnt ↦ elim (cases_Bool (lt c y)) [
          | inl above ↦ absurd (true≢false (sym (up c y above floor) ∙ isnt))
          | inr below ↦ isnt ∙ sym below
        ]
      ]) in
      let other : same lt x c ≡ false = elim (cases_Bool (same lt x c)) [
        | inl is ↦ let e = same-is o x c is in absurd (apart (ap lane e) (ap day e))
        | inr isnt ↦ isnt
      ] in
      let not_next : holds lt x next ≡ false = elim (cases_Bool (holds lt x next)) [
        | inl is ↦
            let e = holds-some o x next is in
            let there = find-in (lt c) _ x e in
            absurd (apart (ls.of_lane _ _ x there) (ls.of_day _ _ x there))
        | inr isnt ↦ isnt
      ] in
      let rest = rw (other, agree) at given in
      rw (tally-option o x next r, not_next) rest in
      elim (cases_eq (lane x) (lane c)) [
        | inl same_lane ↦ elim (cases_same_int (day x) (day c)) [
          | inl same_day ↦
              let now = rw (same_lane, same_day, opened, found.1) at given in
              let gone : tally (same lt x) r ≡ 0 = omega (arith, now) in
              rw (tally-option o x next r, same_lane, same_day, opened, gone) (omega arith)
          | inr apart ↦ elsewhere (λ _ e. apart e)
        ]
        | inr apart ↦ elsewhere (λ e _. apart e)
      ]
