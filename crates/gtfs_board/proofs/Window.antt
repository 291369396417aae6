use Rattle.std.proofs.Common.{◌≡◌, ℕ, zero, suc, ◌+◌, ◌*◌, ◌/◌, ◌≤◌, ◌<◌, Bool, true, cond, ◌&&◌, List, [], ◌∷◌, length, inl, inr, refl, sym, ◌∙◌, ap, arith}
use Rattle.std.specs.Prelude.{ℤ, pos, ◌+ℤ◌, ◌-ℤ◌, ◌*ℤ◌, ◌≤ℤ◌, unsigned_abs, ◌==◌}
use Rattle.std.proofs.lemmas.Int.{ints}
use Rattle.std.proofs.lemmas.Bool.{cases_Bool, cases_eq, cases_lt, and_parts, eqb-true, eq-eqb}
use Rattle.gtfs_field.proofs.NumberFacts.{abs-above, cases_int}
use Rattle.gtfs_runs.specs.Tallies.{tally}
use Rattle.gtfs_board.specs.upcoming.QueueOrder.{IsStrict, In, Each, same}
use Rattle.gtfs_board.specs.upcoming.OpenedLanes.{Events, AreLanes, is_head, AreHeads}
use Rattle.gtfs_board.proofs.Orders.{find-in, Each-in, same-self}
use Rattle.gtfs_board.proofs.Heads.{head-found}

module _ {C : Type 0} where
  pub each_in : (P : C → Type 0) (xs : List C) → ((x : C) → In x xs → P x) → Each P xs
  each_in P [] h = tt
  each_in P (x ∷ xs) h = (h x (inl refl), each_in P xs (λ y i. h y (inr i)))

  pub each_weaker : (P Q : C → Type 0) → ((x : C) → P x → Q x) → (xs : List C) → Each P xs → Each Q xs
  each_weaker P Q h [] all = tt
  each_weaker P Q h (x ∷ xs) all = (h x all.0, each_weaker P Q h xs all.1)

pub in_tally : {C : Type 0} {lt : C → C → Bool} (o : IsStrict lt) (x : C) (q : List C) → In x q → 0 < tally (same lt x) q
in_tally o x [] here = absurd here
in_tally {C} {lt} o x (y ∷ q) here = elim here [
  | inl e ↦ let s : same lt x y ≡ true = ap (same lt x) (sym e) ∙ same-self o x in rw s (omega arith)
  | inr later ↦ let rest = in_tally o x q later in omega arith
]

lane_below : (n i : ℕ) → (n ≤ i → ⊥) → i < n
lane_below n i h = elim (cases_lt i n) [ inl a ↦ a | inr b ↦ absurd (h b) ]

same_distance : (d a b : ℤ) → d ≤ℤ a → d ≤ℤ b → unsigned_abs (a -ℤ d) ≡ unsigned_abs (b -ℤ d) → a ≡ b
same_distance d a b ha hb e =
    let x = abs-above a d ha in
    let y = abs-above b d hb in
    let z = ap pos e in
    omega (arith, ints, x, y, z)

below_quotient : (n w : ℕ) → n * 86_400 ≤ w → n < w / 86_400 + 1
below_quotient n w h = omega arith

within_width : (latest : ℕ) (x0 d0 d t : ℤ) → d0 ≤ℤ d → (d *ℤ pos 86_400) ≤ℤ (x0 +ℤ pos 93_599)
    → t ≤ℤ (d0 *ℤ pos 86_400 +ℤ pos (latest + 93_599)) → x0 ≤ℤ t → unsigned_abs (d -ℤ d0) < (latest + 187_198) / 86_400 + 1
within_width latest x0 d0 d t up down late low =
    let e = abs-above d d0 up in
    below_quotient (unsigned_abs (d -ℤ d0)) (latest + 187_198) (omega (arith, ints, e, down, late, low))

module _ {C : Type 0} where
  pub tally-weaker : (p q : C → Bool) (xs : List C) → Each (λ x. p x ≡ true → q x ≡ true) xs → tally p xs ≤ tally q xs
  tally-weaker p q [] h = omega arith
  tally-weaker p q (x ∷ xs) h =
      let rest = tally-weaker p q xs h.1 in
      elim (cases_Bool (p x)) [
        | inl is ↦ let also = h.0 is in rw (is, also) (omega arith)
        | inr isnt ↦ rw isnt (omega arith)
      ]

  -- how many members that pass stand at the numbers below n
  abbrev numbered : (C → Bool) → (C → ℕ) → ℕ → List C → ℕ
  numbered r f zero xs = 0
  numbered r f (suc n) xs = tally (λ x. r x && (f x == n)) xs + numbered r f n xs

  numbered-skip : (r : C → Bool) (f : C → ℕ) (n : ℕ) (x : C) (xs : List C) → numbered r f n xs ≤ numbered r f n (x ∷ xs)
  numbered-skip r f zero x xs = omega arith
  numbered-skip r f (suc n) x xs = let rest = numbered-skip r f n x xs in omega arith

  numbered-more : (r : C → Bool) (f : C → ℕ) (n : ℕ) (x : C) (xs : List C) → r x ≡ true → f x < n → 1 + numbered r f n xs ≤ numbered r f n (x ∷ xs)
  numbered-more r f zero x xs is low = absurd (omega arith)
  numbered-more r f (suc n) x xs is low = elim (cases_eq (f x) n) [
    | inl at ↦
        let t : (f x == n) ≡ true = eq-eqb (f x) n at in
        let rest = numbered-skip r f n x xs in
        rw (is, t) (omega arith)
    | inr past ↦
        let rest = numbered-more r f n x xs is (omega arith) in
        omega arith
  ]

  tally-numbered : (r : C → Bool) (f : C → ℕ) (n : ℕ) (xs : List C) → Each (λ x. r x ≡ true → f x < n) xs → tally r xs ≤ numbered r f n xs
  tally-numbered r f n [] h = omega arith
  tally-numbered r f n (x ∷ xs) h =
      let rest = tally-numbered r f n xs h.1 in
      elim (cases_Bool (r x)) [
        | inl is ↦ let more = numbered-more r f n x xs is (h.0 is) in rw is (omega arith)
        | inr isnt ↦ let more = numbered-skip r f n x xs in rw isnt (omega arith)
      ]

  numbered-few : (r : C → Bool) (f : C → ℕ) (n m : ℕ) (xs : List C) → ((v : ℕ) → tally (λ x. r x && (f x == v)) xs ≤ m) → numbered r f n xs ≤ n * m
  numbered-few r f zero m xs h = omega arith
  numbered-few r f (suc n) m xs h =
      let rest = numbered-few r f n m xs h in
      let here = h n in
      omega (arith, rest, here)

  -- n numbers with at most m each
  pub pigeons : (r : C → Bool) (f : C → ℕ) (n m : ℕ) (xs : List C) → Each (λ x. r x ≡ true → f x < n) xs
      → ((v : ℕ) → tally (λ x. r x && (f x == v)) xs ≤ m) → tally r xs ≤ n * m
  pigeons r f n m xs low few =
      let a = tally-numbered r f n xs low in
      let b = numbered-few r f n m xs few in
      omega arith

  pub tally-all : (xs : List C) → tally (λ _. true) xs ≡ length xs
  tally-all [] = refl
  tally-all (x ∷ xs) = rw (tally-all xs) (omega arith)

module _ {C : Type 0} {lt : C → C → Bool} (o : IsStrict lt) where
  -- of members that pass, which are all one, there is one at most
  one_each : (p : C → Bool) (q : List C) → ((x y : C) → In x q → In y q → p x ≡ true → p y ≡ true → x ≡ y) → ((x : C) → tally (same lt x) q ≤ 1) → tally p q ≤ 1
  one_each p [] alike once = omega arith
  one_each p (x ∷ q) alike once =
      let fewer : (y : C) → tally (same lt y) q ≤ 1 = λ y. let h = once y in omega (arith, h) in
      elim (cases_Bool (p x)) [
        | inl is ↦
            let only = rw (same-self o x) at (once x) in
            let each : Each (λ y. p y ≡ true → same lt x y ≡ true) q = each_in (λ y. p y ≡ true → same lt x y ≡ true) q (λ y there passes. ap (same lt x) (sym (alike x y (inl refl) (inr there) is passes)) ∙ same-self o x) in
            let weaker = tally-weaker p (same lt x) q each in
            rw is (omega (arith, only, weaker))
        | inr isnt ↦
            let rest = one_each p q (λ y z a b. alike y z (inr a) (inr b)) fewer in
            rw isnt (omega arith)
      ]

module _ {C : Type 0} (day : C → ℤ) where
  -- a member of the least day
  pub least_day : (x : C) (q : List C) → (d : ℤ) × ((y : C) × In y (x ∷ q) × (day y ≡ d)) × Each (λ y. d ≤ℤ day y) (x ∷ q)
  least_day x [] = (day x, (x, inl refl, refl), (omega (arith, ints), tt))
  least_day x (z ∷ q) =
      let r = least_day z q in
      elim (cases_int (day x) r.0) [
        | inl before ↦ (day x, (x, inl refl, refl), (omega (arith, ints), each_weaker (λ y. r.0 ≤ℤ day y) (λ y. day x ≤ℤ day y) (λ y h. omega (arith, ints, h, before)) (z ∷ q) r.2))
        | inr after ↦ (r.0, (r.1.0, inr r.1.1, r.1.2), (after, r.2))
      ]

module _ {C : Type 0} {lt : C → C → Bool} {instant day : C → ℤ} {lane : C → ℕ} {count latest : ℕ} {events : Events C}
    (o : IsStrict lt) (ls : AreLanes lt instant day lane count latest events) where
  -- what waits is a head
  pub waits-head : (f : ℤ) (p : C → Bool) (q : List C) → AreHeads lt day lane events f p q → (x : C) → In x q → is_head lt day lane events f p x ≡ true
  waits-head f p q heads x there = elim (cases_Bool (is_head lt day lane events f p x)) [
    | inl is ↦ is
    | inr isnt ↦
        let none = heads x ∙ ap (λ b. cond b 1 0) isnt in
        let some = in_tally o x q there in
        absurd (omega (arith, none, some))
  ]

  waits_once : (f : ℤ) (p : C → Bool) (q : List C) → AreHeads lt day lane events f p q → (x : C) → tally (same lt x) q ≤ 1
  waits_once f p q heads x =
      let h = heads x in
      elim (cases_Bool (is_head lt day lane events f p x)) [
        | inl is ↦ let e = rw is at h in omega (arith, e)
        | inr isnt ↦ let e = rw isnt at h in omega (arith, e)
      ]

  -- heads of one lane and one day are one
  alike_heads : (f : ℤ) (p : C → Bool) (x y : C) → is_head lt day lane events f p x ≡ true → is_head lt day lane events f p y ≡ true
      → lane x ≡ lane y → day x ≡ day y → x ≡ y
  alike_heads f p x y hx hy l d =
      let a = (head-found o ls f p x hx).1 in
      let b = (head-found o ls f p y hy).1 in
      let a2 = rw (l, d) at a in
      cc

  -- no more wait than the lanes times the days that can hold events at one instant
  pub held_bound : (f : ℤ) (p : C → Bool) (q : List C) (x0 : ℤ) → AreHeads lt day lane events f p q
      → Each (λ y. x0 ≤ℤ instant y) q → Each (λ y. (day y *ℤ pos 86_400) ≤ℤ (x0 +ℤ pos 93_599)) q
      → length q ≤ count * ((latest + 187_198) / 86_400 + 1)
  held_bound f p [] x0 heads low high = omega arith
  held_bound f p (c ∷ r) x0 heads low high =
      let q = c ∷ r in
      let w = (latest + 187_198) / 86_400 + 1 in
      let least = least_day day c r in
      let d0 = least.0 in
      let first = least.1.0 in
      let distance : C → ℕ = λ y. unsigned_abs (day y -ℤ d0) in
      let of_head = waits-head f p q heads in
      let first_head = head-found o ls f p first (of_head first least.1.1) in
      let first_in = find-in p _ first first_head.1 in
      let first_late = ls.late (lane first) (day first) first first_in in
      let first_low = Each-in (λ y. x0 ≤ℤ instant y) q first low least.1.1 in
      let inside : (y : C) → In y q → distance y < w = λ y there.
      let up = Each-in (λ y. d0 ≤ℤ day y) q y least.2 there in
      let down = Each-in (λ y. (day y *ℤ pos 86_400) ≤ℤ (x0 +ℤ pos 93_599)) q y high there in
      within_width latest x0 d0 (day y) (instant first) up down (rw least.1.2 at first_late) first_low in
      let lanes : Each (λ y. (true ≡ true) → lane y < count) q = each_in (λ y. (true ≡ true) → lane y < count) q (λ y there _.
      let h = head-found o ls f p y (of_head y there) in
      lane_below count (lane y) (λ past. let none = ls.few (lane y) (day y) past in let at = find-in p _ y h.1 in rw none at at)) in
      let one : (i k : ℕ) → tally (λ y. (true && (lane y == i)) && (distance y == k)) q ≤ 1 = λ i k.
      one_each o (λ y. (true && (lane y == i)) && (distance y == k)) q (λ x y a b px py.
      let sx = and_parts (lane x == i) (distance x == k) px in
      let sy = and_parts (lane y == i) (distance y == k) py in
      let lx = eqb-true (lane x) i sx.0 in
      let ly = eqb-true (lane y) i sy.0 in
      let kx = eqb-true (distance x) k sx.1 in
      let ky = eqb-true (distance y) k sy.1 in
      let ux = Each-in (λ y. d0 ≤ℤ day y) q x least.2 a in
      let uy = Each-in (λ y. d0 ≤ℤ day y) q y least.2 b in
      alike_heads f p x y (of_head x a) (of_head y b) (lx ∙ sym ly) (same_distance d0 (day x) (day y) ux uy (kx ∙ sym ky)))
      (waits_once f p q heads) in
      let each_lane : (i : ℕ) → tally (λ y. true && (lane y == i)) q ≤ w = λ i.
      let t = pigeons (λ y. true && (lane y == i)) distance w 1 q (each_in (λ y. (true && (lane y == i)) ≡ true → distance y < w) q (λ y there _. inside y there)) (one i) in
      omega (arith, t) in
      let all = pigeons (λ _. true) lane count w q lanes each_lane in
      rw (← tally-all q) all
