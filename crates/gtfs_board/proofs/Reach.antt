use Rattle.std.proofs.Common.{◌≡◌, ◌+◌, ◌≤◌, Bool, true, false, List, [], ◌∷◌, inl, inr, refl, sym, ◌∙◌, ap, arith}
use Rattle.std.specs.Prelude.{ℤ, pos, ◌+ℤ◌, ◌*ℤ◌, int_lt, int_le, ◌<ℤ◌, ◌≤ℤ◌}
use Rattle.std.proofs.lemmas.Int.{ints}
use Rattle.std.proofs.lemmas.Bool.{cases_Bool, and_parts, and_from}
use Rattle.gtfs_field.proofs.NumberFacts.{cases_int, int_le-true, int_lt-true, le-int_le, lt-int_lt}
use Rattle.gtfs_runs.specs.Tallies.{tally}
use Rattle.gtfs_board.specs.upcoming.QueueOrder.{In, Each}
use Rattle.gtfs_board.specs.Board.{may_be_opened}
use Rattle.gtfs_board.specs.upcoming.OpenedLanes.{is_opened}
use Rattle.gtfs_board.proofs.Window.{tally-weaker, each_in}
use Rattle.gtfs_board.proofs.Ints.{le-int_lt}
use Rattle.gtfs_board.proofs.Orders.{Each-in as Each_at}

opened_since : (f d : ℤ) → (f ≤ℤ d → ⊥) → int_lt d f ≡ true
opened_since f d h = elim (cases_int d f) [ inl a ↦ lt-int_lt d f a | inr b ↦ absurd (h b) ]

-- of two tests the second passes one more
pub tally-one_more : {C : Type 0} (p q : C → Bool) (xs : List C) (a : C) → Each (λ x. p x ≡ true → q x ≡ true) xs → In a xs → p a ≡ false → q a ≡ true → tally p xs + 1 ≤ tally q xs
tally-one_more p q [] a h here isnt is = absurd here
tally-one_more p q (x ∷ xs) a h here isnt is = elim here [
  | inl e ↦
      let px : p x ≡ false = ap p (sym e) ∙ isnt in
      let qx : q x ≡ true = ap q (sym e) ∙ is in
      let rest = tally-weaker p q xs h.1 in
      rw (px, qx) (omega (arith, rest))
  | inr later ↦
      let rest = tally-one_more p q xs a h.1 later isnt is in
      elim (cases_Bool (p x)) [
        | inl px ↦ let qx = h.0 px in rw (px, qx) (omega (arith, rest))
        | inr px ↦ rw px (omega (arith, rest))
      ]
]

-- the next day is opened, which may lower the least, and the days after it up to the next are passed over
pub one_opened : (low f g t u : ℤ) (days : List ℤ) → In f days → low ≤ℤ (f *ℤ pos 86_400) → f <ℤ g → u ≤ℤ t → (f *ℤ pos 86_400) ≤ℤ (u +ℤ pos 93_599)
    → tally (is_opened low f t) days + 1 ≤ tally (is_opened low g u) days
one_opened low f g t u days there above next falls within =
    tally-one_more (is_opened low f t) (is_opened low g u) days f
    (each_in (λ d. is_opened low f t d ≡ true → is_opened low g u d ≡ true) days (λ d _ h.
    let a = and_parts (int_lt d f) (may_be_opened low t d) h in
    let before = int_lt-true d f a.0 in
    let b = and_parts (int_le low (d *ℤ pos 86_400)) (int_le (d *ℤ pos 86_400) (t +ℤ pos 93_599)) a.1 in
    and_from _ _ (lt-int_lt d g (omega (arith, ints, before, next))) (and_from _ _ b.0 (le-int_le (d *ℤ pos 86_400) (u +ℤ pos 93_599) (omega (arith, ints, before, within))))))
    there
    (let no : int_lt f f ≡ false = le-int_lt f f (omega (arith, ints)) in rw no refl)
    (and_from _ _ (lt-int_lt f g next) (and_from _ _ (le-int_le _ _ above) (le-int_le _ _ within)))

-- where every unopened day lies above x, the days that may have been opened at x are opened, whatever the higher mark
pub reached-opened : (low f x t : ℤ) (days : List ℤ) → x ≤ℤ t → Each (λ d. f ≤ℤ d → (x +ℤ pos 93_599) <ℤ (d *ℤ pos 86_400)) days
    → tally (may_be_opened low x) days ≤ tally (is_opened low f t) days
reached-opened low f x t days below above = tally-weaker (may_be_opened low x) (is_opened low f t) days
    (each_in (λ d. may_be_opened low x d ≡ true → is_opened low f t d ≡ true) days (λ d there h.
    let a = and_parts (int_le low (d *ℤ pos 86_400)) (int_le (d *ℤ pos 86_400) (x +ℤ pos 93_599)) h in
    let most = int_le-true (d *ℤ pos 86_400) (x +ℤ pos 93_599) a.1 in
    let here = Each_at (λ d. f ≤ℤ d → (x +ℤ pos 93_599) <ℤ (d *ℤ pos 86_400)) days d above there in
    and_from _ _ (opened_since f d (λ past. let high = here past in omega (arith, ints, most, high))) (and_from _ _ a.0 (le-int_le (d *ℤ pos 86_400) (t +ℤ pos 93_599) (omega (arith, ints, most, below))))))

pub opened-reached : (low f x : ℤ) (days : List ℤ) → tally (is_opened low f x) days ≤ tally (may_be_opened low x) days
opened-reached low f x days = tally-weaker (is_opened low f x) (may_be_opened low x) days
    (each_in (λ d. is_opened low f x d ≡ true → may_be_opened low x d ≡ true) days (λ d _ h. (and_parts (int_lt d f) (may_be_opened low x d) h).1))
