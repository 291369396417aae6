-- The position at which a lane is asked for what lies above a floor.
use Rattle.std.proofs.Common.{◌≡◌, ◌<◌, ◌^◌, ℕ, ℤ, refl, sym, ap, ◌∙◌, inl, inr, w64, arith}
use Rattle.std.specs.Prelude.{min, ◌-◌, pos, negsuc, ◌+ℤ◌, ◌-ℤ◌, ◌<ℤ◌, ◌≤ℤ◌}
use Rattle.std.specs.Int.{saturate_signed}
use Rattle.std.proofs.lemmas.Bool.{cases_order}
use Rattle.std.proofs.lemmas.Int.{ints}
use Rattle.std.specs.Cmp.{nat_cmp_is, int_cmp_is}
use Rattle.std.specs.Ordering.{nat_cmp, int_cmp, is_lt, ordering_then}
use Rattle.std.specs.declared.cmp.Ordering.{Ordering}
use Rattle.std.specs.declared.cmp.Ordering.TheVariants.{Less, Equal, Greater}
use Rattle.gtfs_field.proofs.NumberFacts.{cases_int}
use Rattle.gtfs_runs.specs.EventOrder.{is_above_moment}
use Rattle.gtfs_runs.specs.declared.event.Event.{Event}
use Rattle.gtfs_runs.specs.declared.moment.Moment.{Moment}
use Rattle.gtfs_board.specs.LaneDays.{departing}
use Rattle.gtfs_board.specs.declared.upcoming.candidate.Candidate.{Candidate}
use Rattle.gtfs_board.specs.upcoming.Candidates.{candidate_lt, lane_cmp}
use Rattle.gtfs_board.proofs.Ints.{cases_same_int}

-- what decides last decides alike
last_alike : (a b c d s y l : Ordering) → is_lt d ≡ is_lt (ordering_then (ordering_then s y) l)
    → is_lt (ordering_then a (ordering_then b (ordering_then c d)))
    ≡ is_lt (ordering_then (ordering_then a (ordering_then b (ordering_then c (ordering_then s y)))) l)
last_alike Less b c d s y l h = refl
last_alike Greater b c d s y l h = refl
last_alike Equal Less c d s y l h = refl
last_alike Equal Greater c d s y l h = refl
last_alike Equal Equal Less d s y l h = refl
last_alike Equal Equal Greater d s y l h = refl
last_alike Equal Equal Equal d s y l h = h

-- on a later day the sequence of the floor lies above it
pub later_day : (s q : ℕ) (x d at : ℤ) (l : Ordering) → x <ℤ d → at ≡ pos s -ℤ pos 1
    → is_lt (int_cmp at (pos q)) ≡ is_lt (ordering_then (ordering_then (nat_cmp s q) (int_cmp x d)) l)
later_day s q x d at l later is = elim (cases_order s q) [
  | inl same ↦ rw (← int_cmp_is at (pos q) Less (omega (arith, ints, same, is)), ← nat_cmp_is s q Equal same, ← int_cmp_is x d Less later) refl
  | inr (inl less) ↦ rw (← int_cmp_is at (pos q) Less (omega (arith, ints, less, is)), ← nat_cmp_is s q Less less) refl
  | inr (inr more) ↦ elim (cases_same_int at (pos q)) [
    | inl e ↦ rw (← int_cmp_is at (pos q) Equal e, ← nat_cmp_is s q Greater more) refl
    | inr apart ↦ elim (cases_int at (pos q)) [
      | inl below ↦ absurd (omega (arith, ints, more, is, below))
      | inr above ↦ elim (cases_int (pos q) at) [
        | inl up ↦ rw (← int_cmp_is at (pos q) Greater up, ← nat_cmp_is s q Greater more) refl
        | inr down ↦ absurd (apart (omega (arith, ints, above, down)))
      ]
    ]
  ]
]

-- on its own day and before it does not, where the floor belongs to a later lane
pub same_day : (s q f i : ℕ) (x d at : ℤ) (l : Ordering) → d ≤ℤ x → i < f → at ≡ pos s
    → is_lt (int_cmp at (pos q)) ≡ is_lt (ordering_then (ordering_then (nat_cmp s q) (int_cmp x d)) (ordering_then (nat_cmp f i) l))
same_day s q f i x d at l since inside is = elim (cases_order s q) [
  | inl same ↦ elim (cases_int d x) [
    | inl past ↦ rw (← int_cmp_is at (pos q) Equal (omega (arith, ints, same, is)), ← nat_cmp_is s q Equal same, ← int_cmp_is x d Greater past) refl
    | inr upto ↦ rw (← int_cmp_is at (pos q) Equal (omega (arith, ints, same, is)), ← nat_cmp_is s q Equal same, ← int_cmp_is x d Equal (omega (arith, ints, since, upto)), ← nat_cmp_is f i Greater inside) refl
  ]
  | inr (inl less) ↦ rw (← int_cmp_is at (pos q) Less (omega (arith, ints, less, is)), ← nat_cmp_is s q Less less) refl
  | inr (inr more) ↦ rw (← int_cmp_is at (pos q) Greater (omega (arith, ints, more, is)), ← nat_cmp_is s q Greater more) refl
]

pub apart_days : (a b : ℤ) → a <ℤ b → b ≤ℤ a → ⊥
apart_days a b less since = omega (arith, ints, less, since)

-- a number that is cut at the limits of 64 bits compares as it is with one of 32 bits
cut_same : (z at : ℤ) (n : ℕ) → at ≡ saturate_signed w64 z → n < 2 ^ 32 → int_cmp at (pos n) ≡ int_cmp z (pos n)
cut_same (pos m) at n is small =
    let cut : at ≡ pos (min m (2 ^ 63 - 1)) = is in
    elim (cases_order m n) [
      | inl same ↦ sym (int_cmp_is at (pos n) Equal (omega (arith, ints, cut, same, small))) ∙ int_cmp_is (pos m) (pos n) Equal (ap pos same)
      | inr (inl less) ↦ sym (int_cmp_is at (pos n) Less (omega (arith, ints, cut, less, small))) ∙ int_cmp_is (pos m) (pos n) Less (omega (arith, ints, less))
      | inr (inr more) ↦ sym (int_cmp_is at (pos n) Greater (omega (arith, ints, cut, more, small))) ∙ int_cmp_is (pos m) (pos n) Greater (omega (arith, ints, more))
    ]
cut_same (negsuc m) at n is small =
    let cut : at ≡ negsuc (min m (2 ^ 63 - 1)) = is in
    sym (int_cmp_is at (pos n) Less (omega (arith, ints, cut))) ∙ int_cmp_is (negsuc m) (pos n) Less (omega (arith, ints))

moved : (x o : ℤ) (n : ℕ) → int_cmp (x -ℤ o) (pos n) ≡ int_cmp x (o +ℤ pos n)
moved x o n = elim (cases_int x (o +ℤ pos n)) [
  | inl less ↦ sym (int_cmp_is (x -ℤ o) (pos n) Less (omega (arith, ints, less))) ∙ int_cmp_is x (o +ℤ pos n) Less less
  | inr from ↦ elim (cases_int (o +ℤ pos n) x) [
    | inl more ↦ sym (int_cmp_is (x -ℤ o) (pos n) Greater (omega (arith, ints, more))) ∙ int_cmp_is x (o +ℤ pos n) Greater more
    | inr upto ↦ sym (int_cmp_is (x -ℤ o) (pos n) Equal (omega (arith, ints, from, upto))) ∙ int_cmp_is x (o +ℤ pos n) Equal (omega (arith, ints, from, upto))
  ]
]

pub cut_alike : (x o at : ℤ) (n : ℕ) → at ≡ saturate_signed w64 (x -ℤ o) → n < 2 ^ 32 → int_cmp at (pos n) ≡ int_cmp x (o +ℤ pos n)
cut_alike x o at n is small = cut_same (x -ℤ o) at n is small ∙ moved x o n

-- a moment stands for a floor
pub stands_for : (floor : Candidate) (moment : Moment) (origin day : ℤ) (lane : ℕ) (e : Event) → e.at < 2 ^ 32
    → moment.at ≡ saturate_signed w64 (floor.instant -ℤ origin) → moment.trip.0 ≡ floor.trip → moment.run ≡ floor.run
    → is_lt (int_cmp moment.seq (pos e.seq)) ≡ is_lt (ordering_then (ordering_then (nat_cmp floor.sequence e.seq) (int_cmp floor.day day)) (lane_cmp floor (departing origin day lane e)))
    → is_above_moment moment e ≡ candidate_lt floor (departing origin day lane e)
stands_for floor moment origin day lane e small at trip run seq =
    let times = cut_alike floor.instant origin moment.at e.at at small in
    (λ i. is_lt (ordering_then (times i) (ordering_then (nat_cmp (trip i) e.trip.0) (ordering_then (nat_cmp (run i) e.run) (int_cmp moment.seq (pos e.seq))))))
    ∙ last_alike (int_cmp floor.instant (origin +ℤ pos e.at)) (nat_cmp floor.trip e.trip.0) (nat_cmp floor.run e.run) (int_cmp moment.seq (pos e.seq))
    (nat_cmp floor.sequence e.seq) (int_cmp floor.day day) (lane_cmp floor (departing origin day lane e)) seq
