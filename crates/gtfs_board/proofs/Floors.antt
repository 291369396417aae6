-- Which departures lie above a floor.
use Rattle.std.proofs.Common.{◌≡◌, ◌<◌, ℕ, ℤ, ◌&&◌, Bool, false, List, length, Some, None, refl, sym, ap, ◌∙◌, inl, inr, arith}
use Rattle.std.specs.Prelude.{bytes_eq, int_le, nat_lt, ◌<ℤ◌, ◌≤ℤ◌}
use Rattle.std.specs.Cmp.{int_cmp_is, nat_cmp_is}
use Rattle.std.specs.Ordering.{int_cmp, is_lt, nat_cmp, ordering_then}
use Rattle.std.specs.declared.cmp.Ordering.{Ordering}
use Rattle.std.specs.declared.cmp.Ordering.TheVariants.{Less, Equal, Greater}
use Rattle.std.proofs.lemmas.Bool.{cases_Bool}
use Rattle.std.proofs.lemmas.Int.{ints}
use Rattle.std.proofs.Math.Bool.{and-false as and_false, and-true as and_true}
use Rattle.gtfs_field.proofs.NumberFacts.{cases_int, int_le-true, le-int_le}
use Rattle.gtfs_runs.proofs.TripIds.{between, same_firsts, then_less}
use Rattle.gtfs_rows.specs.TransferOrder.{Ascends}
use Rattle.gtfs_rows.specs.RowsInMemory.{text_of_number}
use Rattle.gtfs_field.specs.TextOrder.{text_cmp}
use Rattle.gtfs_board.specs.CandidateKeys.{key_among}
use Rattle.gtfs_rows.specs.Departures.{is_above}
use Rattle.gtfs_rows.specs.Key.{Key, key_cmp}
use Rattle.gtfs_board.specs.declared.upcoming.candidate.Candidate.{Candidate}
use Rattle.gtfs_board.specs.upcoming.Candidates.{candidate_lt, departure_cmp, lane_cmp}
use Rattle.gtfs_board.proofs.CandidateKeys.{compares}

-- ---- a floor before the departures of an instant from a trip on

pub tail_less : (m n : ℕ) (a b : ℤ) → a <ℤ b → ordering_then (nat_cmp 0 m) (ordering_then (nat_cmp 0 n) (int_cmp a b)) ≡ Less
tail_less m n a b less = rw (← int_cmp_is a b Less less, then_less n) (then_less m)

less_first : (a t l : Ordering) → is_lt (ordering_then (ordering_then a (ordering_then t Less)) l) ≡ is_lt (ordering_then a (ordering_then t Less))
less_first Less t l = refl
less_first Greater t l = refl
less_first Equal Less l = refl
less_first Equal Equal l = refl
less_first Equal Greater l = refl

pub before_lt : (floor c : Candidate) → floor.run ≡ 0 → floor.sequence ≡ 0 → floor.day <ℤ c.day
    → candidate_lt floor c ≡ is_lt (ordering_then (int_cmp floor.instant c.instant) (ordering_then (nat_cmp floor.trip c.trip) Less))
before_lt floor c run sequence day =
    let tail = (λ i. ordering_then (nat_cmp (run i) c.run) (ordering_then (nat_cmp (sequence i) c.sequence) (int_cmp floor.day c.day))) ∙ tail_less c.run c.sequence floor.day c.day day in
    (λ i. is_lt (ordering_then (ordering_then (int_cmp floor.instant c.instant) (ordering_then (nat_cmp floor.trip c.trip) (tail i))) (lane_cmp floor c)))
    ∙ less_first (int_cmp floor.instant c.instant) (nat_cmp floor.trip c.trip) (lane_cmp floor c)

-- from the first trip on
pub from_first : (x i : ℤ) (n : ℕ) → is_lt (ordering_then (int_cmp x i) (ordering_then (nat_cmp 0 n) Less)) ≡ int_le x i
from_first x i n = elim (cases_int x i) [
  | inl less ↦ rw (← int_cmp_is x i Less less) (sym (le-int_le x i (omega (arith, ints, less))))
  | inr from ↦ elim (cases_int i x) [
    | inl more ↦ rw (← int_cmp_is x i Greater more) (sym (not_le x i more))
    | inr upto ↦ rw (← int_cmp_is x i Equal (omega (arith, ints, from, upto)), then_less n) (sym (le-int_le x i upto))
  ]
]
  where
    not_le : (x i : ℤ) → i <ℤ x → int_le x i ≡ false
    not_le x i h = grind (arith, ints)

-- ---- from an instant on, and above a key

pub above_none : (from : ℤ) (c : Key) → (int_le from c.instant && is_above None c) ≡ int_le from c.instant
above_none from c = and_true (int_le from c.instant)

pub above_before : (from : ℤ) (k c : Key) → k.instant <ℤ from → (int_le from c.instant && is_above (Some k) c) ≡ int_le from c.instant
above_before from k c before = elim (cases_Bool (int_le from c.instant)) [
  | inl since ↦
      let low = int_le-true from c.instant since in
      rw (since, ← int_cmp_is k.instant c.instant Less (omega (arith, ints, low, before))) refl
  | inr earlier ↦ rw earlier refl
]

pub above_after : (from : ℤ) (k c : Key) → from ≤ℤ k.instant → (int_le from c.instant && is_above (Some k) c) ≡ is_lt (key_cmp k c)
above_after from k c since = elim (cases_int c.instant k.instant) [
  | inl less ↦ rw (← int_cmp_is k.instant c.instant Greater less) (and_false (int_le from c.instant))
  | inr upto ↦ rw (le-int_le from c.instant (omega (arith, ints, since, upto))) refl
]

-- ---- the floor of a key whose trip the feed has

greater_last : (r s : Ordering) → is_lt (ordering_then r (ordering_then Greater s)) ≡ is_lt r
greater_last Less s = refl
greater_last Equal s = refl
greater_last Greater s = refl

pub after_lt : (ids : List (List ℕ)) (floor c : Candidate) (k : Key) → Ascends text_cmp ids → floor.trip < length ids → c.trip < length ids → key_among ids floor ≡ k → c.lane < floor.lane
    → candidate_lt floor c ≡ is_lt (key_cmp k (key_among ids c))
after_lt ids floor c k up floor_in c_in is past =
    let keys = compares ids floor c up floor_in c_in in
    let lanes : nat_cmp floor.lane c.lane ≡ Greater = sym (nat_cmp_is floor.lane c.lane Greater past) in
    (λ i. is_lt (ordering_then (departure_cmp floor c) (ordering_then (lanes i) (ordering_then (nat_cmp floor.row c.row) (nat_cmp floor.at c.at)))))
    ∙ greater_last (departure_cmp floor c) (ordering_then (nat_cmp floor.row c.row) (nat_cmp floor.at c.at))
    ∙ ap is_lt keys ∙ ap (λ (x : Key). is_lt (key_cmp x (key_among ids c))) is

-- ---- the floor of a key whose trip the feed does not have

pub absent_lt : (ids : List (List ℕ)) (c : Candidate) (k : Key) (t : ℕ) (r : Bool) → r ≡ is_lt (ordering_then (int_cmp k.instant c.instant) (ordering_then (nat_cmp t c.trip) Less))
    → nat_lt c.trip t ≡ is_lt (text_cmp (text_of_number ids c.trip) k.trip) → bytes_eq k.trip (text_of_number ids c.trip) ≡ false
    → r ≡ is_lt (key_cmp k (key_among ids c))
absent_lt ids c k t r is below other =
    let b = between k.trip ids t c.trip below other in
    is ∙ same_firsts (int_cmp k.instant c.instant) (ordering_then (nat_cmp t c.trip) Less) (text_cmp k.trip (text_of_number ids c.trip))
    (ordering_then (nat_cmp k.run c.run) (ordering_then (nat_cmp k.sequence c.sequence) (int_cmp k.day c.day))) b.0 b.1
