-- The service days, one by one.
use Rattle.std.proofs.Common.{◌≡◌, ◌+◌, ℕ, zero, suc, ℤ, List, map, refl, sym, ap, subst, inl, inr, arith}
use Rattle.std.specs.Prelude.{pos, ◌+ℤ◌, ◌<ℤ◌, ◌≤ℤ◌}
use Rattle.std.specs.List.{range_with_len}
use Rattle.std.proofs.lemmas.Int.{ints}
use Rattle.gtfs_field.proofs.NumberFacts.{cases_int}
use Rattle.gtfs_days.specs.Service.{first_service_day, last_service_day, service_day_count, service_days}
use Rattle.gtfs_board.specs.upcoming.QueueOrder.{In}

abbrev days_from : ℤ → ℕ → ℕ → List ℤ
days_from first a n = map (λ i. first +ℤ pos i) (range_with_len a n)

in_days : (first : ℤ) (a n : ℕ) (d : ℤ) → (first +ℤ pos a) ≤ℤ d → d <ℤ (first +ℤ pos (a + n)) → In d (days_from first a n)
in_days first a zero d from to = absurd (omega (arith, ints, from, to))
in_days first a (suc n) d from to = elim (cases_int (first +ℤ pos a) d) [
  | inl later ↦ inr (in_days first (a + 1) n d (omega (arith, ints, later)) (omega (arith, ints, to)))
  | inr upto ↦ inl (omega (arith, ints, from, upto))
]

days_in : (first : ℤ) (a n : ℕ) (d : ℤ) → In d (days_from first a n) → ((first +ℤ pos a) ≤ℤ d) × (d <ℤ (first +ℤ pos (a + n)))
days_in first a zero d here = absurd here
days_in first a (suc n) d here = elim here [
  | inl e ↦ (omega (arith, ints, e), omega (arith, ints, e))
  | inr later ↦ let r = days_in first (a + 1) n d later in (omega (arith, ints, r.0), omega (arith, ints, r.1))
]

-- the number of days stays a variable, so that none of them is computed
days_are : (n : ℕ) → n ≡ service_day_count → days_from first_service_day 0 n ≡ service_days
unfolding service_days
days_are n e = ap (days_from first_service_day 0) e

listed : (n : ℕ) → n ≡ service_day_count → (d : ℤ) → first_service_day ≤ℤ d → d ≤ℤ last_service_day → In d service_days
listed n e d from to = subst (In d) (days_are n e) (in_days first_service_day 0 n d (omega (arith, ints, from)) (omega (arith, ints, to, e)))

within : (n : ℕ) → n ≡ service_day_count → (d : ℤ) → In d service_days → (first_service_day ≤ℤ d) × (d ≤ℤ last_service_day)
within n e d there =
    let r = days_in first_service_day 0 n d (subst (In d) (sym (days_are n e)) there) in
    (omega (arith, ints, r.0), omega (arith, ints, r.1, e))

pub day_listed : (d : ℤ) → first_service_day ≤ℤ d → d ≤ℤ last_service_day → In d service_days
day_listed = listed service_day_count refl

pub day_within : (d : ℤ) → In d service_days → d ≤ℤ last_service_day
day_within d there = (within service_day_count refl d there).1
