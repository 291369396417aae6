-- The first day that can hold an event at or above a low mark.
use Rattle.std.proofs.Common.{◌≡◌, ◌⊎◌, inl, inr, arith, w64, SFits}
use Rattle.std.specs.Prelude.{ℤ, pos, negsuc, ◌+ℤ◌, ◌-ℤ◌, ◌*ℤ◌, ◌≤ℤ◌, ◌<ℤ◌}
use Rattle.std.specs.Int.{int_max, int_min, int_div_euclid}
use Rattle.std.proofs.lemmas.Int.{ints, clamps}
use Rattle.gtfs_days.specs.Service.{first_service_day, last_service_day}
use Rattle.gtfs_field.proofs.NumberFacts.{cases_int}
use Rattle.gtfs_board.specs.upcoming.OpenedLanes.{IsFrom}

-- the day is the first at or after a low mark, and not before the first day or past the one after the last
pub record IsStartDay (low first last day : ℤ) : Type 0 where
  pub unopened : IsFrom low last day
  pub earlier : (d : ℤ) → d <ℤ day → (d <ℤ first) ⊎ ((d *ℤ pos 86_400) <ℤ low)

-- a quotient lies at or below its number, and less than one below
pub quotient : (x : ℤ) → ((int_div_euclid x (pos 86_400) *ℤ pos 86_400) ≤ℤ x) × (x <ℤ (int_div_euclid x (pos 86_400) *ℤ pos 86_400 +ℤ pos 86_400))
quotient (pos a) = (omega (arith, ints), omega (arith, ints))
quotient (negsuc a) = (omega (arith, ints), omega (arith, ints))

pub begun : (x q day : ℤ) → q ≡ int_div_euclid (x -ℤ pos 1) (pos 86_400) → day ≡ q +ℤ pos 1
    → (x ≤ℤ (day *ℤ pos 86_400)) × ((day *ℤ pos 86_400) <ℤ (x +ℤ pos 86_400))
begun x q day is next =
    let both = quotient (x -ℤ pos 1) in
    (omega (arith, ints, both.1, next, is), omega (arith, ints, both.0, next, is))

pub small_quotient : (x q : ℤ) → q ≡ int_div_euclid x (pos 86_400) → SFits w64 x → SFits w64 (q +ℤ pos 1)
small_quotient x q is fits =
    let both = quotient x in
    omega (arith, ints, both.0, both.1, fits, is)

pub start_day : (low q day : ℤ) → low ≤ℤ (q *ℤ pos 86_400) → (q *ℤ pos 86_400) <ℤ (low +ℤ pos 86_400)
    → day ≡ int_max first_service_day (int_min q (last_service_day +ℤ pos 1)) → IsStartDay low first_service_day last_service_day day
start_day low q day above below is = record {
  unopened = elim (cases_int last_service_day q) [
    | inl past ↦ inl (omega (arith, ints, clamps, past, is))
    | inr inside ↦ inr (omega (arith, ints, clamps, inside, is, above))
  ];
  earlier = λ d before. elim (cases_int d first_service_day) [
    | inl outside ↦ inl outside
    | inr since ↦ inr (omega (arith, ints, clamps, since, before, is, below))
  ];
}

pub day_within : (q day : ℤ) → day ≡ int_max first_service_day (int_min q (last_service_day +ℤ pos 1)) → (first_service_day ≤ℤ day) × (day ≤ℤ (last_service_day +ℤ pos 1))
day_within q day is = (omega (arith, ints, clamps, is), omega (arith, ints, clamps, is))
