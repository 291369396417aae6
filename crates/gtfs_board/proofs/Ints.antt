use Rattle.std.proofs.Common.{◌≡◌, ◌<◌, false, ◌⊎◌, inl, inr, arith, w32, to_z, of_z}
use Rattle.std.specs.Prelude.{ℤ, pos, ◌+ℤ◌, int_lt, ◌<ℤ◌, ◌≤ℤ◌, ◌-ℤ◌, unsigned_abs}
use Rattle.std.proofs.lemmas.Int.{ints, to_z-of_z}
use Rattle.gtfs_days.specs.Service.{first_service_day, last_service_day}
use Rattle.gtfs_field.proofs.NumberFacts.{abs-above, cases_int}

pub le-int_lt : (a b : ℤ) → b ≤ℤ a → int_lt a b ≡ false
le-int_lt a b h = grind (arith, ints)

pub cases_same_int : (a b : ℤ) → (a ≡ b) ⊎ (a ≡ b → ⊥)
cases_same_int a b = elim (cases_int a b) [
  | inl h ↦ inr (λ e. omega (arith, ints, e))
  | inr h ↦ elim (cases_int b a) [ inl k ↦ inr (λ e. omega (arith, ints, e)) | inr k ↦ inl (omega (arith, ints)) ]
]

pub closer : (top day next : ℤ) → day <ℤ next → next ≤ℤ top → unsigned_abs (top -ℤ next) < unsigned_abs (top -ℤ day)
closer top day next up to =
    let a = abs-above top day (omega (arith, ints, up, to)) in
    let b = abs-above top next to in
    omega (arith, ints, a, b, up)

pub up_more : (a b d : ℤ) → a ≤ℤ b → (b +ℤ pos 1) ≤ℤ d → a ≤ℤ d
up_more a b d h up = omega (arith, ints, h, up)

pub le_chain : (a b d : ℤ) → a ≤ℤ b → b ≤ℤ d → a ≤ℤ d
le_chain a b d h up = omega (arith, ints, h, up)

-- ---- days

-- the day after one of the days
pub day_after : (day : ℤ) → first_service_day ≤ℤ day → day ≤ℤ last_service_day → to_z w32 (of_z w32 (day +ℤ pos 1)) ≡ day +ℤ pos 1
day_after day from to = to_z-of_z w32 (day +ℤ pos 1) (omega (arith, ints, from, to))

pub after_within : (day last : ℤ) → day ≤ℤ last → (day +ℤ pos 1) ≤ℤ (last +ℤ pos 1)
after_within day last within = omega (arith, ints, within)

pub days_left : (last day next : ℤ) → (day +ℤ pos 1) ≤ℤ next → next ≤ℤ (last +ℤ pos 1)
    → unsigned_abs (last +ℤ pos 1 -ℤ next) < unsigned_abs (last +ℤ pos 1 -ℤ day)
days_left last day next up to = closer (last +ℤ pos 1) day next (omega (arith, ints, up)) to
