-- Rows by a number for their trip and sequence.
use Rattle.std.proofs.Common.{◌≡◌, ◌∙◌, ◌<◌, ◌≤◌, ◌+◌, ◌*◌, ◌^◌, ◌⊎◌, ℕ, ap, arith, inl, inr, refl, sym}
use Rattle.std.specs.Prelude.{nat_lt}
use Rattle.std.specs.Cmp.{nat_cmp_is}
use Rattle.std.specs.Ordering.{nat_cmp, ordering_then}
use Rattle.std.specs.declared.cmp.Ordering.{Ordering}
use Rattle.std.specs.declared.cmp.Ordering.TheVariants.{Less, Equal, Greater}
use Rattle.std.proofs.Math.Nat.{eq-or-lt_of_le}
use Rattle.std.proofs.lemmas.Bool.{cases_Bool}
use Rattle.std.proofs.lemmas.Bool.Decides.{nat_tests}
use Rattle.gtfs_field.proofs.NumberFacts.{int_cmp-pos}
use Rattle.gtfs_stop_times.specs.StopTimeOrder.{kept_cmp, rank}
use Rattle.gtfs_stop_times.specs.declared.stop_time.StopTime.{StopTime}

-- two numbers stand in one of three ways
ways : (a b : ℕ) → (a < b) ⊎ ((a ≡ b) ⊎ (b < a))
ways a b = elim (cases_Bool (nat_lt a b)) [
  | inl below ↦ inl (grind (arith, nat_tests, below))
  | inr over ↦
      let reaches : b ≤ a = grind (arith, nat_tests, over) in
      elim (eq-or-lt_of_le reaches) [
        | inl same ↦ inr (inl (sym same))
        | inr above ↦ inr (inr above)
      ]
]

-- a comparison of numbers to which the same is added
moved_cmp : (n a b : ℕ) → nat_cmp (n + a) (n + b) ≡ nat_cmp a b
moved_cmp n a b = elim (ways a b) [
  | inl below ↦ sym (nat_cmp_is (n + a) (n + b) Less (omega (arith, below))) ∙ nat_cmp_is a b Less below
  | inr rest ↦ elim rest [
    | inl same ↦ sym (nat_cmp_is (n + a) (n + b) Equal (ap (λ m. n + m) same)) ∙ nat_cmp_is a b Equal same
    | inr above ↦ sym (nat_cmp_is (n + a) (n + b) Greater (omega (arith, above))) ∙ nat_cmp_is a b Greater above
  ]
]

-- numbers of two digits, whose lower ones are below the base
digits_cmp : (a b c d : ℕ) → b < 2 ^ 32 → d < 2 ^ 32 → nat_cmp (a * 2 ^ 32 + b) (c * 2 ^ 32 + d) ≡ ordering_then (nat_cmp a c) (nat_cmp b d)
digits_cmp a b c d low high = elim (ways a c) [
  | inl below ↦ sym (nat_cmp_is (a * 2 ^ 32 + b) (c * 2 ^ 32 + d) Less (omega (arith, below, low, high))) ∙ ap (λ r. ordering_then r (nat_cmp b d)) (nat_cmp_is a c Less below)
  | inr rest ↦ elim rest [
    | inl same ↦ ap (λ n. nat_cmp (a * 2 ^ 32 + b) (n * 2 ^ 32 + d)) (sym same) ∙ moved_cmp (a * 2 ^ 32) b d ∙ ap (λ r. ordering_then r (nat_cmp b d)) (nat_cmp_is a c Equal same)
    | inr above ↦ sym (nat_cmp_is (a * 2 ^ 32 + b) (c * 2 ^ 32 + d) Greater (omega (arith, above, low, high))) ∙ ap (λ r. ordering_then r (nat_cmp b d)) (nat_cmp_is a c Greater above)
  ]
]

then_later : (r s t : Ordering) → ordering_then (ordering_then r s) t ≡ ordering_then r (ordering_then s t)
then_later Less s t = refl
then_later Equal s t = refl
then_later Greater s t = refl

-- a comparison by rank and by row is the one by trip, sequence and row
pub by_rank : (x y : StopTime) → x.stop_row.stop_sequence < 2 ^ 32 → y.stop_row.stop_sequence < 2 ^ 32 → ordering_then (nat_cmp (rank x) (rank y)) (nat_cmp x.row y.row) ≡ kept_cmp x y
by_rank x y low high =
    ap (λ r. ordering_then r (nat_cmp x.row y.row)) (digits_cmp x.trip x.stop_row.stop_sequence y.trip y.stop_row.stop_sequence low high)
    ∙ then_later (nat_cmp x.trip y.trip) (nat_cmp x.stop_row.stop_sequence y.stop_row.stop_sequence) (nat_cmp x.row y.row)
    ∙ ap (λ r. ordering_then (nat_cmp x.trip y.trip) (ordering_then r (nat_cmp x.row y.row))) (sym (int_cmp-pos x.stop_row.stop_sequence y.stop_row.stop_sequence))
