-- How a test of days goes on, from one day that passes to the next.
use Rattle.std.proofs.Common.{◌≡◌, ◌∙◌, ◌<◌, ℕ, Bool, true, ℤ, pos, ◌+ℤ◌, ◌-ℤ◌, ◌<ℤ◌, ◌≤ℤ◌, unsigned_abs, ap, inl, inr, arith}
use Rattle.jiff_core.proofs.SignedLemmas.{signed_arith}
use Rattle.gtfs_field.proofs.NumberFacts.{abs-above, cases_int}
use Rattle.gtfs_advice.specs.ServiceSeasons.{GoesOn, IsNear}

-- the day before the one after a day is that day
before_after : (d : ℤ) → (d +ℤ pos 1) -ℤ pos 1 ≡ d
before_after d = omega (arith, signed_arith)

-- a day that passes lies some days after an earlier one
pub ahead : (test : ℤ → Bool) (d next : ℤ) (n : ℕ) → d ≤ℤ next → next <ℤ (d +ℤ pos n) → test next ≡ true → (k : ℕ) × (k < n) × (test (d +ℤ pos k) ≡ true)
ahead test d next n before within passes =
    let k = unsigned_abs (next -ℤ d) in
    let far : pos k ≡ next -ℤ d = abs-above next d before in
    let there : d +ℤ pos k ≡ next = omega (arith, signed_arith, far) in
    (k, omega (arith, signed_arith, far), ap test there ∙ passes)

pub starts : (test : ℤ → Bool) (from : ℤ) → test from ≡ true → GoesOn test from (from +ℤ pos 1)
starts test from passes = record {
  later = omega (arith, signed_arith);
  passes = ap test (before_after from) ∙ passes;
  near = λ d after before. absurd (omega (arith, signed_arith));
}

pub goes_further : (test : ℤ → Bool) (from last next : ℤ) → GoesOn test from (last +ℤ pos 1) → IsNear test last next → GoesOn test from (next +ℤ pos 1)
goes_further test from last next so_far near = record {
  later = omega (arith, signed_arith, so_far.later, near.later);
  passes = ap test (before_after next) ∙ near.passes;
  near = λ d after before. elim (cases_int last d) [
    | inl further ↦ ahead test d next 14 (omega (arith, signed_arith)) (omega (arith, signed_arith, near.soon)) near.passes
    | inr earlier ↦ so_far.near d after (omega (arith, signed_arith))
  ];
}
