-- How far a test of days goes on without two weeks in a row on which it fails.
use Rattle.std.specs.Prelude.{◌≡◌, ◌<◌, ℕ, Bool, true, false, ℤ, pos, ◌+ℤ◌, ◌-ℤ◌, ◌<ℤ◌, ◌≤ℤ◌}

-- from a day that passes to the day after another one, and no two weeks begin between them of which no day passes
pub record GoesOn (test : ℤ → Bool) (from after : ℤ) : Type 0 where
  pub later : from <ℤ after
  pub passes : test (after -ℤ pos 1) ≡ true
  pub near : (d : ℤ) → from <ℤ d → d <ℤ after → (k : ℕ) × (k < 14) × (test (d +ℤ pos k) ≡ true)

-- a later day that passes, two weeks later at most
pub record IsNear (test : ℤ → Bool) (day next : ℤ) : Type 0 where
  pub later : day <ℤ next
  pub soon : next ≤ℤ (day +ℤ pos 14)
  pub passes : test next ≡ true

-- no day of two weeks from this one on passes
abbrev pub RestsFrom : (ℤ → Bool) → ℤ → Type 0
RestsFrom test from = (d : ℤ) → from ≤ℤ d → d <ℤ (from +ℤ pos 14) → test d ≡ false
