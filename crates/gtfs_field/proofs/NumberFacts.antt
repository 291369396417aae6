-- Tests of numbers, and what they say; ones with signs below.
use Rattle.std.proofs.Common.{◌≡◌, ◌==◌, ◌<◌, ◌≤◌, ◌⊎◌, ℕ, suc, true, false, ℤ, pos, negsuc, ◌-ℤ◌, ◌<ℤ◌, ◌≤ℤ◌, int_cmp, int_eq, int_le, int_lt, nat_lt, unsigned_abs, refl, inl, inr, arith}
use Rattle.std.specs.Ordering.{nat_cmp}
use Rattle.std.proofs.lemmas.Bool.{cases_Bool, eq-eqb, ltb-false}
use Rattle.std.proofs.lemmas.Bool.Decides.{nat_tests}
use Rattle.std.proofs.lemmas.Int.{ints}

pub number_itself : (a : ℕ) → (a == a) ≡ true
number_itself a = eq-eqb a a refl

pub suc-not_zero : (n : ℕ) → (suc n == 0) ≡ false
suc-not_zero n = grind (arith, nat_tests)

pub one_way : (m n : ℕ) → nat_lt m n ≡ true → nat_lt n m ≡ false
one_way m n below = grind (arith, nat_tests, below)

pub neither_less : (a b : ℕ) → nat_lt a b ≡ false → nat_lt b a ≡ false → a ≡ b
neither_less a b p q = omega (arith, ltb-false a b p, ltb-false b a q)

pub cases_up_to : (i j : ℕ) → i ≤ j → (i < j) ⊎ (i ≡ j)
cases_up_to i j h = grind arith

-- ---- with signs

pub int_eq-true : (a b : ℤ) → int_eq a b ≡ true → a ≡ b
int_eq-true a b h = grind (arith, ints)

pub eq-int_eq : (a b : ℤ) → a ≡ b → int_eq a b ≡ true
eq-int_eq a b h = grind (arith, ints)

pub int_eq_flips : (a b : ℤ) → int_eq a b ≡ int_eq b a
int_eq_flips a b = grind (arith, ints)

pub int_lt-true : (a b : ℤ) → int_lt a b ≡ true → a <ℤ b
int_lt-true a b h = grind (arith, ints)

pub int_lt-false : (a b : ℤ) → int_lt a b ≡ false → b ≤ℤ a
int_lt-false a b h = grind (arith, ints)

pub lt-int_lt : (a b : ℤ) → a <ℤ b → int_lt a b ≡ true
lt-int_lt a b h = grind (arith, ints)

pub int_le-true : (a b : ℤ) → int_le a b ≡ true → a ≤ℤ b
int_le-true a b h = grind (arith, ints)

pub le-int_le : (a b : ℤ) → a ≤ℤ b → int_le a b ≡ true
le-int_le a b h = grind (arith, ints)

pub cases_int : (a b : ℤ) → (a <ℤ b) ⊎ (b ≤ℤ a)
cases_int a b = elim (cases_Bool (int_lt a b)) [ inl h ↦ inl (int_lt-true a b h) | inr h ↦ inr (int_lt-false a b h) ]

pub abs-pos : (z : ℤ) → pos 0 ≤ℤ z → pos (unsigned_abs z) ≡ z
abs-pos (pos n) from = refl
abs-pos (negsuc n) from = absurd (omega (arith, ints))

-- how far a number lies above another
pub abs-above : (a b : ℤ) → b ≤ℤ a → pos (unsigned_abs (a -ℤ b)) ≡ a -ℤ b
abs-above a b h = grind (arith, ints)

pub int_cmp-pos : (a b : ℕ) → int_cmp (pos a) (pos b) ≡ nat_cmp a b
int_cmp-pos a b = grind (arith, nat_tests)
