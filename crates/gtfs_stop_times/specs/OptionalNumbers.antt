-- A number in four bytes of which the greatest value stands for none.
use Rattle.std.specs.Prelude.{◌≡◌, ◌==◌, ◌||◌, ℕ, Bool, IsTrue, true, false, nat_le, if◌then◌else◌, Option, Some, None, unwrap_or, refl}
use mathlib.Core.Path.{sym}
use Rattle.std.proofs.lemmas.Bool.{eqb-true}

abbrev pub nothing : ℕ
nothing = 4_294_967_295

abbrev pub number_if_any : ℕ → Option ℕ
number_if_any n = if n == nothing then None else Some n

-- seconds of a service day, or none
abbrev pub IsSeconds : ℕ → Type 0
IsSeconds n = IsTrue (nat_le n 7_199_999 || (n == nothing))

-- the number is what it stands for, read back
pub same_number : (n : ℕ) → unwrap_or (number_if_any n) nothing ≡ n
same_number n = by_test (n == nothing) refl
  where
    by_test : (b : Bool) → (n == nothing) ≡ b → unwrap_or (if b then None else Some n) nothing ≡ n
    by_test true e = sym (eqb-true n nothing e)
    by_test false e = refl
