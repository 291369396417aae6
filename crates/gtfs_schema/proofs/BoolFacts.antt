-- Tests that hold together or not at all.
use Rattle.std.proofs.Common.{◌≡◌, true, false, Bool, refl, sym}
use Rattle.std.specs.Prelude.{◌&&◌}
pub use Rattle.std.proofs.lemmas.Bool.{and_parts, or_left, or_right}

-- two tests that follow from one another are one
pub same_test : (a b : Bool) → (a ≡ true → b ≡ true) → (b ≡ true → a ≡ true) → a ≡ b
same_test true b f g = sym (f refl)
same_test false true f g = g refl
same_test false false f g = refl

pub no_test : (a : Bool) → (a ≡ true → false ≡ true) → a ≡ false
no_test true f = sym (f refl)
no_test false f = refl

-- what follows under a test may be changed where the test holds
pub and_under : (a b c : Bool) → (a ≡ true → b ≡ c) → (a && b) ≡ (a && c)
and_under true b c f = f refl
and_under false b c f = refl
