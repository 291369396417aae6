-- Tests that are joined by `and`.
use Rattle.std.proofs.Common.{◌≡◌, ◌&&◌, Bool, true, false, T, refl}

pub both_so : (a b : Bool) → T a → T b → T (a && b)
both_so true b p q = q
both_so false b p q = p

pub first_so : (a b : Bool) → T (a && b) → T a
first_so true b t = tt
first_so false b t = t

pub second_so : (a b : Bool) → T (a && b) → T b
second_so true b t = t
second_so false b t = absurd t

pub and_exchange : (a b c : Bool) → (a && (b && c)) ≡ (b && (a && c))
and_exchange true b c = refl
and_exchange false true c = refl
and_exchange false false c = refl

pub and_later : (a b c : Bool) → (a && (b && c)) ≡ ((a && b) && c)
and_later true b c = refl
and_later false b c = refl

pub and_fails : (a b : Bool) → (a ≡ true → b ≡ false) → (a && b) ≡ false
and_fails true b f = f refl
and_fails false b f = refl
