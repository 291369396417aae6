-- Garbled letters, from one letter to the next.
use Rattle.std.proofs.Common.{◌≡◌, ◌∙◌, List, [], ◌∷◌, ℕ, Bool, true, false, length, refl, ap, sym, arith}
use Rattle.std.specs.Str.{chars}
use Rattle.std.proofs.lemmas.Str.{chars-nil}
use Rattle.std.specs.Prelude.{◌==◌, ◌&&◌, ◌||◌}
use Rattle.gtfs_advice.specs.TextFaults.{has_garbled, is_lead, is_misread, is_odd, is_trail}

abbrev begins : List ℕ → Bool
begins [] = false
begins (c ∷ cs) = is_trail c

-- garbled letters in what follows a letter, which may be the first of a pair
abbrev pub has_garbled_behind : Bool → List ℕ → Bool
has_garbled_behind is_behind_lead cs = (is_behind_lead && begins cs) || has_garbled cs

none : (b : Bool) → (b && false) ≡ false
none false = refl
none true = refl

misread : (c : ℕ) (cs : List ℕ) → (is_lead c && begins cs) ≡ is_misread c cs
misread c [] = none (is_lead c)
misread c (d ∷ cs) = refl

later : (a b m h : Bool) → (a || b) ≡ false → (m || h) ≡ (b || (a || m || h))
later false false m h e = refl
later false true m h e = cc
later true b m h e = cc

sooner : (a b m h : Bool) → (a || b) ≡ true → true ≡ (b || (a || m || h))
sooner false false m h e = cc
sooner false true m h e = refl
sooner true false m h e = refl
sooner true true m h e = refl

-- a letter at which nothing is seen
pub passed : (behind : Bool) (c : ℕ) (cs : List ℕ) → is_odd behind c ≡ false → has_garbled_behind (is_lead c) cs ≡ has_garbled_behind behind (c ∷ cs)
passed behind c cs even = ap (λ m. m || has_garbled cs) (misread c cs) ∙ later (c == 0xFFFD) (behind && is_trail c) (is_misread c cs) (has_garbled cs) even

-- and one at which something is
pub seen : (behind : Bool) (c : ℕ) (cs : List ℕ) → is_odd behind c ≡ true → true ≡ has_garbled_behind behind (c ∷ cs)
seen behind c cs odd = sooner (c == 0xFFFD) (behind && is_trail c) (is_misread c cs) (has_garbled cs) odd

-- behind the last letter
pub ended : (behind : Bool) (text : List ℕ) → length text ≡ 0 → false ≡ has_garbled_behind behind (chars text)
ended behind [] e = rw chars-nil (ap (λ b. b || false) (sym (none behind)))
ended behind (b ∷ bs) e = absurd (omega arith)
