-- Byte order marks at the start of a text.
use Rattle.std.proofs.Common.{◌≡◌, ◌∷◌, ◌∙◌, ◌==◌, ◌&&◌, [], ℕ, List, Bool, take, drop, refl, sym, true, false, inl, inr}
use Rattle.std.specs.Prelude.{nat_eq}
use Rattle.std.specs.Cmp.Lexicographic.{pointwise}
use Rattle.std.proofs.lemmas.Bool.{cases_Bool}
use Rattle.csv.specs.Reading.{is_bom, strip_bom}
use Rattle.gtfs_table.specs.Tables.{without_marks}

-- the bytes of the mark
abbrev pub mark : List ℕ
mark = 0xEF ∷ 0xBB ∷ 0xBF ∷ []

-- the two spellings of three tests
three : (a b c : Bool) → (a && (b && (c && true))) ≡ ((a && b) && c)
three true true true = refl
three true true false = refl
three true false c = refl
three false b c = refl

pub past-mark : (xs : List ℕ) → pointwise nat_eq (take 3 xs) mark ≡ true → without_marks (drop 3 xs) ≡ without_marks xs
unfolding without_marks
past-mark [] e = cc e
past-mark (a ∷ []) e = absurd (none (a == 0xEF) e)
  where
    none : (t : Bool) → (t && false) ≡ true → ⊥
    none true e = cc e
    none false e = cc e
past-mark (a ∷ b ∷ []) e = absurd (none (a == 0xEF) (b == 0xBB) e)
  where
    none : (t u : Bool) → (t && (u && false)) ≡ true → ⊥
    none true true e = cc e
    none true false e = cc e
    none false u e = cc e
past-mark (a ∷ b ∷ c ∷ rest) e =
    let is : is_bom a b c ≡ true = sym (three (a == 0xEF) (b == 0xBB) (c == 0xBF)) ∙ e in
    rw is refl

pub no-mark : (xs : List ℕ) → pointwise nat_eq (take 3 xs) mark ≡ false → without_marks xs ≡ xs
unfolding without_marks
no-mark [] e = refl
no-mark (a ∷ []) e = refl
no-mark (a ∷ b ∷ []) e = refl
no-mark (a ∷ b ∷ c ∷ rest) e =
    let not : is_bom a b c ≡ false = sym (three (a == 0xEF) (b == 0xBB) (c == 0xBF)) ∙ e in
    rw not refl

-- nothing is left for `csv` to cut
pub strip-without_marks : (xs : List ℕ) → strip_bom (without_marks xs) ≡ without_marks xs
unfolding without_marks strip_bom
strip-without_marks [] = refl
strip-without_marks (a ∷ []) = refl
strip-without_marks (a ∷ b ∷ []) = refl
strip-without_marks (a ∷ b ∷ c ∷ rest) = elim (cases_Bool (is_bom a b c)) [
  | inl is ↦ rw is (strip-without_marks rest)
  | inr not ↦ rw not (rw not refl)
]
