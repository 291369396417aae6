-- A text cut of its blanks.
use Rattle.std.proofs.Common.{◌≡◌, ◌==◌, ◌<◌, ◌+◌, ◌-◌, ◌∷◌, ◌++◌, ◌∙◌, [], ℕ, List, length, take, drop, get_or, reverse, refl, sym, ap, subst, arith, true, false, inl, inr}
use Rattle.std.specs.Str.{IsUtf8}
use Rattle.std.proofs.Math.Seq.{take-append_seam}
use Rattle.std.proofs.lemmas.Bool.{cases_Bool, eqb-true, ne_eqb}
use Rattle.std.proofs.lemmas.Bool.Decides.{nat_tests}
use Rattle.std.proofs.lemmas.List.{nil_from_length, length-reverse, reverse-append, reverse-reverse, take_more, take_all, length_push, get_or_at}
use Rattle.std.proofs.lemmas.Str.{IsUtf8-past_char, encode_ascii, IsUtf8-take, IsCharBoundary-before_ascii}
use Rattle.gtfs_table.specs.Blanks.{is_blank, without_first_blanks, cut}
use Rattle.gtfs_table.specs.Rows.{is_empty}

pub blank-ascii : (b : ℕ) → is_blank b ≡ true → b < 128
blank-ascii b e = grind (arith, nat_tests)

-- a text that is empty
pub no_text : (t : List ℕ) → is_empty t ≡ true → t ≡ []
no_text t empty = nil_from_length t (eqb-true (length t) 0 empty)

-- what starts with a blank, and what does not
pub first-blank : (b : ℕ) (bs : List ℕ) → is_blank b ≡ true → without_first_blanks (b ∷ bs) ≡ without_first_blanks bs
unfolding without_first_blanks
first-blank b bs e = rw e refl

pub first-other : (b : ℕ) (bs : List ℕ) → is_blank b ≡ false → without_first_blanks (b ∷ bs) ≡ b ∷ bs
unfolding without_first_blanks
first-other b bs e = rw e refl

pub first-none : without_first_blanks [] ≡ []
unfolding without_first_blanks
first-none = refl

-- the same for a list by its first item and its last
pub start-blank : (xs : List ℕ) → 0 < length xs → is_blank (get_or xs 0 0) ≡ true → without_first_blanks (drop 1 xs) ≡ without_first_blanks xs
start-blank [] h e = absurd (omega arith)
start-blank (b ∷ bs) h e = sym (first-blank b bs e)

pub start-other : (xs : List ℕ) → 0 < length xs → is_blank (get_or xs 0 0) ≡ false → without_first_blanks xs ≡ xs
start-other [] h e = absurd (omega arith)
start-other (b ∷ bs) h e = first-other b bs e

-- the last item stands first in the list turned round
pub turned : (xs : List ℕ) → 0 < length xs → reverse xs ≡ get_or xs (length xs - 1) 0 ∷ reverse (take (length xs - 1) xs)
turned xs h =
    let n : length xs - 1 + 1 ≡ length xs = omega arith in
    let whole : take (length xs - 1) xs ++ get_or xs (length xs - 1) 0 ∷ [] ≡ xs =
    sym (take_more xs (length xs - 1) 0 (omega arith)) ∙ rw n (take_all (length xs) xs (omega arith)) in
    sym (ap (λ (z : List ℕ). reverse z) whole) ∙ reverse-append (take (length xs - 1) xs) (get_or xs (length xs - 1) 0 ∷ [])

pub end-blank : (xs : List ℕ) → 0 < length xs → is_blank (get_or xs (length xs - 1) 0) ≡ true
    → without_first_blanks (reverse (take (length xs - 1) xs)) ≡ without_first_blanks (reverse xs)
end-blank xs h e = rw (turned xs h) (sym (first-blank _ _ e))

pub end-other : (xs : List ℕ) → 0 < length xs → is_blank (get_or xs (length xs - 1) 0) ≡ false → xs ≡ reverse (without_first_blanks (reverse xs))
end-other xs h e =
    let same : without_first_blanks (reverse xs) ≡ reverse xs = rw (turned xs h) (first-other _ _ e) in
    rw same (sym (reverse-reverse xs))

-- a text stays one
start-utf8 : (xs : List ℕ) → IsUtf8 xs → IsUtf8 (without_first_blanks xs)
unfolding without_first_blanks
start-utf8 [] u = u
start-utf8 (b ∷ bs) u = elim (cases_Bool (is_blank b)) [
  | inl is ↦
      let one : b ∷ bs ≡ _ ++ bs = sym (ap (λ (z : List ℕ). z ++ bs) (encode_ascii b (blank-ascii b is))) in
      rw is (start-utf8 bs (IsUtf8-past_char (b ∷ bs) bs b u one))
  | inr not ↦ rw not u
]

before-last : (xs : List ℕ) (b : ℕ) → b < 128 → IsUtf8 (xs ++ b ∷ []) → IsUtf8 xs
before-last xs b low u =
    let at : get_or (xs ++ b ∷ []) (length xs) 0 ≡ b = get_or_at xs b [] 0 (length xs) refl in
    let cut_here = IsCharBoundary-before_ascii (xs ++ b ∷ []) (length xs) (omega (arith, length_push xs b)) (rw at low) in
    subst IsUtf8 (take-append_seam xs (b ∷ [])) (IsUtf8-take (xs ++ b ∷ []) (length xs) u cut_here)

end-utf8 : (xs : List ℕ) → IsUtf8 (reverse xs) → IsUtf8 (reverse (without_first_blanks xs))
unfolding without_first_blanks
end-utf8 [] u = u
end-utf8 (b ∷ bs) u = elim (cases_Bool (is_blank b)) [
  | inl is ↦ rw is (end-utf8 bs (before-last (reverse bs) b (blank-ascii b is) (subst IsUtf8 (reverse-append (b ∷ []) bs) u)))
  | inr not ↦ rw not u
]

pub cut-utf8 : (xs : List ℕ) → IsUtf8 xs → IsUtf8 (cut xs)
cut-utf8 xs u = end-utf8 (reverse (without_first_blanks xs)) (rw (reverse-reverse (without_first_blanks xs)) (start-utf8 xs u))

-- a list with no item
pub start-none : (xs : List ℕ) → length xs < 1 → xs ≡ without_first_blanks xs
start-none [] h = sym first-none
start-none (b ∷ bs) h = absurd (omega arith)

pub end-none : (xs : List ℕ) → length xs < 1 → xs ≡ reverse (without_first_blanks (reverse xs))
unfolding without_first_blanks
end-none [] h = refl
end-none (b ∷ bs) h = absurd (omega arith)

-- a text whose ends are no blanks is as it was
pub nothing-cut : (xs : List ℕ) → 0 < length xs → is_blank (get_or xs 0 0) ≡ false → is_blank (get_or xs (length xs - 1) 0) ≡ false → cut xs ≡ xs
nothing-cut xs h first last = rw (start-other xs h first) (sym (end-other xs h last))

pub none-cut : (xs : List ℕ) → length xs < 1 → cut xs ≡ xs
none-cut xs h = rw (sym (start-none xs h)) (sym (end-none xs h))

-- of a text that begins with no blank something is left
kept-last : (xs : List ℕ) (b : ℕ) → is_blank b ≡ false → 0 < length (without_first_blanks (xs ++ b ∷ []))
unfolding without_first_blanks
kept-last [] b e = rw e (omega arith)
kept-last (x ∷ xs) b e = elim (cases_Bool (is_blank x)) [
  | inl is ↦ rw is (kept-last xs b e)
  | inr not ↦ rw not (omega arith)
]

pub something-left : (xs : List ℕ) → 0 < length xs → is_blank (get_or xs 0 0) ≡ false → (length (cut xs) == 0) ≡ false
something-left [] h e = absurd (omega arith)
something-left (b ∷ bs) h e =
    let same : without_first_blanks (b ∷ bs) ≡ b ∷ bs = first-other b bs e in
    let round : reverse (b ∷ bs) ≡ reverse bs ++ b ∷ [] = reverse-append (b ∷ []) bs in
    let some = kept-last (reverse bs) b e in
    let size = length-reverse (without_first_blanks (reverse bs ++ b ∷ [])) in
    rw (same, round) (ne_eqb _ 0 (λ z. omega arith))
