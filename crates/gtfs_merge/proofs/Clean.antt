-- New ids are texts that a field holds: no blank at their ends, no control character, and not empty.
use Rattle.std.proofs.Common.{◌≡◌, ℕ, suc, ◌+◌, ◌%◌, ◌<◌, ◌≤◌, ◌^◌, true, false, not, List, [], ◌∷◌, ◌++◌, refl, sym, ap, ◌∙◌, inl, inr, length, bytes_eq, codes, decimal, reverse, true≢false, arith, append_assoc, ne_eqb, le-ltb}
use Rattle.std.specs.Prelude.{if◌then◌else◌}
use Rattle.std.proofs.lemmas.Bool.{and_parts, and_from, cases_Bool, or_from, not-true}
use Rattle.std.proofs.lemmas.List.{length-reverse, reverse-append, reverse-reverse}
use Rattle.std.proofs.lemmas.List.Folds.{list_any-append}
use Rattle.std.proofs.lemmas.Fmt.{decimal_by_steps_wide}
use Rattle.gtfs_table.specs.Blanks.{cut, without_first_blanks, is_blank, is_control}
use Rattle.gtfs_table.specs.Rows.{is_empty}
use Rattle.gtfs_table.proofs.BlankFacts.{first-blank as first-goes, first-other as first-stays}
use Rattle.gtfs_schema.specs.FieldValues.{has_control}
use Rattle.gtfs_schema.proofs.SiteFacts.{text_is as same_bytes}
use Rattle.gtfs_rows.specs.Cells.{is_clean, is_filled}
use Rattle.gtfs_merge.specs.Renaming.{merged_id}
use Rattle.gtfs_merge.proofs.Lookups.{bytes_same}

-- ---- digits

digit_free : (k : ℕ) → k < 10 → is_control (48 + k) ≡ false
digit_free k h = or_from _ _ (le-ltb (48 + k) 32 (omega arith)) (ne_eqb (48 + k) 127 (λ e. absurd (omega arith)))

digit_plain : (k : ℕ) → k < 10 → is_blank (48 + k) ≡ false
digit_plain k h = or_from _ _ (ne_eqb (48 + k) 32 (λ e. absurd (omega arith))) (digit_free k h)

digit_below : (n : ℕ) → n % 10 < 10
digit_below n = omega arith

-- the text of a number: no control character, and a digit at its end
EndsInDigit : List ℕ → Type 0
EndsInDigit ds = (has_control ds ≡ false) × (p : List ℕ) × (k : ℕ) × (k < 10) × (ds ≡ p ++ (48 + k) ∷ [])

number-ends : (n : ℕ) → n < 10 ^ 64 → EndsInDigit (decimal n)
unfolding EndsInDigit
number-ends n h = decimal_by_steps_wide (λ n ds. EndsInDigit ds)
    (λ n l. (or_from _ _ (digit_free n l) refl, [], n, l, refl))
    (λ n ds l r. (list_any-append is_control ds ((48 + n % 10) ∷ []) ∙ or_from _ _ r.0 (or_from _ _ (digit_free (n % 10) (digit_below n)) refl), ds, n % 10, digit_below n, refl))
    n h

-- ---- cutting

shorter : (t : List ℕ) → length (without_first_blanks t) ≤ length t
unfolding without_first_blanks
shorter [] = omega arith
shorter (b ∷ bs) = elim (is_blank b) as (λ x. length (if x then without_first_blanks bs else b ∷ bs) ≤ suc (length bs)) [
  | true ↦ let r = shorter bs in omega arith
  | false ↦ omega arith
]

length-cut : (t : List ℕ) → length (cut t) ≤ length (without_first_blanks t)
length-cut t =
    let w = without_first_blanks t in
    let s = shorter (reverse w) in
    omega (arith, length-reverse (without_first_blanks (reverse w)), length-reverse w)

-- a text that stays when it is cut begins with no blank
begins-plain : (b : ℕ) (bs : List ℕ) → cut (b ∷ bs) ≡ b ∷ bs → is_blank b ≡ false
begins-plain b bs e = elim (cases_Bool (is_blank b)) as (λ w. is_blank b ≡ false) [
  | inr n ↦ n
  | inl y ↦
      let l = length-cut (b ∷ bs) in
      let g = ap length (first-goes b bs y) in
      let s = shorter bs in
      let q : length (cut (b ∷ bs)) ≡ suc (length bs) = ap length e in
      absurd (omega arith)
]

-- a text between no blanks stays
cut-stays : (b : ℕ) (bs p : List ℕ) (d : ℕ) → is_blank b ≡ false → is_blank d ≡ false → b ∷ bs ≡ p ++ d ∷ [] → cut (b ∷ bs) ≡ b ∷ bs
cut-stays b bs p d first last e =
    let back : reverse (b ∷ bs) ≡ d ∷ reverse p = ap reverse e ∙ reverse-append p (d ∷ []) in
    ap (λ t. reverse (without_first_blanks (reverse t))) (first-stays b bs first)
    ∙ ap (λ t. reverse (without_first_blanks t)) back ∙ ap reverse (first-stays d (reverse p) last) ∙ ap reverse (sym back) ∙ reverse-reverse (b ∷ bs)

-- ---- new ids

pub filled-merged_id : (x : List ℕ) (n : ℕ) → n < 10 ^ 64 → is_filled x ≡ true → is_filled (merged_id x n) ≡ true
unfolding EndsInDigit
filled-merged_id [] n h f = absurd (true≢false (sym (and_parts (is_clean []) (not (is_empty [])) f).1))
filled-merged_id (b ∷ bs) n h f =
    let clean = and_parts (bytes_eq (cut (b ∷ bs)) (b ∷ bs)) (not (has_control (b ∷ bs))) (and_parts (is_clean (b ∷ bs)) (not (is_empty (b ∷ bs))) f).0 in
    let first = begins-plain b bs (same_bytes _ _ clean.0) in
    let base = (b ∷ bs) ++ codes "_merged_" in
    let ends = number-ends n h in
    let split : merged_id (b ∷ bs) n ≡ (base ++ ends.1) ++ (48 + ends.2) ∷ [] = ap (λ ds. base ++ ds) ends.4 ∙ sym (append_assoc base ends.1 ((48 + ends.2) ∷ [])) in
    let whole = cut-stays b (bs ++ codes "_merged_" ++ decimal n) (base ++ ends.1) (48 + ends.2) first (digit_plain ends.2 ends.3) split in
    let free : has_control (merged_id (b ∷ bs) n) ≡ false = list_any-append is_control base (decimal n) ∙ or_from _ _ (list_any-append is_control (b ∷ bs) (codes "_merged_") ∙ or_from _ _ (not-true _ clean.1) refl) ends.0 in
    and_from _ _ (and_from _ _ (bytes_same _ _ whole) (ap not free)) (ap not (ne_eqb (suc (length (bs ++ codes "_merged_" ++ decimal n))) 0 (λ e. absurd (omega arith))))
