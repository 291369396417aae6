-- Numbers that follow each other, and others after them.
use Rattle.std.proofs.Common.{◌≡◌, ◌<◌, ◌≤◌, ◌+◌, ◌-◌, ◌++◌, ◌∷◌, ◌∙◌, [], ℕ, suc, List, Some, ap, arith, get_or, length, length-append, sym, append-nil, Bool, true, false, cond, drop, filter, take}
use Rattle.std.specs.Prelude.{slice_get}
use Rattle.std.specs.List.{range_with_len}
use Rattle.std.proofs.lemmas.List.{get_or-append_right, get_or-drop, get_or_append_left, length-drop, take_more}
use Rattle.std.proofs.lemmas.List.Elements.{filter-append}
use Rattle.std.proofs.lemmas.List.FromFn.{get_or-range_with_len, length-range_with_len}
use Rattle.std.proofs.lemmas.Option.{slice_get-get_or}
use Rattle.gtfs_field.proofs.ListFacts.{range-push}

module _ (first count : ℕ) (others : List ℕ) where
  abbrev numbers : List ℕ
  numbers = range_with_len first count ++ others

  pub size-numbers : length numbers ≡ count + length others
  size-numbers = length-append (range_with_len first count) others ∙ ap (λ n. n + length others) (length-range_with_len first count)

  pub number-that-follows : (at : ℕ) → at < count → slice_get numbers at ≡ Some (first + at)
  number-that-follows at low =
      slice_get-get_or numbers at 0 (omega (arith, low, size-numbers))
      ∙ ap (λ n. Some n) (get_or_append_left (range_with_len first count) others 0 at (omega (arith, low, length-range_with_len first count)) ∙ get_or-range_with_len first count at 0 low)

  pub number-after : (at n : ℕ) → count ≤ at → at < length numbers → n ≡ get_or others (at - count) n → slice_get numbers at ≡ Some n
  number-after at n from within is =
      slice_get-get_or numbers at n within
      ∙ ap (λ m. Some m) (get_or-append_right (range_with_len first count) others count at n (length-range_with_len first count) from ∙ sym is)

  pub one-follows : (n : ℕ) → others ≡ [] → n ≡ first + count → range_with_len first (count + 1) ++ others ≡ numbers ++ n ∷ []
  one-follows n none is =
      let next : count + 1 ≡ suc count = omega arith in
      ap (λ xs. range_with_len first (count + 1) ++ xs) none ∙ append-nil (range_with_len first (count + 1))
      ∙ ap (range_with_len first) next ∙ range-push first count
      ∙ ap (λ m. range_with_len first count ++ m ∷ []) (sym is)
      ∙ ap (λ xs. xs ++ n ∷ []) (sym (append-nil (range_with_len first count)))
      ∙ ap (λ xs. (range_with_len first count ++ xs) ++ n ∷ []) (sym none)

-- ---- numbers that pass a test

module _ (P : ℕ → Bool) (order : List ℕ) (at n : ℕ) (so_far : List ℕ) (within : at < length order) (here : get_or order at 0 ≡ n) where
  filter-next : filter P (take (at + 1) order) ≡ filter P (take at order) ++ filter P (n ∷ [])
  filter-next = ap (filter P) (take_more order at 0 within) ∙ filter-append P (take at order) (get_or order at 0 ∷ []) ∙ ap (λ m. filter P (take at order) ++ filter P (m ∷ [])) here

  pub passes-filter : P n ≡ true → so_far ≡ filter P (take at order) → so_far ++ n ∷ [] ≡ filter P (take (at + 1) order)
  passes-filter passes is = ap (λ ns. ns ++ n ∷ []) is ∙ ap (λ b. filter P (take at order) ++ cond b (n ∷ []) []) (sym passes) ∙ sym filter-next

  pub stays-filter : P n ≡ false → so_far ≡ filter P (take at order) → so_far ≡ filter P (take (at + 1) order)
  stays-filter stays is = is ∙ sym (append-nil (filter P (take at order))) ∙ ap (λ b. filter P (take at order) ++ cond b (n ∷ []) []) (sym stays) ∙ sym filter-next

-- one more number of a part
pub part-next : (order : List ℕ) (start at n : ℕ) → start ≤ at → at < length order → get_or order at 0 ≡ n
    → take (at + 1 - start) (drop start order) ≡ take (at - start) (drop start order) ++ n ∷ []
part-next order start at n low within here =
    let next : at + 1 - start ≡ (at - start) + 1 = omega (arith, low) in
    let sum : start + (at - start) ≡ at = omega (arith, low) in
    ap (λ m. take m (drop start order)) next
    ∙ take_more (drop start order) (at - start) 0 (omega (arith, low, within, length-drop start order))
    ∙ ap (λ m. take (at - start) (drop start order) ++ m ∷ []) (get_or-drop start order (at - start) 0 ∙ ap (λ k. get_or order k 0) sum ∙ here)
