-- Among rows that ascend by their ids, a search ends at the number of an id.
use Rattle.std.proofs.Common.{◌≡◌, ◌∙◌, ◌+◌, ◌<◌, ℕ, List, [], ◌∷◌, Bool, false, None, Ok, Err, Result, Some, bytes_eq, length, map, get_or, refl, sym, ap, arith, inl, inr}
use Rattle.std.specs.Prelude.{position}
use Rattle.std.specs.Cmp.{alike_right}
use Rattle.std.specs.Cmp.Lexicographic.{nat_list_cmp_total}
use Rattle.std.specs.List.{HoldsAt, list_any, position_or_len}
use Rattle.std.specs.List.Sorted.{IsBinarySearchResult, IsNonDecreasingBy, IsPartitionPoint, IsSearchInRange, IsSortedBy}
use Rattle.std.specs.Ordering.{is_eq, is_lt, on, ordering_index, ordering_reverse}
use Rattle.std.specs.Result.{result_ok}
use Rattle.std.specs.declared.cmp.Ordering.TheVariants.{Less, Equal, Greater}
use Rattle.std.proofs.lemmas.Bool.{cases_lt, lt-ltb}
use Rattle.std.proofs.lemmas.List.Folds.{list_any_none}
use Rattle.std.proofs.lemmas.List.Sorted.{searchable_from_sorted}
use Rattle.std.proofs.lemmas.List.Sums.{position_or_len_is}
use Rattle.std.proofs.lemmas.Map.Text.{is_eq-slice_cmp}
use Rattle.gtfs_field.proofs.ListFacts.{position-map, position_any}
use Rattle.gtfs_field.specs.TextOrder.{text_cmp}
use Rattle.gtfs_schema.proofs.NamedFacts.{text_turned}
use Rattle.gtfs_rows.specs.TransferOrder.{Ascends}

module _ {X : Type 0} (id : X → List ℕ) (q : List ℕ) where
  -- whether a row has the id
  abbrev has : X → Bool
  has x = bytes_eq q (id x)

  is_tie : (x : X) → is_eq (text_cmp (id x) q) ≡ has x
  is_tie x = is_eq-slice_cmp (id x) q ∙ text_turned (id x) q

  ascends : (xs : List X) → Ascends (on id text_cmp) xs → IsSortedBy (λ a b. is_lt (text_cmp (id a) (id b))) xs
  ascends xs up k d low h =
      let less = up k (k + 1) d (omega arith) h in
      ap is_lt (nat_list_cmp_total.antisymm (id (get_or xs (k + 1) d)) (id (get_or xs k d)) ∙ ap ordering_reverse less)

  found_at : (xs : List X) → Ascends (on id text_cmp) xs → (n : ℕ) (d : X) → n < length xs → text_cmp (id (get_or xs n d)) q ≡ Equal → position has xs ≡ Some n
  found_at xs up n d within tie =
      let before : (k : ℕ) → k < n → has (get_or xs k d) ≡ false =
      λ k l. sym (is_tie (get_or xs k d)) ∙ ap is_eq (sym (alike_right nat_list_cmp_total (id (get_or xs n d)) q (id (get_or xs k d)) tie) ∙ up k n d l within) in
      let at : position_or_len has xs ≡ n =
      position_or_len_is has xs n d (omega arith) before (λ h. sym (is_tie (get_or xs n d)) ∙ ap is_eq tie) in
      rw (at, lt-ltb n (length xs) within) refl

  -- where a search ends at a row, its number is that of the id
  found : (xs : List X) → Ascends (on id text_cmp) xs → (n : ℕ) → n < length xs → HoldsAt (λ x. text_cmp (id x) q ≡ Equal) xs n → position (bytes_eq q) (map id xs) ≡ Some n
  found [] up n within tie = absurd (omega arith)
  found (x ∷ xs) up n within tie = position-map (bytes_eq q) id (x ∷ xs) ∙ found_at (x ∷ xs) up n x within (tie x)

  -- and where it ends between rows, no row has the id
  missing : (xs : List X) → Ascends (on id text_cmp) xs → (n : ℕ) → (IsNonDecreasingBy (λ x. ordering_index (text_cmp (id x) q)) xs
      → IsPartitionPoint (λ x. text_cmp (id x) q ≡ Less) (λ x. text_cmp (id x) q ≡ Greater) xs n) → position (bytes_eq q) (map id xs) ≡ None
  missing xs up n rank =
      let sides = rank (searchable_from_sorted nat_list_cmp_total id xs q (ascends xs up)) in
      let none : list_any has xs ≡ false = list_any_none has xs (λ k x h. elim (cases_lt k n) [
        | inl before ↦ sym (is_tie (get_or xs k x)) ∙ ap is_eq (sides.0 k x (omega arith) before)
        | inr after ↦ sym (is_tie (get_or xs k x)) ∙ ap is_eq (sides.1 k x after h)
      ]) in
      position-map (bytes_eq q) id xs ∙ rw (position_any has xs, none) refl

  -- what a search answers is the number of the id
  pub searched : (xs : List X) → Ascends (on id text_cmp) xs → (r : Result ℕ ℕ) → IsSearchInRange r (length xs) → IsBinarySearchResult (λ x. text_cmp (id x) q) xs r
      → result_ok r ≡ position (bytes_eq q) (map id xs)
  searched xs up (Ok n) within tie = sym (found xs up n within tie)
  searched xs up (Err n) within rank = sym (missing xs up n rank)
