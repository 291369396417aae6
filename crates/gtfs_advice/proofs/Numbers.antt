-- Among ids that ascend, numbers compare as the ids do.
use Rattle.std.proofs.Common.{◌≡◌, ◌∙◌, ◌<◌, ℕ, zero, suc, List, [], ◌∷◌, length, Some, sym, ap, arith, inl, inr}
use Rattle.std.specs.Prelude.{◌==◌, bytes_eq, find, nat_lt}
use Rattle.std.specs.Cmp.{nat_cmp_is, tied_itself}
use Rattle.std.specs.List.{slice_get}
use Rattle.std.specs.Ordering.{is_eq, is_lt, nat_cmp, on, ordering_reverse}
use Rattle.std.specs.declared.cmp.Ordering.TheVariants.{Less, Equal, Greater}
use Rattle.std.proofs.lemmas.Bool.{cases_order}
use Rattle.std.proofs.lemmas.Bool.Decides.{nat_tests}
use Rattle.std.proofs.lemmas.Cmp.{nat_list_cmp_total}
use Rattle.std.proofs.lemmas.Map.Text.{is_eq-slice_cmp}
use Rattle.std.proofs.lemmas.Option.{get_or_from_slice_get, same_Some, slice_get_within}
use Rattle.gtfs_field.specs.TextOrder.{text_cmp}
use Rattle.gtfs_schema.proofs.SiteFacts.{text_itself}
use Rattle.gtfs_rows.specs.TransferOrder.{Ascends}
use Rattle.gtfs_rows.specs.NamedRows.{text_of_number}
use Rattle.gtfs_rows.proofs.Held.{apart}
use Rattle.gtfs_rows.proofs.SameElements.{pairs-head, pairs-tail}

numbers : (ids : List (List ℕ)) (i j : ℕ) → Ascends text_cmp ids → i < length ids → j < length ids → nat_cmp i j ≡ text_cmp (text_of_number ids i) (text_of_number ids j)
numbers ids i j up in_i in_j = elim (cases_order i j) [
  | inl same ↦
      sym (nat_cmp_is i j Equal same)
      ∙ sym (ap (λ n. text_cmp (text_of_number ids i) (text_of_number ids n)) (sym same) ∙ tied_itself nat_list_cmp_total (text_of_number ids i))
  | inr (inl less) ↦ sym (nat_cmp_is i j Less less) ∙ sym (up i j [] less in_j)
  | inr (inr more) ↦
      sym (nat_cmp_is i j Greater more)
      ∙ sym (nat_list_cmp_total.antisymm (text_of_number ids i) (text_of_number ids j) ∙ ap ordering_reverse (up j i [] more in_i))
]

is_eq-nat : (i j : ℕ) → is_eq (nat_cmp i j) ≡ (i == j)
is_eq-nat i j = grind (arith, nat_tests)

is_lt-nat : (i j : ℕ) → is_lt (nat_cmp i j) ≡ nat_lt i j
is_lt-nat i j = grind (arith, nat_tests)

-- one number, one id
pub same_number : (ids : List (List ℕ)) (i j : ℕ) → Ascends text_cmp ids → i < length ids → j < length ids → (i == j) ≡ bytes_eq (text_of_number ids i) (text_of_number ids j)
same_number ids i j up in_i in_j = sym (is_eq-nat i j) ∙ ap is_eq (numbers ids i j up in_i in_j) ∙ is_eq-slice_cmp (text_of_number ids i) (text_of_number ids j)

-- a lower number, an earlier id
pub lower_number : (ids : List (List ℕ)) (i j : ℕ) → Ascends text_cmp ids → i < length ids → j < length ids → nat_lt i j ≡ is_lt (text_cmp (text_of_number ids i) (text_of_number ids j))
lower_number ids i j up in_i in_j = sym (is_lt-nat i j) ∙ ap is_lt (numbers ids i j up in_i in_j)

-- the row of an id is that of its number
pub found_id : {X : Type 0} (id : X → List ℕ) (xs : List X) (n : ℕ) (x : X) → Ascends (on id text_cmp) xs → slice_get xs n ≡ Some x → find (λ y. bytes_eq (id y) (id x)) xs ≡ Some x
found_id id [] n x up at = cc
found_id id (y ∷ ys) zero x up at = let same = same_Some y x at in rw (ap (λ z. bytes_eq (id z) (id x)) same ∙ text_itself (id x)) at
found_id id (y ∷ ys) (suc n) x up at =
    let less = pairs-head (λ a b. text_cmp (id a) (id b) ≡ Less) y ys up n x (slice_get_within ys n x at) in
    let later : text_cmp (id y) (id x) ≡ Less = ap (λ z. text_cmp (id y) (id z)) (sym (get_or_from_slice_get ys n x x at)) ∙ less in
    rw (apart (id y) (id x) later) (found_id id ys n x (pairs-tail (λ a b. text_cmp (id a) (id b) ≡ Less) y ys up) at)
