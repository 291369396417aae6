-- Ids of merged rows, and that new names are texts that a field holds.
use Rattle.std.proofs.Common.{◌≡◌, ℕ, ◌+◌, ◌<◌, ◌^◌, Bool, true, false, cond, not, List, [], ◌∷◌, ◌++◌, refl, sym, ap, ◌∙◌, subst, inl, inr, ◌⊎◌, map, length, bytes_eq, count_by, codes, length-append}
use Rattle.std.specs.Prelude.{◌||◌, ◌==◌, if◌then◌else◌}
use Rattle.std.specs.List.{list_all}
use Rattle.std.specs.Cmp.Lexicographic.{nat_list_cmp_total, texts_ties}
use Rattle.std.proofs.lemmas.Bool.{and_parts, not-true}
use Rattle.std.proofs.lemmas.List.Sums.{sum_by-cons}
use Rattle.gtfs_table.specs.Blanks.{without_first_blanks}
use Rattle.gtfs_field.specs.TextOrder.{text_cmp}
use Rattle.gtfs_table.specs.Rows.{is_empty}
use Rattle.gtfs_rows.specs.Cells.{is_clean, is_filled}
use Rattle.gtfs_rows.proofs.Members.{In, In-append, In-left, In-map, In-right, list_all-In, list_all-from, map-In}
use Rattle.gtfs_merge.specs.Merged.{by_id}
use Rattle.gtfs_merge.specs.Renaming.{Renaming, lists_id, free_id, renamed_b}
use Rattle.gtfs_merge.proofs.Lookups.{look-by_id}
use Rattle.gtfs_merge.proofs.Fresh.{free_number-free}
use Rattle.gtfs_merge.proofs.MergedRows.{found, found_id, has_found, has_own}
use Rattle.gtfs_merge.proofs.Clean.{filled-merged_id}
use Rattle.gtfs_merge.proofs.Kept.{once-by_key, In-by_key}

-- ---- ids of rows by id

pub in-by_id : {X : Type 0} (id : X → List ℕ) (rows : List X) (r : X) → In r rows → lists_id (map id (by_id id rows)) (id r) ≡ true
in-by_id id rows r i =
    let f = found id rows (id r) (has_own id rows r i) in
    has_found id (by_id id rows) (id r) f.0 (look-by_id id rows (id r) ∙ f.1)

pub own-by_id : {X : Type 0} (id : X → List ℕ) (rows : List X) → list_all (λ x. count_by (bytes_eq x) (map id (by_id id rows)) == 1) (map id (by_id id rows)) ≡ true
own-by_id {X = X} id rows = list_all-from _ (map id (by_id id rows)) (λ x i.
    let r = In-map id (by_id id rows) x i in
    let once : (count_by (λ y. bytes_eq (id r.0) (id y)) (by_id id rows) == 1) ≡ true = list_all-In (λ z. count_by (λ y. bytes_eq (id z) (id y)) (by_id id rows) == 1) (by_id id rows) (once-by_key text_cmp nat_list_cmp_total id (λ z y. bytes_eq (id z) (id y)) (λ z y. texts_ties (id z) (id y)) rows) r.0 r.1 in
    ap (λ n. n == 1) (count-map (bytes_eq x) (by_id id rows) ∙ ap (λ q. count_by (λ y. bytes_eq q (id y)) (by_id id rows)) (sym r.2)) ∙ once)
  where
    count-map : (p : List ℕ → Bool) (ys : List X) → count_by p (map id ys) ≡ count_by (λ y. p (id y)) ys
    count-map p [] = refl
    count-map p (y ∷ ys) = sum_by-cons (λ x. cond (p x) 1 0) (id y) (map id ys) ∙ ap (λ n. cond (p (id y)) 1 0 + n) (count-map p ys) ∙ sym (sum_by-cons (λ y. cond (p (id y)) 1 0) y ys)

-- a row of both lists by id is a row of A by f or one of B by g
pub either : {X : Type 0} (id : X → List ℕ) (f g : X → X) (xs ys : List X) (r : X) → In r (by_id id (map f xs ++ map g ys))
    → ((x : X) × In x xs × (f x ≡ r)) ⊎ ((x : X) × In x ys × (g x ≡ r))
either {X = X} id f g xs ys r i =
    elim (In-append (map f xs) (map g ys) r (In-by_key text_cmp nat_list_cmp_total id (map f xs ++ map g ys) r i)) as (λ w. ((x : X) × In x xs × (f x ≡ r)) ⊎ ((x : X) × In x ys × (g x ≡ r))) [
      | inl j ↦ inl (In-map f xs r j)
      | inr j ↦ inr (In-map g ys r j)
    ]

pub from-a : {X : Type 0} (id : X → List ℕ) (f g : X → X) (new : Renaming) (xs ys : List X) → ((r : X) → id (f r) ≡ new (id r)) → (x : List ℕ) → lists_id (map id xs) x ≡ true → lists_id (map id (by_id id (map f xs ++ map g ys))) (new x) ≡ true
from-a id f g new xs ys named x h =
    let r = found id xs x h in
    let i = found_id id xs x r.0 r.1 in
    subst (λ q. lists_id (map id (by_id id (map f xs ++ map g ys))) q ≡ true) (named r.0 ∙ ap new i.1) (in-by_id id (map f xs ++ map g ys) (f r.0) (In-left (map f xs) (map g ys) (f r.0) (map-In f xs r.0 i.0)))

pub from-b : {X : Type 0} (id : X → List ℕ) (f g : X → X) (new : Renaming) (xs ys : List X) → ((r : X) → id (g r) ≡ new (id r)) → (x : List ℕ) → lists_id (map id ys) x ≡ true → lists_id (map id (by_id id (map f xs ++ map g ys))) (new x) ≡ true
from-b id f g new xs ys named x h =
    let r = found id ys x h in
    let i = found_id id ys x r.0 r.1 in
    subst (λ q. lists_id (map id (by_id id (map f xs ++ map g ys))) q ≡ true) (named r.0 ∙ ap new i.1) (in-by_id id (map f xs ++ map g ys) (g r.0) (In-right (map f xs) (map g ys) (g r.0) (map-In g ys r.0 i.0)))

-- ---- new names are filled

pub agency_filled : is_filled (codes "agency") ≡ true
unfolding without_first_blanks
agency_filled = refl

pub filled-free : (taken : List (List ℕ)) (base : List ℕ) → length taken + 2 < 10 ^ 64 → is_filled base ≡ true → is_filled (free_id taken base) ≡ true
filled-free taken base few e = filled-merged_id base _ (free_number-free taken base few).1 e

module _ (ids_a ids_b : List (List ℕ)) (is_joined : List ℕ → Bool) (few : length ids_a + length ids_b + 2 < 10 ^ 64) where
  pub filled-renamed : (x : List ℕ) → is_filled x ≡ true → is_filled (renamed_b ids_a ids_b is_joined x) ≡ true
  filled-renamed x e = elim (not (lists_id ids_a x) || is_joined x) as (λ c. is_filled (if c then x else free_id (ids_a ++ ids_b) x) ≡ true) [
    | true ↦ e
    | false ↦ filled-free (ids_a ++ ids_b) x (subst (λ n. n + 2 < 10 ^ 64) (sym (length-append ids_a ids_b)) few) e
  ]

pub not-empty : (x : List ℕ) → is_filled x ≡ true → (length x == 0) ≡ false
not-empty x e = not-true _ (and_parts (is_clean x) (not (is_empty x)) e).1

pub empty_clean : is_clean [] ≡ true
unfolding without_first_blanks
empty_clean = refl
