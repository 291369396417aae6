-- Rows by key, where another key orders what the rows stand for alike.
use Rattle.std.proofs.Common.{◌≡◌, ◌∙◌, List, [], ◌∷◌, map, refl, sym, ap, inl, inr, ◌⊎◌}
use Rattle.std.specs.Cmp.{IsTotalOrder}
use Rattle.std.specs.FinMap as table
use Rattle.std.specs.FinMap.Entries.{by_order, put}
use Rattle.std.specs.declared.cmp.Ordering.{Ordering}
use Rattle.std.specs.declared.cmp.Ordering.TheVariants.{Less, Equal, Greater}
use Rattle.gtfs_rows.specs.TransferOrder.{by_key}
use Rattle.gtfs_rows.proofs.Members.{In}
use Rattle.gtfs_merge.proofs.KeyedMaps.{entries-none}

module _ {K X : Type 0} (order : K → K → Ordering) (key : X → K) where
  abbrev keyed : List X → List (K × X)
  keyed xs = map (λ x. (key x, x)) xs

  -- the row where its key belongs, or instead of a row with its key
  abbrev put_row : X → List X → List X
  put_row r [] = r ∷ []
  put_row r (v ∷ vs) = by_order (order (key r) (key v)) (r ∷ v ∷ vs) (r ∷ vs) (v ∷ put_row r vs)

  abbrev rows_by : List X → List X
  rows_by [] = []
  rows_by (x ∷ xs) = put_row x (rows_by xs)

  In-put : (r : X) (vs : List X) (z : X) → In z (put_row r vs) → (r ≡ z) ⊎ In z vs
  In-put r [] z i = i
  In-put r (v ∷ vs) z i =
      elim (order (key r) (key v)) as (λ q. In z (by_order q (r ∷ v ∷ vs) (r ∷ vs) (v ∷ put_row r vs)) → (r ≡ z) ⊎ In z (v ∷ vs)) [
        | Less ↦ λ j. j
        | Equal ↦ λ j. elim j as (λ w. (r ≡ z) ⊎ In z (v ∷ vs)) [ inl e ↦ inl e | inr l ↦ inr (inr l) ]
        | Greater ↦ λ j. elim j as (λ w. (r ≡ z) ⊎ In z (v ∷ vs)) [
          | inl e ↦ inr (inl e)
          | inr l ↦ elim (In-put r vs z l) as (λ w. (r ≡ z) ⊎ In z (v ∷ vs)) [ inl e ↦ inl e | inr m ↦ inr (inr m) ]
        ]
      ] i

  In-rows : (xs : List X) (z : X) → In z (rows_by xs) → In z xs
  In-rows [] z i = i
  In-rows (x ∷ xs) z i = elim (In-put x (rows_by xs) z i) as (λ w. In z (x ∷ xs)) [ inl e ↦ inl e | inr l ↦ inr (In-rows xs z l) ]

  module _ (o : IsTotalOrder order) (antisymmetric : table.IsAntisymmetric order) where
    put-keyed : (r : X) (vs : List X) → put order (key r) r (keyed vs) ≡ keyed (put_row r vs)
    put-keyed r [] = refl
    put-keyed r (v ∷ vs) =
        elim (order (key r) (key v)) as (λ q. order (key r) (key v) ≡ q → by_order q ((key r, r) ∷ (key v, v) ∷ keyed vs) ((key v, r) ∷ keyed vs) ((key v, v) ∷ put order (key r) r (keyed vs)) ≡ keyed (by_order q (r ∷ v ∷ vs) (r ∷ vs) (v ∷ put_row r vs))) [
          | Less ↦ λ e. refl
          | Equal ↦ λ e. ap (λ k. (k, r) ∷ keyed vs) (sym (antisymmetric (key r) (key v) e))
          | Greater ↦ λ e. ap (λ es. (key v, v) ∷ es) (put-keyed r vs)
        ] refl

    entries-keyed : (xs : List X) → table.entries (table.from_entries {R = order} (keyed xs)) ≡ keyed (rows_by xs)
    entries-keyed [] = entries-none order key
    entries-keyed (x ∷ xs) = table.entries-insert o (table.from_entries {R = order} (keyed xs)) (key x) x ∙ ap (put order (key x) x) (entries-keyed xs) ∙ put-keyed x (rows_by xs)

    values-keyed : (xs : List X) → map (λ e. e.1) (keyed xs) ≡ xs
    values-keyed [] = refl
    values-keyed (x ∷ xs) = ap (λ ys. x ∷ ys) (values-keyed xs)

    by_key-rows : (xs : List X) → by_key order key xs ≡ rows_by xs
    by_key-rows xs = ap (map (λ e. e.1)) (entries-keyed xs) ∙ values-keyed (rows_by xs)

module _ {K L X Y : Type 0} (order : K → K → Ordering) (o : IsTotalOrder order) (other : L → L → Ordering) (p : IsTotalOrder other)
    (antisymmetric : table.IsAntisymmetric order) (antisymmetric_too : table.IsAntisymmetric other) (key : X → K) (key_too : Y → L) (f : X → Y) where
  put-carried : (x : X) (vs : List X) → ((v : X) → In v vs → order (key x) (key v) ≡ other (key_too (f x)) (key_too (f v)))
      → put_row other key_too (f x) (map f vs) ≡ map f (put_row order key x vs)
  put-carried x [] alike = refl
  put-carried x (v ∷ vs) alike =
      ap (λ q. by_order q (f x ∷ f v ∷ map f vs) (f x ∷ map f vs) (f v ∷ put_row other key_too (f x) (map f vs))) (sym (alike v (inl refl)))
      ∙ elim (order (key x) (key v)) as (λ q. by_order q (f x ∷ f v ∷ map f vs) (f x ∷ map f vs) (f v ∷ put_row other key_too (f x) (map f vs)) ≡ map f (by_order q (x ∷ v ∷ vs) (x ∷ vs) (v ∷ put_row order key x vs))) [
        | Less ↦ refl
        | Equal ↦ refl
        | Greater ↦ ap (λ ys. f v ∷ ys) (put-carried x vs (λ w i. alike w (inr i)))
      ]

  rows-carried : (xs : List X) → ((x y : X) → In x xs → In y xs → order (key x) (key y) ≡ other (key_too (f x)) (key_too (f y)))
      → rows_by other key_too (map f xs) ≡ map f (rows_by order key xs)
  rows-carried [] alike = refl
  rows-carried (x ∷ xs) alike =
      ap (put_row other key_too (f x)) (rows-carried xs (λ y z i j. alike y z (inr i) (inr j)))
      ∙ put-carried x (rows_by order key xs) (λ v i. alike x v (inl refl) (inr (In-rows order key xs v i)))

  pub by_key-carried : (xs : List X) → ((x y : X) → In x xs → In y xs → order (key x) (key y) ≡ other (key_too (f x)) (key_too (f y)))
      → by_key other key_too (map f xs) ≡ map f (by_key order key xs)
  by_key-carried xs alike =
      by_key-rows other key_too p antisymmetric_too (map f xs) ∙ rows-carried xs alike ∙ ap (map f) (sym (by_key-rows order key o antisymmetric xs))
