-- Rows by key, made of the numbers of rows: what is made of the numbers in order.
use Rattle.std.proofs.Common.{◌≡◌, ◌∷◌, [], List, map, T, refl, sym, ap, ◌∙◌, subst, arith}
use Rattle.std.specs.Cmp.{IsTotalOrder}
use Rattle.std.specs.FinMap as table
use Rattle.std.specs.FinMap.Entries.{below_all, by_order, put}
use Rattle.std.specs.List.{All, AllPairs}
use Rattle.std.specs.Ordering.{is_lt}
use Rattle.std.specs.declared.cmp.Ordering.{Ordering}
use Rattle.std.specs.declared.cmp.Ordering.TheVariants.{Less, Equal, Greater}
use Rattle.std.proofs.lemmas.List.Elements.{All-cons, All-head, All-nil, All-tail}
use Rattle.std.proofs.lemmas.List.Kept.{AllPairs-cons}
use Rattle.gtfs_field.proofs.OrderingFacts.{less_so as less-from}
use Rattle.gtfs_field.proofs.TestFacts.{first_so as first_true, second_so as second_true}
use Rattle.gtfs_rows.specs.TransferOrder.{by_key}
use Rattle.gtfs_rows.proofs.KeyedRows.{no_entries}

-- ---- a function of the values

module _ {K X Y : Type 0} (R : K → K → Ordering) (f : X → Y) where
  abbrev moved : List (K × X) → List (K × Y)
  moved es = map (λ e. (e.0, f e.1)) es

  put_moved : (k : K) (v : X) (es : List (K × X)) → moved (put R k v es) ≡ put R k (f v) (moved es)
  put_moved k v [] = refl
  put_moved k v (e ∷ es) =
      elim (R k e.0) as (λ o. moved (by_order o ((k, v) ∷ e ∷ es) ((e.0, v) ∷ es) (e ∷ put R k v es))
      ≡ by_order o ((k, f v) ∷ (e.0, f e.1) ∷ moved es) ((e.0, f v) ∷ moved es) ((e.0, f e.1) ∷ put R k (f v) (moved es))) [
        | Less ↦ refl
        | Equal ↦ refl
        | Greater ↦ ap (λ ys. (e.0, f e.1) ∷ ys) (put_moved k v es)
      ]

  values_moved : (es : List (K × X)) → map (λ e. e.1) (moved es) ≡ map f (map (λ e. e.1) es)
  values_moved [] = refl
  values_moved (e ∷ es) = ap (λ ys. f e.1 ∷ ys) (values_moved es)

  module _ (o : IsTotalOrder R) where
    entries_moved : (es : List (K × X)) → moved (table.entries (table.from_entries {R = R} es)) ≡ table.entries (table.from_entries {R = R} (moved es))
    entries_moved [] = ap moved (no_entries R) ∙ sym (no_entries R)
    entries_moved (e ∷ es) =
        ap moved (table.entries-insert o (table.from_entries {R = R} es) e.0 e.1)
        ∙ put_moved e.0 e.1 (table.entries (table.from_entries {R = R} es))
        ∙ ap (put R e.0 (f e.1)) (entries_moved es)
        ∙ sym (table.entries-insert o (table.from_entries {R = R} (moved es)) e.0 (f e.1))

    module _ (key : Y → K) (g : X → K) where
      keyed_moved : (xs : List X) → All (λ x. key (f x) ≡ g x) xs → map (λ y. (key y, y)) (map f xs) ≡ moved (map (λ x. (g x, x)) xs)
      keyed_moved [] same = refl
      keyed_moved (x ∷ xs) same = λ i. (All-head (λ x. key (f x) ≡ g x) x xs same i, f x) ∷ keyed_moved xs (All-tail (λ x. key (f x) ≡ g x) x xs same) i

      -- rows that have the same keys as what they are made of
      pub by_key_made : (xs : List X) → All (λ x. key (f x) ≡ g x) xs
          → by_key R key (map f xs) ≡ map f (table.values (table.from_entries {R = R} (map (λ x. (g x, x)) xs)))
      by_key_made xs same =
          ap (λ es. table.values (table.from_entries {R = R} es)) (keyed_moved xs same)
          ∙ ap (map (λ e. e.1)) (sym (entries_moved (map (λ x. (g x, x)) xs)))
          ∙ values_moved (table.entries (table.from_entries {R = R} (map (λ x. (g x, x)) xs)))

-- ---- each entry has the key of its value, which is one of the rows

module _ {X : Type 0} {K : Type 0} (R : K → K → Ordering) (o : IsTotalOrder R) (anti : table.IsAntisymmetric R) (g : X → K) (P : X → Type 0) where
  pub record IsKeyed (e : K × X) : Type 0 where
    pub key : e.0 ≡ g e.1
    pub row : P e.1

  put_keyed : (k : K) (v : X) (es : List (K × X)) → IsKeyed (k, v) → All IsKeyed es → All IsKeyed (put R k v es)
  put_keyed k v [] h all = All-cons IsKeyed (k, v) [] h (All-nil IsKeyed)
  put_keyed k v (e ∷ es) h all =
      elim (R k e.0) as (λ r. R k e.0 ≡ r → All IsKeyed (by_order r ((k, v) ∷ e ∷ es) ((e.0, v) ∷ es) (e ∷ put R k v es))) [
        | Less ↦ λ is. All-cons IsKeyed (k, v) (e ∷ es) h all
        | Equal ↦ λ is. All-cons IsKeyed (e.0, v) es (record { key = sym (anti k e.0 is) ∙ h.key; row = h.row }) (All-tail IsKeyed e es all)
        | Greater ↦ λ is. All-cons IsKeyed e (put R k v es) (All-head IsKeyed e es all) (put_keyed k v es h (All-tail IsKeyed e es all))
      ] refl

  entries_keyed : (xs : List X) → All P xs → All IsKeyed (table.entries (table.from_entries {R = R} (map (λ x. (g x, x)) xs)))
  entries_keyed [] all = subst (All IsKeyed) (sym (no_entries R)) (All-nil IsKeyed)
  entries_keyed (x ∷ xs) all =
      let rest = table.from_entries {R = R} (map (λ x. (g x, x)) xs) in
      subst (All IsKeyed) (sym (table.entries-insert o rest (g x) x))
      (put_keyed (g x) x (table.entries rest) (record { key = refl; row = All-head P x xs all }) (entries_keyed xs (All-tail P x xs all)))

  keys_of : (es : List (K × X)) → All IsKeyed es → map (λ e. e.0) es ≡ map g (map (λ e. e.1) es)
  keys_of [] all = refl
  keys_of (e ∷ es) all = λ i. (All-head IsKeyed e es all).key i ∷ keys_of es (All-tail IsKeyed e es all) i

  rows_of : (es : List (K × X)) → All IsKeyed es → All P (map (λ e. e.1) es)
  rows_of [] all = All-nil P
  rows_of (e ∷ es) all = All-cons P e.1 (map (λ e. e.1) es) (All-head IsKeyed e es all).row (rows_of es (All-tail IsKeyed e es all))

  module _ (xs : List X) (all : All P xs) where
    abbrev made : table.FinMap R X
    made = table.from_entries {R = R} (map (λ x. (g x, x)) xs)

    pub keys_are : table.keys made ≡ map g (table.values made)
    keys_are = keys_of (table.entries made) (entries_keyed xs all)

    pub values_are : All P (table.values made)
    values_are = rows_of (table.entries made) (entries_keyed xs all)

-- ---- keys ascend

module _ {K X : Type 0} (R : K → K → Ordering) where
  below_each : (k : K) (es : List (K × X)) → T (below_all R k es) → All (λ q. R k q ≡ Less) (map (λ e. e.0) es)
  below_each k [] t = All-nil (λ q. R k q ≡ Less)
  below_each k (e ∷ es) t =
      All-cons (λ q. R k q ≡ Less) e.0 (map (λ e. e.0) es) (less-from (R k e.0) (first_true (is_lt (R k e.0)) (below_all R k es) t))
      (below_each k es (second_true (is_lt (R k e.0)) (below_all R k es) t))

  sorted_ascend : (es : List (K × X)) → T (table.is_sorted R es) → AllPairs (λ p q. R p q ≡ Less) (map (λ e. e.0) es)
  sorted_ascend [] t = λ i j d below within. absurd (omega arith)
  sorted_ascend (e ∷ es) t =
      AllPairs-cons (λ p q. R p q ≡ Less) e.0 (map (λ e. e.0) es)
      (below_each e.0 es (first_true (below_all R e.0 es) (table.is_sorted R es) t)) (sorted_ascend es (second_true (below_all R e.0 es) (table.is_sorted R es) t))

  pub keys_ascend : (m : table.FinMap R X) → AllPairs (λ p q. R p q ≡ Less) (table.keys m)
  keys_ascend m = sorted_ascend (table.entries m) (table.entries_sorted m)
