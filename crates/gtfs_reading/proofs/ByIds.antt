-- Rows by key are what is made of the sorted numbers of rows.
use Rattle.std.proofs.Common.{◌≡◌, ℕ, ◌-◌, ◌∷◌, [], List, map, length, true, refl, sym, ap, ◌∙◌, subst}
use Rattle.std.specs.Cmp.{IsTotalOrder}
use Rattle.std.specs.Cmp.Lexicographic.{nat_list_cmp_total}
use Rattle.std.specs.FinMap as table
use Rattle.std.specs.FinMap.{nat_cmp-IsAntisymmetric, slice_cmp-IsAntisymmetric}
use Rattle.std.specs.FinMap.Entries.{by_order, put}
use Rattle.std.specs.List.{All, range_with_len}
use Rattle.std.specs.declared.cmp.Ordering.{Ordering}
use Rattle.std.specs.declared.cmp.Ordering.TheVariants.{Less, Equal, Greater}
use Rattle.std.proofs.lemmas.List.{length-map}
use Rattle.std.proofs.lemmas.List.Elements.{All-cons, All-head, All-map, All-nil, All-tail, filter_passes}
use Rattle.gtfs_field.specs.TextOrder.{text_cmp}
use Rattle.gtfs_table.specs.Rows.{is_row, records_in, rows}
use Rattle.gtfs_table.specs.Tables.{Dataset}
use Rattle.gtfs_table.specs.declared.file.File.{File}
use Rattle.gtfs_schema.specs.RowConditions.{text_in}
use Rattle.gtfs_schema.specs.steps.Ids.{first_rows, ids_of, rows_by_number, FirstRows}
use Rattle.gtfs_rows.specs.TransferOrder.{by_key}
use Rattle.gtfs_rows.proofs.KeyedRows.{no_entries}

-- ---- a function of the values

module _ {K X Y : Type 0} (R : K → K → Ordering) (f : X → Y) where
  abbrev moved : List (K × X) → List (K × Y)
  moved es = map (λ e. (e.0, f e.1)) es

  put_moved : (k : K) (v : X) (es : List (K × X)) → moved (put R k v es) ≡ put R k (f v) (moved es)
  put_moved k v [] = refl
  put_moved k v (e ∷ es) =
      elim (R k e.0) as (λ o. moved (by_order o ((k, v) ∷ e ∷ es) ((e.0, v) ∷ es) (e ∷ put R k v es))
      ≡ by_order o ((k, f v) ∷ (e.0, f e.1) ∷ moved es) ((e.0, f v) ∷ moved es) ((e.0, f e.1) ∷ put R k (f v) (moved es))) [
        | Less ↦ refl
        | Equal ↦ refl
        | Greater ↦ ap (λ ys. (e.0, f e.1) ∷ ys) (put_moved k v es)
      ]

  values_moved : (es : List (K × X)) → map (λ e. e.1) (moved es) ≡ map f (map (λ e. e.1) es)
  values_moved [] = refl
  values_moved (e ∷ es) = ap (λ ys. f e.1 ∷ ys) (values_moved es)

  module _ (o : IsTotalOrder R) where
    entries_moved : (es : List (K × X)) → moved (table.entries (table.from_entries {R = R} es)) ≡ table.entries (table.from_entries {R = R} (moved es))
    entries_moved [] = ap moved (no_entries R) ∙ sym (no_entries R)
    entries_moved (e ∷ es) =
        ap moved (table.entries-insert o (table.from_entries {R = R} es) e.0 e.1)
        ∙ put_moved e.0 e.1 (table.entries (table.from_entries {R = R} es))
        ∙ ap (put R e.0 (f e.1)) (entries_moved es)
        ∙ sym (table.entries-insert o (table.from_entries {R = R} (moved es)) e.0 (f e.1))

    module _ (key : Y → K) (g : X → K) where
      keyed_moved : (xs : List X) → All (λ x. key (f x) ≡ g x) xs → map (λ y. (key y, y)) (map f xs) ≡ moved (map (λ x. (g x, x)) xs)
      keyed_moved [] same = refl
      keyed_moved (x ∷ xs) same = λ i. (All-head (λ x. key (f x) ≡ g x) x xs same i, f x) ∷ keyed_moved xs (All-tail (λ x. key (f x) ≡ g x) x xs same) i

      -- rows that have the same keys as what they are made of
      pub by_key_made : (xs : List X) → All (λ x. key (f x) ≡ g x) xs
          → by_key R key (map f xs) ≡ map f (table.values (table.from_entries {R = R} (map (λ x. (g x, x)) xs)))
      by_key_made xs same =
          ap (λ es. table.values (table.from_entries {R = R} es)) (keyed_moved xs same)
          ∙ ap (map (λ e. e.1)) (sym (entries_moved (map (λ x. (g x, x)) xs)))
          ∙ values_moved (table.entries (table.from_entries {R = R} (map (λ x. (g x, x)) xs)))

-- ---- a property of the values

module _ {K X : Type 0} (R : K → K → Ordering) (o : IsTotalOrder R) (P : X → Type 0) where
  abbrev Held : K × X → Type 0
  Held e = P e.1

  put_all : (k : K) (v : X) (es : List (K × X)) → P v → All Held es → All Held (put R k v es)
  put_all k v [] h all = All-cons Held (k, v) [] h (All-nil Held)
  put_all k v (e ∷ es) h all =
      elim (R k e.0) as (λ o. All Held (by_order o ((k, v) ∷ e ∷ es) ((e.0, v) ∷ es) (e ∷ put R k v es))) [
        | Less ↦ All-cons Held (k, v) (e ∷ es) h all
        | Equal ↦ All-cons Held (e.0, v) es h (All-tail Held e es all)
        | Greater ↦ All-cons Held e (put R k v es) (All-head Held e es all) (put_all k v es h (All-tail Held e es all))
      ]

  entries_all : (es : List (K × X)) → All Held es → All Held (table.entries (table.from_entries {R = R} es))
  entries_all [] all = subst (All Held) (sym (no_entries R)) (All-nil Held)
  entries_all (e ∷ es) all =
      subst (All Held) (sym (table.entries-insert o (table.from_entries {R = R} es) e.0 e.1))
      (put_all e.0 e.1 (table.entries (table.from_entries {R = R} es)) (All-head Held e es all) (entries_all es (All-tail Held e es all)))

  pub values_all : (es : List (K × X)) → All Held es → All P (table.values (table.from_entries {R = R} es))
  values_all es all = All-map P (λ e. e.1) (table.entries (table.from_entries {R = R} es)) (entries_all es all)

-- ---- the rows of a column by their ids

-- each is a row
pub rows_are : (d : Dataset) (x : File) (column : List ℕ) → All (λ n. is_row (records_in d x) n ≡ true) (rows_by_number (first_rows d x column))
rows_are d x column =
    let Row : ℕ → Type 0 = λ n. is_row (records_in d x) n ≡ true in
    let named : ℕ → List ℕ × ℕ = λ n. (text_in d x n column, n) in
    let all = rows d x in
    values_all text_cmp nat_list_cmp_total Row (map named all)
    (All-map (λ e. Row e.1) named all (filter_passes (is_row (records_in d x)) (range_with_len 2 (length (records_in d x) - 1))))

-- ---- each id with its first row

module _ (text : ℕ → List ℕ) where
  abbrev Paired : List ℕ × ℕ → Type 0
  Paired e = e.0 ≡ text e.1

  put_paired : (k : List ℕ) (v : ℕ) (es : List (List ℕ × ℕ)) → k ≡ text v → All Paired es → All Paired (put text_cmp k v es)
  put_paired k v [] h all = All-cons Paired (k, v) [] h (All-nil Paired)
  put_paired k v (e ∷ es) h all =
      elim (text_cmp k e.0) as (λ o. text_cmp k e.0 ≡ o → All Paired (by_order o ((k, v) ∷ e ∷ es) ((e.0, v) ∷ es) (e ∷ put text_cmp k v es))) [
        | Less ↦ λ is. All-cons Paired (k, v) (e ∷ es) h all
        | Equal ↦ λ is. All-cons Paired (e.0, v) es (sym (slice_cmp-IsAntisymmetric nat_cmp-IsAntisymmetric k e.0 is) ∙ h) (All-tail Paired e es all)
        | Greater ↦ λ is. All-cons Paired e (put text_cmp k v es) (All-head Paired e es all) (put_paired k v es h (All-tail Paired e es all))
      ] refl

  entries_paired : (ns : List ℕ) → All Paired (table.entries (table.from_entries {R = text_cmp} (map (λ n. (text n, n)) ns)))
  entries_paired [] = subst (All Paired) (sym (no_entries text_cmp)) (All-nil Paired)
  entries_paired (n ∷ ns) =
      let before = table.from_entries {R = text_cmp} (map (λ n. (text n, n)) ns) in
      subst (All Paired) (sym (table.entries-insert nat_list_cmp_total before (text n) n)) (put_paired (text n) n (table.entries before) refl (entries_paired ns))

  keys_read : (es : List (List ℕ × ℕ)) → All Paired es → map (λ e. e.0) es ≡ map text (map (λ e. e.1) es)
  keys_read [] all = refl
  keys_read (e ∷ es) all = λ i. All-head Paired e es all i ∷ keys_read es (All-tail Paired e es all) i

-- the ids of a column are the texts of their rows
pub ids_read : (d : Dataset) (x : File) (column : List ℕ) → ids_of (first_rows d x column) ≡ map (λ n. text_in d x n column) (rows_by_number (first_rows d x column))
ids_read d x column =
    let text : ℕ → List ℕ = λ n. text_in d x n column in
    keys_read text _ (entries_paired text (rows d x))

pub as_many : (ids : FirstRows) → length (ids_of ids) ≡ length (rows_by_number ids)
as_many ids = length-map (table.entries ids) (λ e. e.0) ∙ sym (length-map (table.entries ids) (λ e. e.1))
