-- What a header reports of a row, one column after the other.
use Rattle.std.proofs.Common.{◌≡◌, ◌+◌, ◌<◌, ◌++◌, ℕ, List, [], ◌∷◌, length, take, get_or, true, false, Bool, refl, sym, ap, ◌∙◌, map, append-nil, Option, Some, None}
use Rattle.std.specs.Prelude.{◌&&◌, ◌||◌, filter_map, option_map}
use Rattle.std.specs.List.{cons_option, list_any}
use Rattle.std.proofs.lemmas.List.{map-append, take_more}
use Rattle.std.proofs.lemmas.List.Elements.{filter_map-append}
use Rattle.std.proofs.lemmas.List.Folds.{list_any_more}
use Rattle.gtfs_table.specs.Tables.{Records, column_of as index_of}
use Rattle.gtfs_schema.specs.declared.columns.Column.{Column as CodeColumn}
use Rattle.gtfs_row_rules.specs.declared.fields.Located.{Located as LocatedColumn}
use Rattle.gtfs_schema.specs.steps.ColumnView.{column_of}
use Rattle.gtfs_row_rules.specs.HeaderColumns.{Located, located, located_of}
use Rattle.gtfs_schema.specs.steps.FoundProblems.{Adds}
use Rattle.gtfs_schema.specs.Problems.{Problem, lists_problem}
use Rattle.gtfs_schema.proofs.AddFacts.{adds_alike}

-- ---- the columns that the header names

abbrev pub located_so_far : Records → List CodeColumn → ℕ → List Located
located_so_far rs columns i = filter_map (located rs) (map column_of (take i columns))

pub located_more : (rs : Records) (columns : List CodeColumn) (i : ℕ) (c : CodeColumn) → i < length columns
    → located_so_far rs columns (i + 1) ≡ located_so_far rs columns i ++ cons_option (located rs (column_of (get_or columns i c))) []
located_more rs columns i c within =
    ap (λ cs. filter_map (located rs) (map column_of cs)) (take_more columns i c within)
    ∙ ap (filter_map (located rs)) (map-append column_of (take i columns) (get_or columns i c ∷ []))
    ∙ filter_map-append (located rs) (map column_of (take i columns)) (column_of (get_or columns i c) ∷ [])

module _ (rs : Records) (columns : List CodeColumn) (i : ℕ) (c : CodeColumn) (ks : List LocatedColumn) (within : i < length columns)
    (before : map located_of ks ≡ located_so_far rs columns i) where
  abbrev next_located : Option ℕ → List Located
  next_located o = located_so_far rs columns i ++ cons_option (option_map (λ index. (column_of (get_or columns i c), index)) o) []

  pub located_next : (index : ℕ) → index_of rs (get_or columns i c).name.now ≡ Some index
      → map located_of (ks ++ record { column = get_or columns i c; index = index } ∷ []) ≡ located_so_far rs columns (i + 1)
  located_next index there =
      map-append located_of ks (record { column = get_or columns i c; index = index } ∷ [])
      ∙ ap (λ l. l ++ (column_of (get_or columns i c), index) ∷ []) before
      ∙ sym (located_more rs columns i c within ∙ ap next_located there)

  pub located_absent : index_of rs (get_or columns i c).name.now ≡ None → map located_of ks ≡ located_so_far rs columns (i + 1)
  located_absent absent = before ∙ sym (located_more rs columns i c within ∙ ap next_located absent ∙ append-nil (located_so_far rs columns i))

-- ---- problems reported one after the other

module _ {K : Type 0} (row first : Problem → Bool) (here : Problem → K → Bool) where
  abbrev pub reported_so_far : List K → ℕ → Problem → Bool
  reported_so_far ks i p = row p && (first p || list_any (here p) (take i ks))

  nothing_later : (r a : Bool) → (r && a) ≡ (r && (a || false))
  nothing_later r true = refl
  nothing_later r false = refl

  pub reported_start : (ks : List K) (xs ys : List Problem) → Adds (λ p. row p && first p) xs ys → Adds (reported_so_far ks 0) xs ys
  reported_start ks xs ys = adds_alike (λ p. row p && first p) (reported_so_far ks 0) xs ys (λ p. nothing_later (row p) (first p))

  joined : (l r a b c : Bool) → ((l || (r && (a || b))) || (r && c)) ≡ (l || (r && (a || (b || c))))
  joined true r a b c = refl
  joined false true true b c = refl
  joined false true false b c = refl
  joined false false a b c = refl

  pub reported_more : (ks : List K) (i : ℕ) (k : K) (xs ys zs : List Problem) → i < length ks
      → Adds (reported_so_far ks i) xs ys → Adds (λ p. row p && here p (get_or ks i k)) ys zs → Adds (reported_so_far ks (i + 1)) xs zs
  reported_more ks i k xs ys zs within before now p =
      now p ∙ ap (λ l. l || (row p && here p (get_or ks i k))) (before p)
      ∙ joined (lists_problem xs p) (row p) (first p) (list_any (here p) (take i ks)) (here p (get_or ks i k))
      ∙ ap (λ b. lists_problem xs p || (row p && (first p || b))) (sym (list_any_more (here p) ks i k within))
