-- The ids of rows of a dataset that passes stand as they are, and those that name rows name them by their numbers.
use Rattle.std.proofs.Common.{◌≡◌, ℕ, ◌-◌, ◌∷◌, [], List, map, length, get_or, true, false, Bool, bytes_eq, codes, Option, Some, None, option_map, is_some, refl, sym, ap, ◌∙◌, inl, inr, subst, arith}
use Rattle.std.specs.Prelude.{◌&&◌, ◌||◌, not, find, option_and_then, unwrap_or}
use Prim.Native.String.{String as Literal}
use Rattle.std.specs.List.{All, list_any, range_with_len}
use Rattle.std.proofs.lemmas.Bool.{cases_Bool}
use Rattle.std.proofs.lemmas.Bool.Decides.{nat_tests}
use Rattle.std.proofs.lemmas.List.Quantifiers.{position-Some}
use Rattle.gtfs_schema.proofs.IdFacts.{first_row_is}
use Rattle.gtfs_schema.proofs.IdNumberFacts.{number_known, number_there}
use Rattle.std.proofs.lemmas.List.Elements.{All-head, All-tail, filter_passes}
use Rattle.std.specs.Cmp.Lexicographic.{nat_list_cmp_total}
use Rattle.gtfs_field.specs.TextOrder.{text_cmp}
use Rattle.gtfs_table.specs.Rows.{is_empty, is_row, records_in, rows}
use Rattle.gtfs_table.specs.Tables.{Dataset}
use Rattle.gtfs_table.specs.declared.file.File.{File}
use Rattle.gtfs_schema.specs.declared.code.Code.TheVariants as code
use Rattle.gtfs_schema.specs.Columns.{Column, id, refused, column_named}
use Rattle.gtfs_schema.specs.KeyRules.{is_known}
use Rattle.gtfs_schema.specs.Problems.{Passes, kept}
use Rattle.gtfs_schema.specs.ReadRules.{IsReadAs}
use Rattle.gtfs_schema.specs.ReadFields.{word_of}
use Rattle.gtfs_schema.specs.References.{references}
use Rattle.gtfs_schema.specs.RowConditions.{is_file, row_with, text_in, value_in, word_in}
use Rattle.gtfs_schema.specs.FieldValues.{as_word, has_control, readable}
use Rattle.gtfs_schema.specs.steps.Ids.{FirstRows, first_row_with, first_rows, ids_of, number_with, rows_by_number}
use Rattle.gtfs_schema.proofs.ReadFacts.{passes_read}
use Rattle.std.proofs.lemmas.Slice.Eq.{bytes_eq-Decides}
use Rattle.gtfs_table.proofs.BlankFacts.{no_text}
use Rattle.gtfs_rows.specs.TransferOrder.{by_key}
use Rattle.gtfs_rows.specs.ContentRead.{text_at}
use Rattle.gtfs_rows.specs.RowsInMemory.{is_number_within, text_of_number}
use Rattle.gtfs_reading.proofs.ByIds.{by_key_made, ids_read, rows_are}

-- ---- an id that is there

pub id_there : (t : List ℕ) → IsReadAs id t → is_empty t ≡ false → word_of id t ≡ Some t
id_there t read filled = elim (cases_Bool (has_control t)) [
  | inl control ↦ cc (rw (filled, control) at read)
  | inr sound ↦ rw (filled, sound) refl
]

pub no_id : (t : List ℕ) → is_empty t ≡ true → word_of id t ≡ None
no_id t empty = rw empty refl

id_text : (t : List ℕ) → IsReadAs id t → unwrap_or (word_of id t) [] ≡ t
id_text t read = elim (cases_Bool (is_empty t)) [
  | inl empty ↦ ap (λ o. unwrap_or o []) (no_id t empty) ∙ sym (no_text t empty)
  | inr filled ↦ ap (λ o. unwrap_or o []) (id_there t read filled)
]

-- ---- of a row

module _ (d : Dataset) (passes : Passes d) (x : File) (n : ℕ) (row : is_row (records_in d x) n ≡ true) (column : Literal) (c : Column)
    (there : column_named x (codes column) ≡ Some c) (is_id : c.kind ≡ id) where
  abbrev text_there : List ℕ
  text_there = text_in d x n (codes column)

  read_id : IsReadAs id text_there
  read_id = subst (λ k. IsReadAs k text_there) is_id (passes_read d passes x n (codes column) c row there).read

  pub word_is : word_in d x n column ≡ word_of id text_there
  word_is = ap (λ o. option_and_then as_word (option_and_then (λ c. readable c.kind text_there) o)) there ∙ ap (λ k. word_of k text_there) is_id

  -- the id of a row is its text
  pub text_at_is : text_at d x n column ≡ text_there
  text_at_is = ap (λ o. unwrap_or o []) word_is ∙ id_text text_there read_id

  pub word_there : is_empty text_there ≡ false → word_in d x n column ≡ Some text_there
  word_there filled = word_is ∙ id_there text_there read_id filled

  pub word_none : is_empty text_there ≡ true → word_in d x n column ≡ None
  word_none empty = word_is ∙ no_id text_there empty

  not_not : (b : Bool) → not b ≡ false → b ≡ true
  not_not true e = refl
  not_not false e = sym e

  value_there : is_empty text_there ≡ false → is_some (value_in d x n (codes column)) ≡ true
  value_there filled = ap (λ o. is_some (option_and_then (λ c. readable c.kind text_there) o)) there
      ∙ ap (λ k. is_some (readable k text_there)) is_id ∙ read_id ∙ ap not filled

  -- no reference that it is is unknown
  pub none_unknown : is_empty text_there ≡ false
      → list_any (λ r. is_file r.file x && bytes_eq r.column (codes column) && not (is_known d r.targets text_there)) references ≡ false
  none_unknown filled = rw (row, value_there filled) at (passes (record { file = kept x; row = n; code = code.E10; column = codes column }) refl)

-- a required id is filled
pub filled_required : (d : Dataset) → Passes d → (x : File) (n : ℕ) → is_row (records_in d x) n ≡ true → (column : Literal) (c : Column)
    → column_named x (codes column) ≡ Some c → c.kind ≡ id → c.empty ≡ refused → is_empty (text_in d x n (codes column)) ≡ false
filled_required d passes x n row column c there is_id required =
    let t = text_in d x n (codes column) in
    let has : is_some (readable c.kind t) ≡ true = rw required at (passes_read d passes x n (codes column) c row there).there in
    elim (cases_Bool (is_empty t)) [
      | inl empty ↦ cc (rw empty at has)
      | inr filled ↦ filled
    ]

-- ---- rows by their ids

module _ (d : Dataset) (passes : Passes d) (x : File) (column : Literal) (c : Column)
    (there : column_named x (codes column) ≡ Some c) (is_id : c.kind ≡ id) where
  all_rows : (ns : List ℕ) → All (λ n. is_row (records_in d x) n ≡ true) ns → All (λ n. text_at d x n column ≡ text_in d x n (codes column)) ns
  all_rows ns are k e h = text_at_is d passes x (get_or ns k e) (are k e h) column c there is_id

  -- the list of a content whose rows have this id
  pub content_list : {X : Type 0} (key : X → List ℕ) (f : ℕ → X) → ((n : ℕ) → key (f n) ≡ text_at d x n column)
      → by_key text_cmp key (map f (rows d x)) ≡ map f (rows_by_number (first_rows d x (codes column)))
  content_list key f keyed =
      let all = rows d x in
      let rows_too = filter_passes (is_row (records_in d x)) (range_with_len 2 (length (records_in d x) - 1)) in
      by_key_made text_cmp f nat_list_cmp_total key (λ n. text_in d x n (codes column)) all (λ k e h. keyed (get_or all k e) ∙ all_rows all rows_too k e h)

  -- the ids of that list are those of the column
  pub content_ids : {X : Type 0} (key : X → List ℕ) (f : ℕ → X) → ((n : ℕ) → key (f n) ≡ text_at d x n column)
      → map key (by_key text_cmp key (map f (rows d x))) ≡ ids_of (first_rows d x (codes column))
  content_ids key f keyed =
      let i = first_rows d x (codes column) in
      ap (map key) (content_list key f keyed) ∙ keyed_rows (rows_by_number i) (rows_are d x (codes column)) ∙ sym (ids_read d x (codes column))
    where
      keyed_rows : (ns : List ℕ) → All (λ n. is_row (records_in d x) n ≡ true) ns → map key (map f ns) ≡ map (λ n. text_in d x n (codes column)) ns
      keyed_rows [] are = refl
      keyed_rows (n ∷ ns) are = λ i. (keyed n ∙ text_at_is d passes x n (All-head (λ n. is_row (records_in d x) n ≡ true) n ns are) column c there is_id) i
          ∷ keyed_rows ns (All-tail (λ n. is_row (records_in d x) n ≡ true) n ns are) i

-- ---- numbers

find_none : (p : ℕ → Bool) (ns : List ℕ) → All (λ n. p n ≡ false) ns → find p ns ≡ None
find_none p [] all = refl
find_none p (n ∷ ns) all = rw (All-head (λ n. p n ≡ false) n ns all) (find_none p ns (All-tail (λ n. p n ≡ false) n ns all))

-- no row of a required id column has the empty id
module _ (d : Dataset) (passes : Passes d) (y : File) (target : Literal) (c : Column)
    (there : column_named y (codes target) ≡ Some c) (required : c.empty ≡ refused) (is_id : c.kind ≡ id) where
  filled_row : (m : ℕ) → is_row (records_in d y) m ≡ true → bytes_eq (text_in d y m (codes target)) [] ≡ false
  filled_row m row =
      let under = passes_read d passes y m (codes target) c row there in
      let has : is_some (readable c.kind (text_in d y m (codes target))) ≡ true = rw required at under.there in
      elim (cases_Bool (bytes_eq (text_in d y m (codes target)) [])) [
        | inl empty ↦
            let none : text_in d y m (codes target) ≡ [] = (bytes_eq-Decides (text_in d y m (codes target)) []).0 empty in
            cc (rw none at has)
        | inr filled ↦ filled
      ]

  pub no_empty_id : first_row_with (first_rows d y (codes target)) [] ≡ None
  no_empty_id =
      let all = filter_passes (is_row (records_in d y)) (range_with_len 2 (length (records_in d y) - 1)) in
      first_row_is d y (codes target) []
      ∙ find_none (λ m. bytes_eq (text_in d y m (codes target)) []) (rows d y) (λ k e h. filled_row (get_or (rows d y) k e) (all k e h))

pub known_one : (d : Dataset) (y : File) (name t : List ℕ) → not (is_known d ((y, name) ∷ []) t) ≡ false → is_some (first_row_with (first_rows d y name) t) ≡ true
known_one d y name t known = ap is_some (first_row_is d y name t) ∙ elim (row_with d y name t) as (λ o. not (is_some o || false) ≡ false → is_some o ≡ true) [
  | None ↦ λ e. sym e
  | Some m ↦ λ e. refl
] known

module _ (i : FirstRows) (t : List ℕ) where
  text_from : (o : Option ℕ) → number_with i t ≡ o → is_some o ≡ true → option_map (text_of_number (ids_of i)) o ≡ Some t
  text_from None e has = cc has
  text_from (Some n) e has = let at = position-Some (λ k. bytes_eq k t) (ids_of i) n [] e in ap Some ((bytes_eq-Decides (get_or (ids_of i) n []) t).0 at.1)

  -- the number of an id that a row has stands for that id
  pub numbered : is_some (first_row_with i t) ≡ true → option_map (text_of_number (ids_of i)) (number_with i t) ≡ Some t
  numbered known = text_from (number_with i t) refl (number_there i t known)

  unnumbered_from : (o : Option ℕ) → is_some o ≡ is_some (first_row_with i t) → first_row_with i t ≡ None → o ≡ None
  unnumbered_from None same none = refl
  unnumbered_from (Some n) same none = cc (rw none at same)

  pub unnumbered : first_row_with i t ≡ None → number_with i t ≡ None
  unnumbered none = unnumbered_from (number_with i t) (number_known i t) none

  within_from : (o : Option ℕ) → number_with i t ≡ o → is_number_within (length (ids_of i)) o ≡ true
  within_from None e = refl
  within_from (Some n) e = let at = position-Some (λ k. bytes_eq k t) (ids_of i) n [] e in let below = at.0 in grind (arith, nat_tests, below)

  -- a number is that of one of the ids
  pub number_within : is_number_within (length (ids_of i)) (number_with i t) ≡ true
  number_within = within_from (number_with i t) refl
