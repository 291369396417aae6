-- The rows of a written file, and the codes that go by one field of a row.
use Rattle.std.proofs.Common.{◌≡◌, ◌+◌, ◌-◌, ◌<◌, ℕ, List, [], ◌∷◌, length, get_or, true, false, Bool, Option, Some, None, refl, sym, ap, ◌∙◌, arith, inl, inr, subst}
use Rattle.std.specs.Prelude.{◌&&◌, not, nat_lt, nat_le, bytes_eq, find, filter}
use Rattle.std.specs.List.{list_any, list_all, range_with_len}
use Rattle.std.proofs.lemmas.Bool.{and_parts, and_from, and_right, and_left, cases_Bool, not-true, or_left, or_right, or_cases, leb-true, ltb-true, le-leb}
use Rattle.std.proofs.lemmas.Bool.Decides.{nat_tests}
use Rattle.std.proofs.lemmas.List.{length-map}
use Rattle.gtfs_table.specs.Blanks.{cut}
use Rattle.gtfs_table.specs.Tables.{Records, record_at}
use Rattle.gtfs_table.specs.declared.file.File.{File}
use Rattle.gtfs_table.specs.declared.file.File.TheVariants as file
use Rattle.gtfs_table.specs.Rows.{records_in, is_row, rows, is_empty}
use Rattle.gtfs_schema.specs.Columns.{Kind, id, text, count, choice, time, date, colour, coordinate, Empty, refused, nothing, means, Column, columns_of, column_named}
use Rattle.gtfs_schema.specs.ReadRules.{may_lack}
use Rattle.gtfs_schema.specs.ColumnRules.{is_required}
use Rattle.gtfs_schema.specs.FieldRules.{in_row, is_id, is_form_fault, is_range_fault, value_empty, value_unreadable, value_out_of_range, control_in_id}
use Rattle.gtfs_schema.specs.RowConditions.{is_named, text_in}
use Rattle.gtfs_schema.specs.FieldValues.{word, amount, read_as, has_control, if_there}
use Rattle.gtfs_schema.proofs.NamedFacts.{kept_name_filled}
use Rattle.gtfs_rows.specs.Cells.{Cell, is_cell, are_cells, cell_text, text_of, record_text}
use Rattle.gtfs_rows.specs.NamedCells.{cell_named, text_named}
use Rattle.gtfs_rows.specs.WrittenContent.{records_of_cells, dataset_of_cells}
use Rattle.gtfs_rows.proofs.CellTexts.{writes_value, filled_parts}
use Rattle.gtfs_rows.proofs.RangeLists.{filter_all}
use Rattle.gtfs_rows.proofs.RowTexts.{all_at, record-written, records_written, text_written}

abbrev is_full : List (List ℕ) → Bool
is_full fields = list_any (λ field. not (is_empty (cut field))) fields

-- a column that each row fills
abbrev fills : List Column → Bool
fills cs = list_any (λ c. not (may_lack c.empty)) cs

kept_fills : (x : File) → fills (columns_of x) ≡ true
kept_fills file.Agency = refl
kept_fills file.Stops = refl
kept_fills file.Routes = refl
kept_fills file.Trips = refl
kept_fills file.StopTimes = refl
kept_fills file.Calendar = refl
kept_fills file.CalendarDates = refl
kept_fills file.Frequencies = refl
kept_fills file.Transfers = refl

full-here : (c : Column) (v : Cell) → is_cell c v ≡ true → not (may_lack c.empty) ≡ true → not (is_empty (cut (cell_text c.kind v))) ≡ true
full-here c None h fill = let never = not-true (may_lack c.empty) fill in cc
full-here c (Some v) h fill = let w = writes_value c.kind v h in rw (w.cut, w.filled) refl

full-row : (cs : List Column) (vs : List Cell) → are_cells cs vs ≡ true → fills cs ≡ true → is_full (record_text cs vs) ≡ true
full-row [] vs are fill = cc
full-row (c ∷ cs) [] are fill = cc
full-row (c ∷ cs) (v ∷ vs) are fill =
    let parts = and_parts (is_cell c v) (are_cells cs vs) are in
    elim (or_cases (not (may_lack c.empty)) (fills cs) fill) [
      | inl here ↦ or_left (not (is_empty (cut (cell_text c.kind v)))) (is_full (record_text cs vs)) (full-here c v parts.0 here)
      | inr later ↦ or_right (not (is_empty (cut (cell_text c.kind v)))) (is_full (record_text cs vs)) (full-row cs vs parts.1 later)
    ]

-- the row number of an element
pub record IsRowAt (n count : ℕ) : Type 0 where
  pub index : ℕ
  pub is : n ≡ index + 2
  pub within : index < count

-- the column and the cell of a kept name
pub record HasCell (cs : List Column) (vs : List Cell) (c : Column) (name : List ℕ) : Type 0 where
  pub cell : Cell
  pub is : is_cell c cell ≡ true
  pub text : text_named cs vs name ≡ cell_text c.kind cell
  pub named : cell_named cs vs name ≡ cell

pub cell_found : (cs : List Column) (vs : List Cell) (c : Column) (name : List ℕ) → are_cells cs vs ≡ true → find (λ k. bytes_eq k.name name) cs ≡ Some c → HasCell cs vs c name
cell_found [] vs c name are found = cc
cell_found (k ∷ cs) [] c name are found = cc
cell_found (k ∷ cs) (v ∷ vs) c name are found =
    let parts = and_parts (is_cell k v) (are_cells cs vs) are in
    elim (cases_Bool (bytes_eq k.name name)) [
      | inl here ↦
          let some : Some k ≡ Some c = rw here at found in
          let same : k ≡ c = cc in
          subst (λ j. HasCell (k ∷ cs) (v ∷ vs) j name) same (record { cell = v; is = parts.0; text = rw here refl; named = rw here refl })
      | inr later ↦
          let rest = cell_found cs vs c name parts.1 (rw later at found) in
          record { cell = rest.cell; is = rest.is; text = rw later (rest.text); named = rw later (rest.named) }
    ]

module _ (others : List (List ℕ)) (cells : File → List (List Cell)) (x : File) (sound : list_all (are_cells (columns_of x)) (cells x) ≡ true) where
  rs : Records
  rs = records_of_cells x (cells x)

  length-records : length (records_of_cells x (cells x)) ≡ length (cells x) + 1
  length-records = let e = length-map (cells x) (record_text (columns_of x)) in omega (arith, e)

  pub row_written : (k : ℕ) → k < length (cells x) → is_row (records_in (dataset_of_cells others cells) x) (k + 2) ≡ true
  row_written k within =
      let all = records_of_cells x (cells x) in
      let first : nat_lt 1 (k + 2) ≡ true = grind (arith, nat_tests) in
      let last : nat_le (k + 2) (length all) ≡ true = le-leb (k + 2) (length all) (omega (arith, length-records)) in
      let full : is_full (record_at all (k + 2)) ≡ true = ap is_full (record-written x (cells x) k [] within)
      ∙ full-row (columns_of x) (get_or (cells x) k []) (all_at (are_cells (columns_of x)) (cells x) k [] sound within) (kept_fills x) in
      ap (λ rs. is_row rs (k + 2)) (records_written others cells x) ∙ and_from (nat_lt 1 (k + 2) && nat_le (k + 2) (length all)) _ (and_from _ _ first last) full

  pub row_index : (n : ℕ) → is_row (records_in (dataset_of_cells others cells) x) n ≡ true → IsRowAt n (length (cells x))
  row_index n row =
      let all = records_of_cells x (cells x) in
      let here : is_row all n ≡ true = ap (λ rs. is_row rs n) (sym (records_written others cells x)) ∙ row in
      let range = (and_parts (nat_lt 1 n && nat_le n (length all)) _ here).0 in
      let bounds = and_parts (nat_lt 1 n) (nat_le n (length all)) range in
      let low = ltb-true 1 n bounds.0 in
      let high = leb-true n (length all) bounds.1 in
      record { index = n - 2; is = omega (arith, low); within = omega (arith, low, high, length-records) }

  -- all records after the header are rows
  pub rows_written : rows (dataset_of_cells others cells) x ≡ range_with_len 2 (length (cells x))
  rows_written =
      let all = records_in (dataset_of_cells others cells) x in
      let size : length all - 1 ≡ length (cells x) = let e = ap length (records_written others cells x) in omega (arith, e, length-records) in
      ap (λ n. filter (is_row all) (range_with_len 2 n)) size ∙ filter_all (is_row all) 2 (length (cells x)) row_written

  -- a test that no cell's text passes
  no_field : (test : Column → List ℕ → Bool) → ((c : Column) (v : Cell) → is_cell c v ≡ true → test c (cell_text c.kind v) ≡ false)
      → (n : ℕ) (name : List ℕ) → in_row test (dataset_of_cells others cells) x n name ≡ false
  no_field test never n name = elim (cases_Bool (is_row (records_in (dataset_of_cells others cells) x) n)) [
    | inr outside ↦ and_left _ (if_there (column_named x name) (λ c. test c (text_in (dataset_of_cells others cells) x n name))) outside
    | inl row ↦ and_right (is_row (records_in (dataset_of_cells others cells) x) n) _ (at_column (column_named x name) refl (row_index n row))
  ]
    where
      at_column : (o : Option Column) → column_named x name ≡ o → IsRowAt n (length (cells x))
          → if_there o (λ c. test c (text_in (dataset_of_cells others cells) x n name)) ≡ false
      at_column None is at = refl
      at_column (Some c) is at =
          let k = at.index in
          let has = cell_found (columns_of x) (get_or (cells x) k []) c name (all_at (are_cells (columns_of x)) (cells x) k [] sound at.within) is in
          ap (λ m. test c (text_in (dataset_of_cells others cells) x m name)) at.is
          ∙ ap (test c) (text_written others cells x sound k [] name at.within (kept_name_filled x name c is) ∙ has.text)
          ∙ never c has.cell has.is

  -- E06
  needs : (c : Column) (v : Cell) → is_cell c v ≡ true → (is_required c && is_empty (cell_text c.kind v)) ≡ false
  needs c (Some v) h = and_right (is_required c) _ ((writes_value c.kind v h).filled)
  needs c None h = and_left (is_required c) true (not_required c.empty h)
    where
      not_required : (e : Empty) → may_lack e ≡ true → is_required (record { name = []; kind = id; empty = e }) ≡ false
      not_required refused h = cc
      not_required nothing h = refl
      not_required (means t) h = refl

  pub no_value_empty : (n : ℕ) (name : List ℕ) → value_empty (dataset_of_cells others cells) x n name ≡ false
  no_value_empty n name = and_right (is_named (dataset_of_cells others cells) x name) _ (no_field (λ c t. is_required c && is_empty t) needs n name)

  -- E07
  shaped : (c : Column) (v : Cell) → is_cell c v ≡ true → (not (is_empty (cell_text c.kind v)) && not (is_id c.kind) && is_form_fault (read_as c.kind (cell_text c.kind v))) ≡ false
  shaped c None h = refl
  shaped c (Some v) h = and_right (not (is_empty (text_of c.kind v)) && not (is_id c.kind)) _ (ap is_form_fault ((writes_value c.kind v h).read))

  pub no_value_unreadable : (n : ℕ) (name : List ℕ) → value_unreadable (dataset_of_cells others cells) x n name ≡ false
  no_value_unreadable n name = no_field (λ c t. not (is_empty t) && not (is_id c.kind) && is_form_fault (read_as c.kind t)) shaped n name

  -- E08
  inside : (c : Column) (v : Cell) → is_cell c v ≡ true → (not (is_empty (cell_text c.kind v)) && is_range_fault (read_as c.kind (cell_text c.kind v))) ≡ false
  inside c None h = refl
  inside c (Some v) h = and_right (not (is_empty (text_of c.kind v))) _ (ap is_range_fault ((writes_value c.kind v h).read))

  pub no_value_out_of_range : (n : ℕ) (name : List ℕ) → value_out_of_range (dataset_of_cells others cells) x n name ≡ false
  no_value_out_of_range n name = no_field (λ c t. not (is_empty t) && is_range_fault (read_as c.kind t)) inside n name

  -- E20
  clean : (k : Kind) (v : Cell) → is_cell (record { name = []; kind = k; empty = nothing }) v ≡ true → (is_id k && has_control (cell_text k v)) ≡ false
  clean id None h = refl
  clean id (Some (word t)) h = (filled_parts t h).clean
  clean id (Some (amount i)) h = cc
  clean text v h = refl
  clean count v h = refl
  clean (choice ranges) v h = refl
  clean time v h = refl
  clean date v h = refl
  clean colour v h = refl
  clean (coordinate axis) v h = refl

  without_control : (c : Column) (v : Cell) → is_cell c v ≡ true → (is_id c.kind && has_control (cell_text c.kind v)) ≡ false
  without_control c None h = clean c.kind None refl
  without_control c (Some v) h = clean c.kind (Some v) h

  pub no_control_in_id : (n : ℕ) (name : List ℕ) → control_in_id (dataset_of_cells others cells) x n name ≡ false
  no_control_in_id n name = no_field (λ c t. is_id c.kind && has_control t) without_control n name
