-- What a written row has under a column's name.
use Rattle.std.proofs.Common.{◌≡◌, ◌+◌, ◌<◌, ℕ, zero, suc, List, [], ◌∷◌, length, get_or, map, true, false, Bool, cond, Option, Some, None, refl, ap, ◌∙◌, arith, inl, inr}
use Rattle.std.specs.Prelude.{nat_lt, if◌then◌else◌, bytes_eq, find, position, option_map, option_and_then}
use Rattle.std.specs.List.{list_all, position_or_len}
use Rattle.std.proofs.lemmas.Bool.{and_parts, cases_Bool}
use Rattle.std.proofs.lemmas.Bool.Decides.{nat_tests}
use Rattle.std.proofs.lemmas.List.{get_or-map}
use Rattle.gtfs_table.specs.Blanks.{cut, without_first_blanks}
use Rattle.gtfs_table.specs.Tables.{field_under, record_at, column_of, value}
use Rattle.gtfs_table.specs.declared.file.File.{File}
use Rattle.gtfs_table.specs.declared.file.File.TheVariants as file
use Rattle.gtfs_table.proofs.ValueFacts.{next-record}
use Rattle.gtfs_table.specs.Rows.{records_in, is_empty}
use Rattle.gtfs_schema.specs.Columns.{Column, columns_of, column_named}
use Rattle.gtfs_schema.specs.RowConditions.{text_in, value_in}
use Rattle.gtfs_schema.specs.FieldValues.{readable}
use Rattle.gtfs_schema.proofs.SiteFacts.{text_is}
use Rattle.gtfs_rows.specs.Cells.{Cell, is_cell, are_cells, cell_text, record_text}
use Rattle.gtfs_rows.specs.NamedCells.{cell_named, text_named}
use Rattle.gtfs_rows.specs.WrittenContent.{records_of_cells, dataset_of_cells}
use Rattle.gtfs_rows.proofs.CellTexts.{writes_value, readable_value}
use Rattle.gtfs_rows.proofs.Visible.{cut-visible}

-- ---- cells

cell-cut : (c : Column) (v : Cell) → is_cell c v ≡ true → cut (cell_text c.kind v) ≡ cell_text c.kind v
cell-cut c None h = cut-visible [] refl
cell-cut c (Some v) h = (writes_value c.kind v h).cut

pub cell-read : (c : Column) (v : Cell) → is_cell c v ≡ true → readable c.kind (cell_text c.kind v) ≡ v
cell-read c None h = refl
cell-read c (Some v) h = readable_value c.kind v h

-- ---- the position of a column

abbrev is_name : List ℕ → List ℕ → Bool
is_name name column = bytes_eq (cut column) name

next_position : {X : Type 0} (p : X → Bool) (x : X) (xs : List X) → position p (x ∷ xs) ≡ (if p x then Some 0 else option_map suc (position p xs))
next_position p x xs = elim (cases_Bool (p x)) [
  | inl here ↦ let some : nat_lt 0 (suc (length xs)) ≡ true = grind (arith, nat_tests) in rw (here, some) refl
  | inr later ↦
      let m = position_or_len p xs in
      let same : nat_lt (1 + m) (suc (length xs)) ≡ nat_lt m (length xs) = grind (arith, nat_tests) in
      let more : 1 + m ≡ suc m = omega arith in
      rw (later, same, more) (chosen (nat_lt m (length xs)) m)
]
  where
    chosen : (b : Bool) (m : ℕ) → cond b (Some (suc m)) None ≡ option_map suc (cond b (Some m) None)
    chosen true m = refl
    chosen false m = refl

next_field : (f : List ℕ) (fs : List (List ℕ)) (o : Option ℕ) → field_under (f ∷ fs) (option_map suc o) ≡ field_under fs o
next_field f fs None = refl
next_field f fs (Some n) = refl

-- each name is its own cut
abbrev are_cut : List Column → Bool
are_cut cs = list_all (λ c. bytes_eq (cut c.name) c.name) cs

pub named-text : (name : List ℕ) (cs : List Column) (vs : List Cell) → are_cut cs ≡ true → are_cells cs vs ≡ true
    → field_under (record_text cs vs) (position (is_name name) (map (λ c. c.name) cs)) ≡ text_named cs vs name
named-text name [] vs cuts are = refl
named-text name (c ∷ cs) [] cuts are = cc
named-text name (c ∷ cs) (v ∷ vs) cuts are =
    let names = and_parts (bytes_eq (cut c.name) c.name) (are_cut cs) cuts in
    let parts = and_parts (is_cell c v) (are_cells cs vs) are in
    let test : is_name name c.name ≡ bytes_eq c.name name = ap (λ t. bytes_eq t name) (text_is (cut c.name) c.name names.0) in
    ap (field_under (record_text (c ∷ cs) (v ∷ vs))) (next_position (is_name name) c.name (map (λ k. k.name) cs)) ∙ elim (cases_Bool (bytes_eq c.name name)) [
      | inl here ↦ rw (test, here) (cell-cut c v parts.0)
      | inr later ↦ rw (test, later) (next_field (cell_text c.kind v) (record_text cs vs) (position (is_name name) (map (λ k. k.name) cs)) ∙ named-text name cs vs names.1 parts.1)
    ]

pub named-value : (name : List ℕ) (cs : List Column) (vs : List Cell) → are_cells cs vs ≡ true
    → option_and_then (λ c. readable c.kind (text_named cs vs name)) (find (λ c. bytes_eq c.name name) cs) ≡ cell_named cs vs name
named-value name [] vs are = refl
named-value name (c ∷ cs) [] are = cc
named-value name (c ∷ cs) (v ∷ vs) are =
    let parts = and_parts (is_cell c v) (are_cells cs vs) are in
    elim (cases_Bool (bytes_eq c.name name)) [
      | inl here ↦ rw here (cell-read c v parts.0)
      | inr later ↦ rw later (named-value name cs vs parts.1)
    ]

-- ---- a written file

pub kept_cut : (x : File) → are_cut (columns_of x) ≡ true
unfolding without_first_blanks
kept_cut file.Agency = refl
kept_cut file.Stops = refl
kept_cut file.Routes = refl
kept_cut file.Trips = refl
kept_cut file.StopTimes = refl
kept_cut file.Calendar = refl
kept_cut file.CalendarDates = refl
kept_cut file.Frequencies = refl
kept_cut file.Transfers = refl

pub records_written : (others : List (List ℕ)) (cells : File → List (List Cell)) (x : File) → records_in (dataset_of_cells others cells) x ≡ records_of_cells x (cells x)
records_written others cells file.Agency = refl
records_written others cells file.Stops = refl
records_written others cells file.Routes = refl
records_written others cells file.Trips = refl
records_written others cells file.StopTimes = refl
records_written others cells file.Calendar = refl
records_written others cells file.CalendarDates = refl
records_written others cells file.Frequencies = refl
records_written others cells file.Transfers = refl

pub all_at : {X : Type 0} (p : X → Bool) (xs : List X) (k : ℕ) (d : X) → list_all p xs ≡ true → k < length xs → p (get_or xs k d) ≡ true
all_at p [] k d all within = absurd (omega arith)
all_at p (x ∷ xs) zero d all within = (and_parts (p x) (list_all p xs) all).0
all_at p (x ∷ xs) (suc k) d all within = all_at p xs k d ((and_parts (p x) (list_all p xs) all).1) (omega arith)

module _ (x : File) (rows' : List (List Cell)) (k : ℕ) (d : List Cell) (within : k < length rows') where
  pub record-written : record_at (records_of_cells x rows') (k + 2) ≡ record_text (columns_of x) (get_or rows' k d)
  record-written =
      let next : k + 2 ≡ suc k + 1 = omega arith in
      ap (record_at (records_of_cells x rows')) next
      ∙ next-record (records_of_cells x rows') (suc k)
      ∙ get_or-map (record_text (columns_of x)) rows' k d [] within

  module _ (name : List ℕ) (filled : is_empty name ≡ false) (are : are_cells (columns_of x) (get_or rows' k d) ≡ true) where
    text-written : value (records_of_cells x rows') (k + 2) name ≡ text_named (columns_of x) (get_or rows' k d) name
    text-written =
        let found : column_of (records_of_cells x rows') name ≡ position (is_name name) (map (λ c. c.name) (columns_of x)) = rw filled refl in
        ap (λ r. field_under r (column_of (records_of_cells x rows') name)) record-written
        ∙ ap (field_under (record_text (columns_of x) (get_or rows' k d))) found
        ∙ named-text name (columns_of x) (get_or rows' k d) (kept_cut x) are

module _ (others : List (List ℕ)) (cells : File → List (List Cell)) (x : File) (sound : list_all (are_cells (columns_of x)) (cells x) ≡ true) where
  -- the text of a column in a row
  pub text_written : (k : ℕ) (d : List Cell) (name : List ℕ) → k < length (cells x) → is_empty name ≡ false
      → text_in (dataset_of_cells others cells) x (k + 2) name ≡ text_named (columns_of x) (get_or (cells x) k d) name
  text_written k d name within filled =
      ap (λ rs. value rs (k + 2) name) (records_written others cells x)
      ∙ text-written x (cells x) k d within name filled (all_at (are_cells (columns_of x)) (cells x) k d sound within)

  -- the value of a column in a row
  pub value_written : (k : ℕ) (d : List Cell) (name : List ℕ) → k < length (cells x) → is_empty name ≡ false
      → value_in (dataset_of_cells others cells) x (k + 2) name ≡ cell_named (columns_of x) (get_or (cells x) k d) name
  value_written k d name within filled =
      ap (λ t. option_and_then (λ c. readable c.kind t) (column_named x name)) (text_written k d name within filled)
      ∙ named-value name (columns_of x) (get_or (cells x) k d) (all_at (are_cells (columns_of x)) (cells x) k d sound within)
