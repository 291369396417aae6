-- A header reports of a row just the problems that the row has in its length and in its fields.
use Rattle.std.proofs.Common.{arith, ◌≡◌, ℕ, List, [], ◌∷◌, true, false, Bool, refl, sym, ap, ◌∙◌, Option, Some, None}
use Rattle.std.specs.Prelude.{◌&&◌, ◌||◌, ◌==◌, bytes_eq, if◌then◌else◌, nat_lt}
use Rattle.std.specs.List.{list_any}
use Rattle.std.proofs.lemmas.Bool.{and_right, eqb-true as same_number}
use Rattle.std.proofs.lemmas.Bool.Decides.{nat_tests}
use Rattle.gtfs_field.proofs.NumberFacts.{one_way}
use Rattle.gtfs_table.specs.Tables.{Dataset}
use Rattle.gtfs_table.specs.declared.file.File.{File}
use Rattle.gtfs_schema.specs.declared.code.Code.{Code}
use Rattle.gtfs_schema.specs.declared.code.Code.TheVariants as code
use Rattle.gtfs_schema.specs.steps.CellFaults.{cell_code, is_found, when}
use Rattle.gtfs_schema.specs.Columns.{Column, column_named}
use Rattle.gtfs_schema.specs.steps.FieldCodes.{field_codes, in_file_of, is_in_row, length_code}
use Rattle.gtfs_schema.specs.FieldRules.{field_count, value_empty, value_unreadable, value_out_of_range, control_in_id, control_in_text}
use Rattle.gtfs_schema.specs.steps.KeptColumns.{is_kept, of_codes}
use Rattle.gtfs_schema.specs.Problems.{Problem, holds, holds_in, is_code, is_problem}
use Rattle.gtfs_schema.specs.RowConditions.{is_named, text_in}
use Rattle.gtfs_table.specs.Rows.{is_row, records_in, is_empty}
use Rattle.gtfs_schema.specs.FieldValues.{if_there}
use Rattle.gtfs_schema.proofs.BoolFacts.{and_parts, and_under}
use Rattle.gtfs_schema.proofs.CellFacts.{cell_other}
use Rattle.gtfs_schema.proofs.FieldFacts.{empty_reported, unreadable_reported, out_of_range_reported, control_in_id_reported, control_in_text_reported}
use Rattle.gtfs_schema.proofs.SiteFacts.{file_is}
use Rattle.gtfs_schema.proofs.RowFacts.{at_row}

-- ---- the length of a row

short_found : (a b : Bool) → is_found (if a then Some code.W01 else when b code.W02) code.W01 ≡ a
short_found true b = refl
short_found false true = refl
short_found false false = refl

long_found : (a b : Bool) → (a ≡ true → b ≡ false) → is_found (if a then Some code.W01 else when b code.W02) code.W02 ≡ b
long_found true b apart = sym (apart refl)
long_found false true apart = refl
long_found false false apart = refl

length_other : (a b : Bool) (c : Code) → is_code c code.W01 ≡ false → is_code c code.W02 ≡ false
    → is_found (if a then Some code.W01 else when b code.W02) c ≡ false
length_other true b c short long = short
length_other false true c short long = long
length_other false false c short long = refl

row_between : (e r b : Bool) → r ≡ true → (e && b) ≡ ((e && r) && b)
row_between true r b row = rw row refl
row_between false r b row = refl

pub empty_is : (name : List ℕ) → bytes_eq name [] ≡ is_empty name
empty_is [] = refl
empty_is (b ∷ bs) = let filled : is_empty (b ∷ bs) ≡ false = grind (arith, nat_tests) in sym filled

module _ (d : Dataset) (x : File) (n : ℕ) where
  abbrev pub cell_at : List ℕ → Column → Option Code
  cell_at name k = cell_code (is_named d x name) k (text_in d x n name)

  -- what is reported of the column of a name
  abbrev pub cell_reported : List ℕ → Code → Bool
  cell_reported name c = if_there (column_named x name) (λ k. is_found (cell_at name k) c)

  -- ---- which codes are reported of a row

  abbrev width : ℕ
  width = field_count d x 1

  abbrev count : ℕ
  count = field_count d x n

  abbrev pub length_reported : List ℕ → Code → Bool
  length_reported name c = is_empty name && is_found (length_code width count) c

  no_length : (name : List ℕ) (c : Code) → is_code c code.W01 ≡ false → is_code c code.W02 ≡ false → length_reported name c ≡ false
  no_length name c short long = and_right (is_empty name) (is_found (length_code width count) c)
      (length_other (nat_lt count width) (nat_lt width count) c short long)

  cell_by : (name : List ℕ) (c : Code) (condition : Bool) → (column_named x name ≡ None → condition ≡ false)
      → ((k : Column) → column_named x name ≡ Some k → is_found (cell_at name k) c ≡ condition) → cell_reported name c ≡ condition
  cell_by name c condition none some = go (column_named x name) refl
    where
      go : (o : Option Column) → column_named x name ≡ o → if_there o (λ k. is_found (cell_at name k) c) ≡ condition
      go None absent = sym (none absent)
      go (Some k) there = some k there

  no_cell : (name : List ℕ) (c : Code) → is_code c code.E06 ≡ false → is_code c code.E07 ≡ false → is_code c code.E08 ≡ false
      → is_code c code.E20 ≡ false → is_code c code.W05 ≡ false → cell_reported name c ≡ false
  no_cell name c e06 e07 e08 e20 w05 = cell_by name c false (λ absent. refl)
      (λ k there. cell_other c e07 e08 e06 e20 w05 (is_named d x name) k (text_in d x n name))

  or_second : (a b c : Bool) → a ≡ false → b ≡ c → (a || b) ≡ c
  or_second a b c none same = rw none same

  or_first : (a b c : Bool) → b ≡ false → a ≡ c → (a || b) ≡ c
  or_first true b c none same = same
  or_first false b c none same = none ∙ same

  module _ (row : is_row (records_in d x) n ≡ true) where
    codes_reported : (name : List ℕ) (c : Code) → (length_reported name c || cell_reported name c) ≡ (list_any (is_code c) field_codes && holds_in c d x n name)
    codes_reported name code.E06 = or_second (length_reported name code.E06) _ _ (no_length name code.E06 refl refl)
        (cell_by name code.E06 (value_empty d x n name) (λ absent. rw (row, absent) (and_right (is_named d x name) false refl))
        (λ k there. empty_reported d x n name k row there))
    codes_reported name code.E07 = or_second (length_reported name code.E07) _ _ (no_length name code.E07 refl refl)
        (cell_by name code.E07 (value_unreadable d x n name) (λ absent. rw (row, absent) refl) (λ k there. unreadable_reported d x n name k row there))
    codes_reported name code.E08 = or_second (length_reported name code.E08) _ _ (no_length name code.E08 refl refl)
        (cell_by name code.E08 (value_out_of_range d x n name) (λ absent. rw (row, absent) refl) (λ k there. out_of_range_reported d x n name k row there))
    codes_reported name code.E20 = or_second (length_reported name code.E20) _ _ (no_length name code.E20 refl refl)
        (cell_by name code.E20 (control_in_id d x n name) (λ absent. rw (row, absent) refl) (λ k there. control_in_id_reported d x n name k row there))
    codes_reported name code.W05 = or_second (length_reported name code.W05) _ _ (no_length name code.W05 refl refl)
        (cell_by name code.W05 (control_in_text d x n name) (λ absent. rw (row, absent) refl) (λ k there. control_in_text_reported d x n name k row there))
    codes_reported name code.W01 = or_first (length_reported name code.W01) _ _ (no_cell name code.W01 refl refl refl refl refl)
        (ap (λ b. is_empty name && b) (short_found (nat_lt count width) (nat_lt width count)) ∙ row_between (is_empty name) _ (nat_lt count width) row)
    codes_reported name code.W02 = or_first (length_reported name code.W02) _ _ (no_cell name code.W02 refl refl refl refl refl)
        (ap (λ b. is_empty name && b) (long_found (nat_lt count width) (nat_lt width count) (one_way count width))
        ∙ row_between (is_empty name) _ (nat_lt width count) row)
    codes_reported name c = or_second (length_reported name c) (cell_reported name c) _ (no_length name c refl refl) (no_cell name c refl refl refl refl refl)

    -- ---- what a header reports

    problem_here : (p : Problem) → is_in_row x n p ≡ true → is_problem d p ≡ holds_in p.code d x n p.column
    problem_here p at =
        let parts = and_parts (is_kept x p.file) (p.row == n) at in
        let file = file_is x p.file parts.0 in
        let same = same_number p.row n parts.1 in
        λ i. holds p.code d (file i) (same i) p.column

    reordered : (k r o h : Bool) → ((k && r) && (o && h)) ≡ (((o && k) && r) && h)
    reordered true true true h = refl
    reordered true true false h = refl
    reordered true false true h = refl
    reordered true false false h = refl
    reordered false r true h = refl
    reordered false r false h = refl

    pub here_reported : (p : Problem) → (is_in_row x n p && (length_reported p.column p.code || cell_reported p.column p.code))
        ≡ (at_row (in_file_of field_codes x) n p && is_problem d p)
    here_reported p =
        and_under (is_in_row x n p) (length_reported p.column p.code || cell_reported p.column p.code) (of_codes field_codes p && is_problem d p)
        (λ at. codes_reported p.column p.code ∙ ap (λ b. of_codes field_codes p && b) (sym (problem_here p at)))
        ∙ reordered (is_kept x p.file) (p.row == n) (of_codes field_codes p) (is_problem d p)

  -- ---- a record that is no row has none of these problems

  no_row_between : (e r b : Bool) → r ≡ false → ((e && r) && b) ≡ false
  no_row_between true r b none = rw none refl
  no_row_between false r b none = refl

  code_silent : is_row (records_in d x) n ≡ false → (name : List ℕ) (c : Code) → list_any (is_code c) field_codes ≡ true → holds_in c d x n name ≡ false
  code_silent none name code.E06 picked = rw none (and_right (is_named d x name) false refl)
  code_silent none name code.E07 picked = rw none refl
  code_silent none name code.E08 picked = rw none refl
  code_silent none name code.E20 picked = rw none refl
  code_silent none name code.W05 picked = rw none refl
  code_silent none name code.W01 picked = no_row_between (is_empty name) _ (nat_lt count width) none
  code_silent none name code.W02 picked = no_row_between (is_empty name) _ (nat_lt width count) none
  code_silent none name c picked = cc

pub silent_fields : (d : Dataset) (x : File) (p : Problem) → in_file_of field_codes x p ≡ true
    → is_row (records_in d x) p.row ≡ false → is_problem d p ≡ false
silent_fields d x p picked none =
    let parts = and_parts (of_codes field_codes p) (is_kept x p.file) picked in
    ap (λ f. holds p.code d f p.row p.column) (file_is x p.file parts.1) ∙ code_silent d x p.row none p.column p.code parts.0
