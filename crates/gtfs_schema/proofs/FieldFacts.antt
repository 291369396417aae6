-- A field of a row has just the problem that its code reports.
use Rattle.std.proofs.Common.{arith, ◌≡◌, ℕ, List, [], ◌∷◌, true, false, Bool, refl, ap, ◌∙◌, Option, Some}
use Rattle.std.specs.Prelude.{◌&&◌, not, if◌then◌else◌}
use Rattle.std.proofs.lemmas.Bool.Decides.{nat_tests}
use Rattle.gtfs_field.proofs.TestFacts.{and_later}
use Rattle.gtfs_table.specs.Tables.{Dataset}
use Rattle.gtfs_table.specs.declared.file.File.{File}
use Rattle.gtfs_schema.specs.declared.code.Code.{Code}
use Rattle.gtfs_schema.specs.declared.code.Code.TheVariants as code
use Rattle.gtfs_schema.specs.steps.CellFaults.{cell_code, fault_code, is_found, when}
use Rattle.gtfs_schema.specs.Columns.{Column, column_named}
use Rattle.gtfs_schema.specs.ColumnRules.{is_required}
use Rattle.gtfs_schema.specs.FieldRules.{is_id, is_form_fault, value_empty, value_unreadable, value_out_of_range, control_in_id, control_in_text}
use Rattle.gtfs_table.specs.Rows.{records_in, is_row, is_empty}
use Rattle.gtfs_schema.specs.RowConditions.{is_named, text_in}
use Rattle.gtfs_schema.specs.FieldValues.{has_control, read_as}
use Rattle.gtfs_schema.proofs.CellFacts.{fault_other, unreadable_found, out_of_range_found, control_in_id_found, control_in_text_found}

-- a text that is not empty has the faults of its kind
filled_found : (empty required : Bool) (found : Option Code) (c : Code) → is_found (when required code.E06) c ≡ false
    → is_found (if empty then when required code.E06 else found) c ≡ (not empty && is_found found c)
filled_found true required found c none = none
filled_found false required found c none = refl

not_e07 : (b : Bool) → is_found (when b code.E06) code.E07 ≡ false
not_e07 true = refl
not_e07 false = refl

not_e08 : (b : Bool) → is_found (when b code.E06) code.E08 ≡ false
not_e08 true = refl
not_e08 false = refl

not_e20 : (b : Bool) → is_found (when b code.E06) code.E20 ≡ false
not_e20 true = refl
not_e20 false = refl

not_w05 : (b : Bool) → is_found (when b code.E06) code.W05 ≡ false
not_w05 true = refl
not_w05 false = refl

-- an empty text holds no control character
no_control : (t : List ℕ) (a : Bool) → (not (is_empty t) && (a && has_control t)) ≡ (a && has_control t)
no_control [] true = refl
no_control [] false = refl
no_control (b ∷ bs) a = let filled : is_empty (b ∷ bs) ≡ false = grind (arith, nat_tests) in rw filled refl

-- an empty text has the code of its column
empty_found : (empty named required : Bool) (found : Option Code) → is_found found code.E06 ≡ false
    → is_found (if empty then when (named && required) code.E06 else found) code.E06 ≡ (named && (required && empty))
empty_found true true true found none = refl
empty_found true true false found none = refl
empty_found true false required found none = refl
empty_found false true true found none = none
empty_found false true false found none = none
empty_found false false required found none = none

module _ (d : Dataset) (x : File) (n : ℕ) (name : List ℕ) (c : Column) (row : is_row (records_in d x) n ≡ true) (there : column_named x name ≡ Some c) where
  abbrev field : List ℕ
  field = text_in d x n name

  abbrev found : Option Code
  found = cell_code (is_named d x name) c field

  pub empty_reported : is_found found code.E06 ≡ value_empty d x n name
  empty_reported = rw (row, there) (empty_found (is_empty field) (is_named d x name) (is_required c) (fault_code c.kind field)
      (fault_other code.E06 refl refl refl refl c.kind field))

  pub unreadable_reported : is_found found code.E07 ≡ value_unreadable d x n name
  unreadable_reported = rw (row, there) (filled_found (is_empty field) (is_named d x name && is_required c) (fault_code c.kind field) code.E07 (not_e07 _)
      ∙ ap (λ b. not (is_empty field) && b) (unreadable_found c.kind field) ∙ and_later (not (is_empty field)) (not (is_id c.kind)) (is_form_fault (read_as c.kind field)))

  pub out_of_range_reported : is_found found code.E08 ≡ value_out_of_range d x n name
  out_of_range_reported = rw (row, there) (filled_found (is_empty field) (is_named d x name && is_required c) (fault_code c.kind field) code.E08 (not_e08 _)
      ∙ ap (λ b. not (is_empty field) && b) (out_of_range_found c.kind field))

  pub control_in_id_reported : is_found found code.E20 ≡ control_in_id d x n name
  control_in_id_reported = rw (row, there) (filled_found (is_empty field) (is_named d x name && is_required c) (fault_code c.kind field) code.E20 (not_e20 _)
      ∙ ap (λ b. not (is_empty field) && b) (control_in_id_found c.kind field) ∙ no_control field _)

  pub control_in_text_reported : is_found found code.W05 ≡ control_in_text d x n name
  control_in_text_reported = rw (row, there) (filled_found (is_empty field) (is_named d x name && is_required c) (fault_code c.kind field) code.W05 (not_w05 _)
      ∙ ap (λ b. not (is_empty field) && b) (control_in_text_found c.kind field) ∙ no_control field _)
