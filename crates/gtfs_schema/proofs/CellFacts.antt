-- The code of a field is right: of E06, E07, E08, E20 and W05 just the one that was found holds.
use Rattle.std.proofs.Common.{◌≡◌, ℕ, List, true, false, Bool, refl, inl, inr}
use Rattle.std.specs.Prelude.{◌&&◌, not, Result, Ok, Err}
use Rattle.std.proofs.lemmas.Bool.{cases_Bool}
use Rattle.gtfs_field.specs.declared.fault.FieldFault.{FieldFault}
use Rattle.gtfs_field.specs.declared.fault.FieldFault.TheVariants.{Form, Range}
use Rattle.gtfs_schema.specs.declared.code.Code.{Code}
use Rattle.gtfs_schema.specs.declared.code.Code.TheVariants as code
use Rattle.gtfs_schema.specs.steps.CellFaults.{cell_code, code_of, fault_code, is_found, when}
use Rattle.gtfs_schema.specs.Columns.{Kind, id, text, count, choice, time, date, colour, coordinate, Column}
use Rattle.gtfs_schema.specs.FieldRules.{is_id, is_text, is_form_fault, is_range_fault}
use Rattle.gtfs_schema.specs.ColumnRules.{is_required}
use Rattle.gtfs_schema.specs.Problems.{is_code}
use Rattle.gtfs_schema.specs.FieldValues.{Value, read_as, has_control}
use Rattle.gtfs_table.specs.Rows.{is_empty}

-- ---- a text that is not empty

when_found : (b : Bool) → is_found (when b code.E20) code.E20 ≡ b
when_found true = refl
when_found false = refl

when_text : (b : Bool) → is_found (when b code.W05) code.W05 ≡ b
when_text true = refl
when_text false = refl

form_found : (r : Result Value FieldFault) → is_found (code_of r) code.E07 ≡ is_form_fault r
form_found (Ok v) = refl
form_found (Err Form) = refl
form_found (Err Range) = refl

range_found : (r : Result Value FieldFault) → is_found (code_of r) code.E08 ≡ is_range_fault r
range_found (Ok v) = refl
range_found (Err Form) = refl
range_found (Err Range) = refl

-- what is found of an id or a text is no fault of form or range
no_form_id : (b : Bool) → is_found (when b code.E20) code.E07 ≡ false
no_form_id true = refl
no_form_id false = refl

no_form_text : (b : Bool) → is_found (when b code.W05) code.E07 ≡ false
no_form_text true = refl
no_form_text false = refl

no_range_text : (b : Bool) → is_found (when b code.W05) code.E08 ≡ false
no_range_text true = refl
no_range_text false = refl

no_range_id : (b : Bool) (t : List ℕ) → has_control t ≡ b → is_found (when b code.E20) code.E08 ≡ is_range_fault (read_as id t)
no_range_id true t e = rw e refl
no_range_id false t e = rw e refl

no_id_text : (b : Bool) → is_found (when b code.W05) code.E20 ≡ false
no_id_text true = refl
no_id_text false = refl

no_text_id : (b : Bool) → is_found (when b code.E20) code.W05 ≡ false
no_text_id true = refl
no_text_id false = refl

no_id_code : (r : Result Value FieldFault) → is_found (code_of r) code.E20 ≡ false
no_id_code (Ok v) = refl
no_id_code (Err Form) = refl
no_id_code (Err Range) = refl

no_text_code : (r : Result Value FieldFault) → is_found (code_of r) code.W05 ≡ false
no_text_code (Ok v) = refl
no_text_code (Err Form) = refl
no_text_code (Err Range) = refl

pub unreadable_found : (kind : Kind) (t : List ℕ) → is_found (fault_code kind t) code.E07 ≡ (not (is_id kind) && is_form_fault (read_as kind t))
unreadable_found id t = no_form_id (has_control t)
unreadable_found text t = no_form_text (has_control t)
unreadable_found count t = form_found (read_as count t)
unreadable_found (choice ranges) t = form_found (read_as (choice ranges) t)
unreadable_found time t = form_found (read_as time t)
unreadable_found date t = form_found (read_as date t)
unreadable_found colour t = form_found (read_as colour t)
unreadable_found (coordinate axis) t = form_found (read_as (coordinate axis) t)

pub out_of_range_found : (kind : Kind) (t : List ℕ) → is_found (fault_code kind t) code.E08 ≡ is_range_fault (read_as kind t)
out_of_range_found id t = no_range_id (has_control t) t refl
out_of_range_found text t = no_range_text (has_control t)
out_of_range_found count t = range_found (read_as count t)
out_of_range_found (choice ranges) t = range_found (read_as (choice ranges) t)
out_of_range_found time t = range_found (read_as time t)
out_of_range_found date t = range_found (read_as date t)
out_of_range_found colour t = range_found (read_as colour t)
out_of_range_found (coordinate axis) t = range_found (read_as (coordinate axis) t)

pub control_in_id_found : (kind : Kind) (t : List ℕ) → is_found (fault_code kind t) code.E20 ≡ (is_id kind && has_control t)
control_in_id_found id t = when_found (has_control t)
control_in_id_found text t = no_id_text (has_control t)
control_in_id_found count t = no_id_code (read_as count t)
control_in_id_found (choice ranges) t = no_id_code (read_as (choice ranges) t)
control_in_id_found time t = no_id_code (read_as time t)
control_in_id_found date t = no_id_code (read_as date t)
control_in_id_found colour t = no_id_code (read_as colour t)
control_in_id_found (coordinate axis) t = no_id_code (read_as (coordinate axis) t)

pub control_in_text_found : (kind : Kind) (t : List ℕ) → is_found (fault_code kind t) code.W05 ≡ (is_text kind && has_control t)
control_in_text_found id t = no_text_id (has_control t)
control_in_text_found text t = when_text (has_control t)
control_in_text_found count t = no_text_code (read_as count t)
control_in_text_found (choice ranges) t = no_text_code (read_as (choice ranges) t)
control_in_text_found time t = no_text_code (read_as time t)
control_in_text_found date t = no_text_code (read_as date t)
control_in_text_found colour t = no_text_code (read_as colour t)
control_in_text_found (coordinate axis) t = no_text_code (read_as (coordinate axis) t)

-- ---- no other code is found

when_other : (b : Bool) (k c : Code) → is_code c k ≡ false → is_found (when b k) c ≡ false
when_other true k c other = other
when_other false k c other = refl

module _ (c : Code) (form : is_code c code.E07 ≡ false) (range : is_code c code.E08 ≡ false) where
  code_other : (r : Result Value FieldFault) → is_found (code_of r) c ≡ false
  code_other (Ok v) = refl
  code_other (Err Form) = form
  code_other (Err Range) = range

  pub fault_other : is_code c code.E20 ≡ false → is_code c code.W05 ≡ false → (kind : Kind) (t : List ℕ) → is_found (fault_code kind t) c ≡ false
  fault_other in_id in_text id t = when_other (has_control t) code.E20 c in_id
  fault_other in_id in_text text t = when_other (has_control t) code.W05 c in_text
  fault_other in_id in_text count t = code_other (read_as count t)
  fault_other in_id in_text (choice ranges) t = code_other (read_as (choice ranges) t)
  fault_other in_id in_text time t = code_other (read_as time t)
  fault_other in_id in_text date t = code_other (read_as date t)
  fault_other in_id in_text colour t = code_other (read_as colour t)
  fault_other in_id in_text (coordinate axis) t = code_other (read_as (coordinate axis) t)

  pub cell_other : is_code c code.E06 ≡ false → is_code c code.E20 ≡ false → is_code c code.W05 ≡ false
      → (named : Bool) (k : Column) (t : List ℕ) → is_found (cell_code named k t) c ≡ false
  cell_other none in_id in_text named k t = elim (cases_Bool (is_empty t)) [
    | inl empty ↦ rw empty (when_other (named && is_required k) code.E06 c none)
    | inr filled ↦ rw filled (fault_other in_id in_text k.kind t)
  ]
