-- What is wrong with a single field: at most one of E06, E07, E08, E20 and W05.
use Rattle.std.specs.Prelude.{ℕ, ◌&&◌, Bool, if◌then◌else◌, List, Option, Some, None, Result, Ok, Err}
use Rattle.gtfs_field.specs.declared.fault.FieldFault.{FieldFault}
use Rattle.gtfs_field.specs.declared.fault.FieldFault.TheVariants.{Form, Range}
use Rattle.gtfs_schema.specs.declared.code.Code.{Code}
use Rattle.gtfs_schema.specs.declared.code.Code.TheVariants as code
use Rattle.gtfs_schema.specs.Columns.{Kind, id, text, count, choice, time, date, colour, coordinate, Column}
use Rattle.gtfs_schema.specs.ColumnRules.{is_required}
use Rattle.gtfs_schema.specs.Problems.{is_code}
use Rattle.gtfs_schema.specs.FieldValues.{read_as, has_control, if_there}
use Rattle.gtfs_table.specs.Rows.{is_empty}

abbrev pub when : Bool → Code → Option Code
when holds c = if holds then Some c else None

-- the problem of a fault of a kind other than id and text
abbrev pub code_of : {V : Type 0} → Result V FieldFault → Option Code
code_of (Ok v) = None
code_of (Err Form) = Some code.E07
code_of (Err Range) = Some code.E08

-- the problem of a text that is not empty
abbrev pub fault_code : Kind → List ℕ → Option Code
fault_code id t = when (has_control t) code.E20
fault_code text t = when (has_control t) code.W05
fault_code count t = code_of (read_as count t)
fault_code (choice ranges) t = code_of (read_as (choice ranges) t)
fault_code time t = code_of (read_as time t)
fault_code date t = code_of (read_as date t)
fault_code colour t = code_of (read_as colour t)
fault_code (coordinate axis) t = code_of (read_as (coordinate axis) t)

-- the code is the one that was found
abbrev pub is_found : Option Code → Code → Bool
is_found found c = if_there found (λ k. is_code c k)

-- the problem of a field, whose column the header names or not
abbrev pub cell_code : Bool → Column → List ℕ → Option Code
cell_code named c t = if is_empty t then when (named && is_required c) code.E06 else fault_code c.kind t
