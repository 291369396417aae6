-- What reading a field once found: that it is empty, what is wrong with it, or its value.
use Rattle.std.specs.Prelude.{ℕ, Bool, true, false, if◌then◌else◌, List, option_map, Option, Some, None}
use Rattle.std.specs.Borrow.{Bor}
use Rattle.gtfs_schema.specs.declared.code.Code.{Code}
use Rattle.gtfs_schema.specs.declared.code.Code.TheVariants as code
use Rattle.gtfs_trip_rules.specs.declared.stop_times.reading.Reading.{Reading}
use Rattle.gtfs_trip_rules.specs.declared.stop_times.reading.Reading.TheVariants as reading
use Rattle.gtfs_schema.specs.steps.CellFaults.{fault_code, when}
use Rattle.gtfs_schema.specs.Columns.{Kind}
use Rattle.gtfs_table.specs.Rows.{is_empty}

abbrev pub is_blank : {V : Type 0} → Reading V → Bool
is_blank reading.Empty = true
is_blank (reading.Fault c) = false
is_blank (reading.Value v) = false

abbrev pub fault_in : {V : Type 0} → Reading V → Option Code
fault_in reading.Empty = None
fault_in (reading.Fault c) = Some c
fault_in (reading.Value v) = None

abbrev pub is_fault : {V : Type 0} → Reading V → Bool
is_fault reading.Empty = false
is_fault (reading.Fault c) = true
is_fault (reading.Value v) = false

abbrev pub value_in : {V : Type 0} → Reading V → Option V
value_in reading.Empty = None
value_in (reading.Fault c) = None
value_in (reading.Value v) = Some v

-- one value, and else the other; none where one of the fields has a fault
abbrev pub value_or : {V : Type 0} → Reading V → Reading V → Option V
value_or (reading.Fault c) r = None
value_or reading.Empty r = value_in r
value_or (reading.Value v) reading.Empty = Some v
value_or (reading.Value v) (reading.Fault c) = None
value_or (reading.Value v) (reading.Value w) = Some v

-- what is wrong with the field of a column that has to be filled or not
abbrev pub code_in : {V : Type 0} → Bool → Reading V → Option Code
code_in required reading.Empty = when required code.E06
code_in required (reading.Fault c) = Some c
code_in required (reading.Value v) = None

-- what is wrong with a text that may be empty
abbrev pub fault_of : Kind → List ℕ → Option Code
fault_of kind t = if is_empty t then None else fault_code kind t

-- the text of an id, if there is one
abbrev pub text_of : Option (Bor (List ℕ)) → Option (List ℕ)
text_of o = option_map (λ t. t.now) o
