-- Problems of single fields and of the length of a row: E06 to E08, E20, W01, W02 and W05.
-- GTFS Schedule Reference, "Presence", "Field Types" and "File Requirements".
use Rattle.std.specs.Prelude.{ℕ, ◌&&◌, not, Bool, true, false, nat_lt, List, length, Result, Ok, Err}
use Rattle.gtfs_field.specs.declared.fault.FieldFault.{FieldFault}
use Rattle.gtfs_field.specs.declared.fault.FieldFault.TheVariants.{Form, Range}
use Rattle.gtfs_table.specs.Tables.{Dataset, record_at}
use Rattle.gtfs_table.specs.declared.file.File.{File}
use Rattle.gtfs_schema.specs.Columns.{Kind, id, text, count, choice, time, date, colour, coordinate, Column, column_named}
use Rattle.gtfs_schema.specs.FieldValues.{Value, read_as, has_control, if_there}
use Rattle.gtfs_table.specs.Rows.{is_empty, records_in, is_row}
use Rattle.gtfs_schema.specs.RowConditions.{is_named, text_in, Condition}
use Rattle.gtfs_schema.specs.ColumnRules.{is_required}

abbrev pub is_id : Kind → Bool
is_id id = true
is_id text = false
is_id count = false
is_id (choice ranges) = false
is_id time = false
is_id date = false
is_id colour = false
is_id (coordinate axis) = false

abbrev pub is_text : Kind → Bool
is_text id = false
is_text text = true
is_text count = false
is_text (choice ranges) = false
is_text time = false
is_text date = false
is_text colour = false
is_text (coordinate axis) = false

abbrev pub is_form_fault : Result Value FieldFault → Bool
is_form_fault (Ok v) = false
is_form_fault (Err Form) = true
is_form_fault (Err Range) = false

abbrev pub is_range_fault : Result Value FieldFault → Bool
is_range_fault (Ok v) = false
is_range_fault (Err Form) = false
is_range_fault (Err Range) = true

-- a kept column of a row, and a test on its kind and its text
abbrev pub in_row : (Column → List ℕ → Bool) → Condition
in_row test d x n name = is_row (records_in d x) n && if_there (column_named x name) (λ c. test c (text_in d x n name))

-- E06 value empty, in a required column that the header names
abbrev pub value_empty : Condition
value_empty d x n name = is_named d x name && in_row (λ c t. is_required c && is_empty t) d x n name

-- E07 value unreadable, of a kind other than id and text
abbrev pub value_unreadable : Condition
value_unreadable = in_row (λ c t. not (is_empty t) && not (is_id c.kind) && is_form_fault (read_as c.kind t))

-- E08 value out of range
abbrev pub value_out_of_range : Condition
value_out_of_range = in_row (λ c t. not (is_empty t) && is_range_fault (read_as c.kind t))

-- E20 control character in id
abbrev pub control_in_id : Condition
control_in_id = in_row (λ c t. is_id c.kind && has_control t)

-- W05 control character in text
abbrev pub control_in_text : Condition
control_in_text = in_row (λ c t. is_text c.kind && has_control t)

-- ---- the length of a row

abbrev pub field_count : Dataset → File → ℕ → ℕ
field_count d x n = length (record_at (records_in d x) n)

-- W01 short row
abbrev pub row_short : Condition
row_short d x n name = is_empty name && is_row (records_in d x) n && nat_lt (field_count d x n) (field_count d x 1)

-- W02 long row
abbrev pub row_long : Condition
row_long d x n name = is_empty name && is_row (records_in d x) n && nat_lt (field_count d x 1) (field_count d x n)
