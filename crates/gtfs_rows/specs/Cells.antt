-- Cells: the typed value of each column of a row, or none, and the text that a written file has for it.
-- GTFS Schedule Reference, "Field Types". Meanings of empty values are written in full, and "none" is the empty field.
use Rattle.std.specs.Prelude.{ℕ, ◌*◌, ◌^◌, ◌&&◌, not, Bool, true, false, nat_le, List, [], ◌∷◌, bytes_eq, Option, Some, None, ℤ, pos, negsuc, int_le, unsigned_abs}
use Rattle.gtfs_field.specs.Kinds.{is_in_ranges, most_degrees}
use Rattle.gtfs_field.specs.Canonical.{count_text, time_text, date_text, colour_text, coordinate_text}
use Rattle.gtfs_table.specs.Blanks.{cut}
use Rattle.gtfs_table.specs.Rows.{is_empty}
use Rattle.gtfs_schema.specs.Columns.{Kind, id, text, count, choice, time, date, colour, coordinate, Column}
use Rattle.gtfs_schema.specs.ReadRules.{may_lack}
use Rattle.gtfs_schema.specs.FieldValues.{Value, word, amount, has_control}

-- the value of a column in a row, or none
abbrev pub Cell : Type 0
Cell = Option Value

-- a text as a field holds it: no blank at its ends and no control character
abbrev pub is_clean : List ℕ → Bool
is_clean t = bytes_eq (cut t) t && not (has_control t)

abbrev pub is_filled : List ℕ → Bool
is_filled t = is_clean t && not (is_empty t)

abbrev pub is_between : ℤ → ℤ → ℤ → Bool
is_between low high x = int_le low x && int_le x high

-- the value lies in the kind
abbrev pub is_of_kind : Kind → Value → Bool
is_of_kind id (word t) = is_filled t
is_of_kind text (word t) = is_filled t
is_of_kind count (word t) = false
is_of_kind (choice ranges) (word t) = false
is_of_kind time (word t) = false
is_of_kind date (word t) = false
is_of_kind colour (word t) = false
is_of_kind (coordinate axis) (word t) = false
is_of_kind id (amount x) = false
is_of_kind text (amount x) = false
is_of_kind count (amount x) = is_between (pos 0) (pos 2_147_483_647) x
is_of_kind (choice ranges) (amount x) = is_between (pos 0) (pos 2_147_483_647) x && is_in_ranges ranges (unsigned_abs x)
is_of_kind time (amount x) = is_between (pos 0) (pos 3_599_999) x
is_of_kind date (amount x) = is_between (negsuc 25_566) (pos 2_932_896) x
is_of_kind colour (amount x) = is_between (pos 0) (pos 16_777_215) x
is_of_kind (coordinate axis) (amount x) = nat_le (unsigned_abs x) (most_degrees axis * 10 ^ 9)

abbrev pub is_cell : Column → Cell → Bool
is_cell c None = may_lack c.empty
is_cell c (Some v) = is_of_kind c.kind v

-- one cell for each column
abbrev pub are_cells : List Column → List Cell → Bool
are_cells [] [] = true
are_cells [] (v ∷ vs) = false
are_cells (c ∷ cs) [] = false
are_cells (c ∷ cs) (v ∷ vs) = is_cell c v && are_cells cs vs

-- ---- texts

-- the canonical text of a value
abbrev pub text_of : Kind → Value → List ℕ
text_of kind (word t) = t
text_of id (amount x) = []
text_of text (amount x) = []
text_of count (amount x) = count_text (unsigned_abs x)
text_of (choice ranges) (amount x) = count_text (unsigned_abs x)
text_of time (amount x) = time_text (unsigned_abs x)
text_of date (amount x) = date_text x
text_of colour (amount x) = colour_text (unsigned_abs x)
text_of (coordinate axis) (amount x) = coordinate_text x

abbrev pub cell_text : Kind → Cell → List ℕ
cell_text kind None = []
cell_text kind (Some v) = text_of kind v

-- the fields of a row
abbrev pub record_text : List Column → List Cell → List (List ℕ)
record_text [] vs = []
record_text (c ∷ cs) [] = []
record_text (c ∷ cs) (v ∷ vs) = cell_text c.kind v ∷ record_text cs vs
