-- The text of a table as `csv` writes it by default: a comma between fields, quotes only where a field
-- needs them, and LF after each record (RFC 4180, section 2, but for the CR before LF).
use Rattle.std.specs.Prelude.{ℕ, ◌++◌, Bool, false, List, [], ◌∷◌, Option, Some, None, ◌≡◌, ⊤}
use Rattle.csv.specs.Reading.{is_bom}
use Rattle.csv.specs.Writing.{default_writer, row_text}
use Rattle.gtfs_table.specs.Tables.{Records, Table, absent, not_utf8, of_records, table_of_bytes, table_records, table_state}
use Rattle.gtfs_table.specs.declared.state.State.TheVariants as state

unfoldable pub text_of_records : Records → List ℕ
text_of_records [] = []
text_of_records (r ∷ rs) = row_text default_writer r ++ text_of_records rs

-- the text of a file: none where it is absent, and the empty text where it is not UTF-8
abbrev pub text_of_table : Table → Option (List ℕ)
text_of_table absent = None
text_of_table not_utf8 = Some []
text_of_table (of_records rs) = Some (text_of_records rs)

-- ---- what reads back

abbrev pub begins_with_mark : List ℕ → Bool
begins_with_mark [] = false
begins_with_mark (a ∷ []) = false
begins_with_mark (a ∷ b ∷ []) = false
begins_with_mark (a ∷ b ∷ c ∷ rest) = is_bom a b c

-- the first field of all begins with a byte order mark, which a reader of the text would cut
abbrev pub is_marked : Records → Bool
is_marked [] = false
is_marked ([] ∷ rs) = false
is_marked ((field ∷ fields) ∷ rs) = begins_with_mark field

-- a text that was written is read back to the table, if its file was UTF-8 and its first field begins with no mark
abbrev pub ReadsBack : Table → Option (List ℕ) → Type 0
ReadsBack t None = ⊤
ReadsBack t (Some text) = table_state t ≡ state.Read → is_marked (table_records t) ≡ false → table_of_bytes (Some text) ≡ t
