-- How fields and rows are taken, one after the other: into a text, into the room for a text, or into a table.
use Rattle.std.specs.Prelude.{ℕ, suc, ◌==◌, ◌-◌, ◌++◌, nat_lt, if◌then◌else◌, List, [], ◌∷◌, length, map, Option, Some, None}
use Rattle.csv.specs.Writing.{default_writer, comma, field_text}
use Rattle.csv.specs.Machine.{line_feed}
use Rattle.gtfs_table.specs.Tables.{Records, Table, table_of, table_records, with_record, with_field, with_table}
use Rattle.gtfs_table.specs.declared.file.File.{File}
use Rattle.gtfs_field.specs.Canonical.{count_text}
use Rattle.gtfs_stop_times.specs.StopTimeChoices.{drop_off_code, pickup_code, timepoint_code}
use Rattle.gtfs_stop_times.specs.declared.stop_time_choices.DropOffType.{DropOffType}
use Rattle.gtfs_stop_times.specs.declared.stop_time_choices.PickupType.{PickupType}
use Rattle.gtfs_stop_times.specs.declared.stop_time_choices.Timepoint.{Timepoint}
use Rattle.gtfs_schema.specs.Columns.{columns_of}
use Rattle.gtfs_rows.specs.Cells.{record_text}
use Rattle.gtfs_rows.specs.Content.{Content}
use Rattle.gtfs_rows.specs.RowCells.{cells_in}
use Rattle.gtfs_writing.specs.declared.table_rows.TableRows.{TableRows}

-- how the first field of a row is taken, a further one, and the end of the row
pub record Taking (S : Type 0) : Type 0 where
  pub first : S → List ℕ → S
  pub next : S → List ℕ → S
  pub last : S → S

-- whether times are exact, empty where it is not said
abbrev pub timepoint_field : Option Timepoint → List ℕ
timepoint_field None = []
timepoint_field (Some timepoint) = count_text (timepoint_code timepoint)

-- after further fields of a row
abbrev pub with_fields : {S : Type 0} → Taking S → S → List (List ℕ) → S
with_fields t s [] = s
with_fields t s (f ∷ fs) = with_fields t (t.next s f) fs

-- after a row of these fields
abbrev pub with_row : {S : Type 0} → Taking S → S → List (List ℕ) → S
with_row t s [] = s
with_row t s (f ∷ fs) = t.last (with_fields t (t.first s f) fs)

-- after these rows
abbrev pub with_rows : {S : Type 0} → Taking S → S → Records → S
with_rows t s [] = s
with_rows t s (r ∷ rs) = with_rows t (with_row t s r) rs

-- how riders board and alight at a stop time without a headsign, and whether its times are exact, after the empty field of the headsign
abbrev pub choice_fields : PickupType → DropOffType → Option Timepoint → List (List ℕ)
choice_fields pickup drop_off timepoint =
    [] ∷ count_text (pickup_code pickup) ∷ count_text (drop_off_code drop_off) ∷ timepoint_field timepoint ∷ []

-- ---- into a text: a comma before each further field, and a line feed after each row (RFC 4180, section 2)

abbrev pub into_text : Taking (List ℕ)
into_text = record {
  first = λ t f. t ++ field_text default_writer f;
  next = λ t f. t ++ comma ∷ field_text default_writer f;
  last = λ t. t ++ line_feed ∷ [];
}

-- ---- into the room for a text: what such a text leaves of it

-- what this many bytes leave of a room, and none where they do not fit
abbrev pub room_after : Option ℕ → ℕ → Option ℕ
room_after None n = None
room_after (Some room) n = if nat_lt room n then None else Some (room - n)

abbrev pub into_room : Taking (Option ℕ)
into_room = record {
  first = λ s f. room_after s (length (field_text default_writer f));
  next = λ s f. room_after s (suc (length (field_text default_writer f)));
  last = λ s. room_after s 1;
}

-- ---- into the table of a file

-- one more field of the last record, or the first of all
abbrev pub with_more : Table → List ℕ → Table
with_more t f = if length (table_records t) == 0 then with_record t f else with_field t f

abbrev pub into_table : Taking TableRows
into_table = record {
  first = λ s f. record s { tables = with_table s.tables s.file (with_record (table_of s.tables s.file) f) };
  next = λ s f. record s { tables = with_table s.tables s.file (with_more (table_of s.tables s.file) f) };
  last = λ s. s;
}

-- ---- the rows of a file

-- the records of a file after its header
abbrev pub rows_in : Content → File → Records
rows_in c x = map (record_text (columns_of x)) (cells_in c x)
