-- Tables: the records of the kept files, and the values in them.
-- GTFS Schedule Reference, "Dataset Files" and "File Requirements"; records are those of `csv`, a text is
-- the list of its bytes.
use Rattle.std.specs.Prelude.{ℕ, ◌-◌, ◌==◌, if◌then◌else◌, List, [], ◌∷◌, ◌++◌, length, bytes_eq, position, slice_index_or, Option, Some, None}
use Rattle.std.specs.Str.{is_utf8}
use Rattle.csv.specs.Reading.{default_config, is_bom, records}
use Rattle.gtfs_table.specs.Blanks.{cut}
use Rattle.gtfs_table.specs.FieldOffsets.{add_to_last}
use Rattle.gtfs_table.specs.declared.file.File.{File}
use Rattle.gtfs_table.specs.declared.file.File.TheVariants as file
use Rattle.gtfs_table.specs.declared.state.State.{State}
use Rattle.gtfs_table.specs.declared.state.State.TheVariants as state

-- ---- records and values

-- the bytes of a file without its leading byte order marks
unfoldable pub without_marks : List ℕ → List ℕ
without_marks [] = []
without_marks (a ∷ []) = a ∷ []
without_marks (a ∷ b ∷ []) = a ∷ b ∷ []
without_marks (a ∷ b ∷ c ∷ rest) = if is_bom a b c then without_marks rest else a ∷ b ∷ c ∷ rest

-- the records of a file, each the list of its fields
abbrev pub Records : Type 0
Records = List (List (List ℕ))

abbrev pub records_of : List ℕ → Records
records_of bytes = records default_config (without_marks bytes)

-- the record of a row, from 1, and no fields where there is none
abbrev pub record_at : Records → ℕ → List (List ℕ)
record_at rs row = if row == 0 then [] else slice_index_or rs (row - 1) []

-- the nth field of a record, from 0, cut of its blanks; empty where there is none
abbrev pub field_cut : List (List ℕ) → ℕ → List ℕ
field_cut fields n = cut (slice_index_or fields n [])

abbrev pub field_under : List (List ℕ) → Option ℕ → List ℕ
field_under fields None = []
field_under fields (Some n) = field_cut fields n

-- the index of the first header column of a name; the empty name is no column
abbrev pub column_of : Records → List ℕ → Option ℕ
column_of rs name = if length name == 0 then None else position (λ column. bytes_eq (cut column) name) (record_at rs 1)

-- the value of a column in a row
abbrev pub value : Records → ℕ → List ℕ → List ℕ
value rs row column = field_under (record_at rs row) (column_of rs column)

-- ---- tables

-- a kept file: it is absent, or not UTF-8, or it has records
pub data Table : Type 0 where
  absent : Table
  not_utf8 : Table
  of_records : Records → Table

abbrev pub table_state : Table → State
table_state absent = state.Absent
table_state not_utf8 = state.NotUtf8
table_state (of_records rs) = state.Read

-- a file that is absent or not UTF-8 has no record
abbrev pub table_records : Table → Records
table_records absent = []
table_records not_utf8 = []
table_records (of_records rs) = rs

-- the table of a file with these bytes, or of one that is not there
unfoldable pub table_of_bytes : Option (List ℕ) → Table
table_of_bytes None = absent
table_of_bytes (Some bytes) = if is_utf8 (without_marks bytes) then of_records (records_of bytes) else not_utf8

-- a table with one more record, of this one field
abbrev pub with_record : Table → List ℕ → Table
with_record t field = of_records (table_records t ++ (field ∷ []) ∷ [])

-- a table whose last record has one more field
abbrev pub with_field : Table → List ℕ → Table
with_field absent field = absent
with_field not_utf8 field = not_utf8
with_field (of_records rs) field = of_records (add_to_last rs field)

-- the tables of the nine kept files, and the other names of their folder
pub record Dataset : Type 0 where
  pub agency : Table
  pub stops : Table
  pub routes : Table
  pub trips : Table
  pub stop_times : Table
  pub calendar : Table
  pub calendar_dates : Table
  pub frequencies : Table
  pub transfers : Table
  pub others : List (List ℕ)

abbrev pub table_of : Dataset → File → Table
table_of d file.Agency = d.agency
table_of d file.Stops = d.stops
table_of d file.Routes = d.routes
table_of d file.Trips = d.trips
table_of d file.StopTimes = d.stop_times
table_of d file.Calendar = d.calendar
table_of d file.CalendarDates = d.calendar_dates
table_of d file.Frequencies = d.frequencies
table_of d file.Transfers = d.transfers

-- the same tables but for this one
abbrev pub with_table : Dataset → File → Table → Dataset
with_table d file.Agency t = record d { agency = t }
with_table d file.Stops t = record d { stops = t }
with_table d file.Routes t = record d { routes = t }
with_table d file.Trips t = record d { trips = t }
with_table d file.StopTimes t = record d { stop_times = t }
with_table d file.Calendar t = record d { calendar = t }
with_table d file.CalendarDates t = record d { calendar_dates = t }
with_table d file.Frequencies t = record d { frequencies = t }
with_table d file.Transfers t = record d { transfers = t }

-- no file is there, and no other name
abbrev pub empty_dataset : Dataset
empty_dataset = record {
  agency = absent;
  stops = absent;
  routes = absent;
  trips = absent;
  stop_times = absent;
  calendar = absent;
  calendar_dates = absent;
  frequencies = absent;
  transfers = absent;
  others = [];
}
