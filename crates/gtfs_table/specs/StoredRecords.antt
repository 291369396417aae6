-- How the texts and records of a file lie in memory.
use Rattle.std.specs.Prelude.{ℕ, ◌≡◌, ◌<◌, ◌≤◌, ◌+◌, ◌-◌, ◌^◌, ◌++◌, List, length, take, drop, map, slice_index_or, All}
use Rattle.csv.specs.Records.{AllText, Rising, Row, fields_of}
use Rattle.gtfs_table.specs.FieldOffsets.{between, marks_of, parts, TellsFields}
use Rattle.gtfs_table.specs.Tables.{Records, Table, absent, not_utf8, of_records, table_records}
use Rattle.gtfs_table.specs.declared.state.State.{State}
use Rattle.gtfs_table.specs.declared.state.State.TheVariants as state
use Rattle.gtfs_table.specs.declared.texts.Texts.TheInside as texts
use Rattle.gtfs_table.specs.declared.record.Record.TheInside as one
use Rattle.gtfs_table.specs.declared.long_records.LongRecords.TheInside as long
use Rattle.gtfs_table.specs.declared.rows.Rows.TheInside as rows
use Rattle.gtfs_table.specs.declared.runs.Runs.TheInside as runs
use Rattle.gtfs_table.specs.declared.short_records.ShortRecords.TheInside as short
use Rattle.gtfs_table.specs.declared.table.FileTable.TheInside as table

-- texts one after the other, each from its offset on
abbrev pub texts_of : texts.Inside → List (List ℕ)
texts_of t = parts t.starts t.bytes.items

-- the offsets rise, and each text is UTF-8
pub record IsTextStore (t : texts.Inside) : Type 0 where
  pub rising : Rising 0 t.starts (length t.bytes.items)
  pub utf8 : AllText (texts_of t)

-- runs of bytes one after the other, each from its offset on
abbrev pub runs_of : runs.Inside → List (List ℕ)
runs_of r = parts r.starts r.bytes.items

-- the offsets rise, and no byte lies before the first run, or where there is none
pub record IsRunStore (r : runs.Inside) : Type 0 where
  pub rising : Rising 0 r.starts (length r.bytes.items)
  pub first : slice_index_or r.starts 0 (length r.bytes.items) ≡ 0

-- a record as a run: where in the run its first field begins, where each field ends, and then its bytes
abbrev pub run_of : Row → List ℕ
run_of row = marks_of (length (fields_of row) + 1) (fields_of row) ++ row.bytes

-- the marks of a run: the first one tells how many there are
abbrev pub marks_in : List ℕ → List ℕ
marks_in run = take (slice_index_or run 0 0) run

-- the fields of a run
abbrev pub fields_in : List ℕ → List (List ℕ)
fields_in run = between (marks_in run) run

-- the marks lie in the run and rise, and there is a field, and each is UTF-8
pub record IsRun (run : List ℕ) : Type 0 where
  pub some : 0 < length run
  pub within : slice_index_or run 0 0 ≤ length run
  pub rising : Rising 0 (marks_in run) (length run)
  pub filled : 0 < length (fields_in run)
  pub text : AllText (fields_in run)

abbrev pub short_stored : short.Inside → List (List (List ℕ))
short_stored s = map fields_in s.runs

abbrev pub IsShortStore : short.Inside → Type 0
IsShortStore s = All IsRun s.runs

-- records one after the other, each from its offset among the fields on
abbrev pub records_stored : long.Inside → List (List (List ℕ))
records_stored r = parts r.starts r.fields

-- the offsets rise, and no record is without a field
pub record IsRecordStore (r : long.Inside) : Type 0 where
  pub rising : Rising 0 r.starts (length r.fields)
  pub filled : All (λ fields. 0 < length fields) (records_stored r)

-- one record: the fields between its marks, and those of a store from a number to another
abbrev pub record_in : one.Inside → List (List ℕ)
record_in r = between r.marks.now r.bytes.now ++ take (r.end - r.start) (drop r.start r.fields.now)

-- the marks lie in the bytes, the fields between them are UTF-8, the numbers are those of fields of the store, the distances are
-- those of the first of these, and all fields have numbers
pub record IsRecordWithin (r : one.Inside) : Type 0 where
  pub marks : Rising 0 r.marks.now (length r.bytes.now)
  pub text : AllText (between r.marks.now r.bytes.now)
  pub rising : r.start ≤ r.end
  pub within : r.end ≤ length r.fields.now
  pub near : TellsFields r.bytes.now r.distances.now (take (r.end - r.start) (drop r.start r.fields.now))
  pub few : length r.marks.now + (r.end - r.start) < 2 ^ 64

-- the records are counted, and the header is among those passed
pub record AreRowsWithin (r : rows.Inside) : Type 0 where
  pub counted : r.count ≡ length r.records.now
  pub passed : 0 < r.passed

-- a kept file, which has records only where it was read
abbrev pub table_with : State → Records → Table
table_with state.Absent rs = absent
table_with state.NotUtf8 rs = not_utf8
table_with state.Read rs = of_records rs

abbrev pub table_stored : table.Inside → Table
table_stored t = table_with t.state t.records

-- no record is kept of a file that was not read
abbrev pub IsTableStore : table.Inside → Type 0
IsTableStore t = t.records ≡ table_records (table_stored t)
