-- A file that is read piece after piece: what is known of it when some of its bytes have come.
use Rattle.std.specs.Prelude.{ℕ, ◌≡◌, ◌++◌, Bool, true, if◌then◌else◌, List, [], Some}
use Rattle.std.specs.Str.{is_utf8}
use Rattle.csv.specs.Reading.{default_config, records}
use Rattle.gtfs_table.specs.Tables.{Records, Table, not_utf8, of_records, table_of_bytes, without_marks}

-- the records that are read, the bytes of which none is read yet, and whether all others were UTF-8
pub record Progress : Type 0 where
  pub records : Records
  pub left : List ℕ
  pub is_text : Bool

-- no byte has come
abbrev pub nothing_read : Progress
nothing_read = record { records = []; left = []; is_text = true }

-- the table of these records and of those of a text
abbrev pub with_text : Records → List ℕ → Table
with_text rs text = if is_utf8 text then of_records (rs ++ records default_config text) else not_utf8

-- the table of the file if these bytes are the rest of it
unfoldable pub table_after : Progress → List ℕ → Table
table_after p rest = if p.is_text then with_text p.records (without_marks (p.left ++ rest)) else not_utf8

-- these bytes have come: whatever the rest of the file is, its table is as it would be if it were read at once
abbrev pub HasTaken : Progress → List ℕ → Type 0
HasTaken p bytes = (rest : List ℕ) → table_of_bytes (Some (bytes ++ rest)) ≡ table_after p rest
