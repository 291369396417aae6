-- The rows of a file.
-- GTFS Schedule Reference, "Dataset Files" and "File Requirements". Row 1 is the header of a file.
use Rattle.std.specs.Prelude.{ℕ, ◌+◌, ◌-◌, ◌==◌, ◌&&◌, not, Bool, nat_lt, nat_le, List, length, map, filter}
use Rattle.std.specs.List.{list_any, range_with_len}
use Rattle.gtfs_table.specs.Blanks.{cut}
use Rattle.gtfs_table.specs.Tables.{Records, Dataset, table_of, table_records, record_at}
use Rattle.gtfs_table.specs.declared.file.File.{File}

abbrev pub is_empty : List ℕ → Bool
is_empty t = length t == 0

-- the records of a file: none where it is absent or not UTF-8
abbrev pub records_in : Dataset → File → Records
records_in d x = table_records (table_of d x)

abbrev pub has_no_record : Dataset → File → Bool
has_no_record d x = length (records_in d x) == 0

-- a row is a record after the header with a field that is not blank
abbrev pub is_row : Records → ℕ → Bool
is_row rs n = nat_lt 1 n && nat_le n (length rs) && list_any (λ field. not (is_empty (cut field))) (record_at rs n)

-- the numbers of a file's rows
abbrev pub rows : Dataset → File → List ℕ
rows d x = filter (is_row (records_in d x)) (range_with_len 2 (length (records_in d x) - 1))

-- ---- rows with their records

-- a row: its number, and its record
abbrev pub Row : Type 0
Row = ℕ × List (List ℕ)

abbrev pub numbered : Records → ℕ → Row
numbered rs n = (n, record_at rs n)

-- the rows after the first records, as many as `passed`
abbrev pub rows_past : Records → ℕ → List Row
rows_past rs passed = map (numbered rs) (filter (is_row rs) (range_with_len (passed + 1) (length rs - passed)))

-- the numbers of rows
abbrev pub numbers : List Row → List ℕ
numbers = map (λ row. row.0)

-- the number is one of these
abbrev pub is_among : List ℕ → ℕ → Bool
is_among ns m = list_any (λ n. m == n) ns
