-- What a header says of the rows below it, and what is reported of such a row: what is wrong with its length, and with its field in each
-- kept column that the header names.
use Rattle.std.specs.Prelude.{◌≡◌, ℕ, ◌||◌, Bool, true, List, [], length, map, filter_map, option_map, Option}
use Rattle.std.specs.List.{list_any}
use Rattle.gtfs_table.specs.Tables.{Dataset, Records, column_of as index_of, field_cut}
use Rattle.gtfs_table.specs.declared.file.File.{File}
use Rattle.gtfs_schema.specs.declared.code.Code.{Code}
use Rattle.gtfs_row_rules.specs.declared.fields.Header.{Header}
use Rattle.gtfs_row_rules.specs.declared.fields.Located.{Located as LocatedColumn}
use Rattle.gtfs_schema.specs.steps.CellFaults.{cell_code}
use Rattle.gtfs_schema.specs.Columns.{Column, columns_of}
use Rattle.gtfs_schema.specs.steps.ColumnView.{column_of}
use Rattle.gtfs_schema.specs.steps.FieldCodes.{is_found_at, length_code}
use Rattle.gtfs_schema.specs.FieldRules.{field_count}
use Rattle.gtfs_schema.specs.Problems.{Problem}
use Rattle.gtfs_table.specs.Rows.{records_in}

-- a column that the header names, with its index
abbrev pub Located : Type 0
Located = Column × ℕ

abbrev pub located : Records → Column → Option Located
located rs c = option_map (λ index. (c, index)) (index_of rs c.name)

abbrev pub located_of : LocatedColumn → Located
located_of k = (column_of k.column, k.index)

-- the problem of the field of a record in such a column
abbrev pub located_code : List (List ℕ) → Located → Option Code
located_code fields k = cell_code true k.0 (field_cut fields k.1)

abbrev pub is_found_in : List (List ℕ) → Problem → LocatedColumn → Bool
is_found_in fields p k = is_found_at (located_code fields (located_of k)) k.column.name.now p

-- what a header reports of a record
abbrev pub row_reports : Header → List (List ℕ) → Problem → Bool
row_reports h fields p = is_found_at (length_code h.width (length fields)) [] p
    || list_any (is_found_in fields p) h.columns.items

-- a header says of the rows of a file just what the file's first record does
pub record IsHeader (d : Dataset) (x : File) (h : Header) : Type 0 where
  pub file : h.file ≡ x
  pub width : h.width ≡ field_count d x 1
  pub columns : map located_of h.columns.items ≡ filter_map (located (records_in d x)) (columns_of x)
