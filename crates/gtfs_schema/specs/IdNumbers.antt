-- The numbers of ids: those of a column, each once, have the numbers from 0 in the order of their bytes.
-- GTFS Schedule Reference, fields of type "Foreign ID". The order is this toolkit's.
use Rattle.std.specs.Prelude.{ℕ, List, bytes_eq, map, position, slice_get, Option}
use Rattle.std.specs.FinMap as table
use Rattle.gtfs_field.specs.TextOrder.{text_cmp}
use Rattle.gtfs_table.specs.Rows.{rows}
use Rattle.gtfs_table.specs.Tables.{Dataset}
use Rattle.gtfs_table.specs.declared.file.File.{File}
use Rattle.gtfs_schema.specs.RowConditions.{text_in}

-- the ids of a column, each with its first row
abbrev pub first_rows : Dataset → File → List ℕ → table.FinMap text_cmp ℕ
first_rows d x column = table.from_entries (map (λ n. (text_in d x n column, n)) (rows d x))

-- the ids of a column, each once, ascending by their bytes
abbrev pub ids_by_bytes : Dataset → File → List ℕ → List (List ℕ)
ids_by_bytes d x column = table.keys (first_rows d x column)

-- the number of an id among these
abbrev pub number_among : List (List ℕ) → List ℕ → Option ℕ
number_among ids id = position (λ k. bytes_eq k id) ids

-- the number of an id, where a row has it
abbrev pub number_of_id : Dataset → File → List ℕ → List ℕ → Option ℕ
number_of_id d x column id = number_among (ids_by_bytes d x column) id

-- the id of a number
abbrev pub id_numbered : Dataset → File → List ℕ → ℕ → Option (List ℕ)
id_numbered d x column n = slice_get (ids_by_bytes d x column) n
