-- Problems of keys and references: E09 and E10.
-- GTFS Schedule Reference, the "Primary key" of each file and its fields of type "Foreign ID".
use Rattle.std.specs.Prelude.{ℕ, ◌&&◌, not, Bool, nat_lt, if◌then◌else◌, List, [], ◌∷◌, map, bytes_eq, Option, Some, None, is_some, option_map}
use Rattle.std.specs.List.{list_any}
use Rattle.std.specs.Cmp.Lexicographic.{pointwise}
use Rattle.gtfs_table.specs.Tables.{Dataset}
use Rattle.gtfs_table.specs.declared.file.File.{File}
use Rattle.gtfs_schema.specs.References.{key_columns, reported_column, takes_empty_parts, references}
use Rattle.gtfs_schema.specs.FieldValues.{Value, word, value_eq, if_both}
use Rattle.gtfs_table.specs.Rows.{is_empty, records_in, is_row, rows}
use Rattle.gtfs_schema.specs.RowConditions.{is_file, text_in, value_in, row_with, Condition}

-- ---- E09 key twice

-- all values of a list, where all are there
abbrev pub all_there : {X : Type 0} → List (Option X) → Option (List X)
all_there [] = Some []
all_there (None ∷ rest) = None
all_there (Some x ∷ rest) = option_map (λ xs. x ∷ xs) (all_there rest)

-- a part of a row's key: a readable value, or in transfers.txt an empty one
abbrev pub key_part : Dataset → File → ℕ → List ℕ → Option Value
key_part d x n name = if takes_empty_parts x && is_empty (text_in d x n name) then Some (word []) else value_in d x n name

-- the key of a row, where each part of it is there
abbrev pub key_in : Dataset → File → ℕ → Option (List Value)
key_in d x n = all_there (map (key_part d x n) (key_columns x))

abbrev pub same_key : Dataset → File → ℕ → ℕ → Bool
same_key d x n m = if_both (key_in d x n) (key_in d x m) (pointwise value_eq)

-- E09 key twice: an earlier row has the same key
abbrev pub key_twice : Condition
key_twice d x n name = bytes_eq name (reported_column x) && is_row (records_in d x) n && list_any (λ m. nat_lt m n && same_key d x n m) (rows d x)

-- ---- E10 unknown reference

-- one of these files has a row with the id
abbrev pub is_known : Dataset → List (File × List ℕ) → List ℕ → Bool
is_known d targets id = list_any (λ target. is_some (row_with d target.0 target.1 id)) targets

-- E10 unknown reference: the column names rows of one file or of two, and none of them has the id
abbrev pub unknown_reference : Condition
unknown_reference d x n name = is_row (records_in d x) n && is_some (value_in d x n name)
    && list_any (λ r. is_file r.file x && bytes_eq r.column name && not (is_known d r.targets (text_in d x n name))) references
