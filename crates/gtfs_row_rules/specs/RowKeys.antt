-- Keys as a step reads them from the records of rows, and the rows that repeat an earlier key.
use Rattle.std.specs.Prelude.{ℕ, ◌&&◌, if◌then◌else◌, Bool, nat_lt, List, [], ◌∷◌, Option, Some}
use Rattle.std.specs.List.{list_any}
use Rattle.std.specs.Cmp.Lexicographic.{pointwise}
use Rattle.gtfs_table.specs.Tables.{Dataset, record_at}
use Rattle.gtfs_table.specs.declared.file.File.{File}
use Rattle.gtfs_table.specs.Rows.{is_empty, records_in, rows}
use Rattle.gtfs_schema.specs.Columns.{Kind, date, id, time}
use Rattle.gtfs_schema.specs.KeyRules.{all_there}
use Rattle.gtfs_schema.specs.RowConditions.{text_in}
use Rattle.gtfs_schema.specs.FieldValues.{Value, word, value_eq, if_both, if_there, readable}
use Rattle.gtfs_row_rules.specs.declared.keys.Number.{Number}
use Rattle.gtfs_row_rules.specs.declared.keys.Number.TheVariants as numbers

-- the rows of one file, each with its key, where each part of it is there
abbrev pub KeyAt : Type 0
KeyAt = ℕ → Option (List Value)

-- the keys of the records of a file
abbrev pub key_at : (List (List ℕ) → Option (List Value)) → Dataset → File → KeyAt
key_at key d x n = key (record_at (records_in d x) n)

-- an earlier row of the file has the key of this one
abbrev pub repeats_key : KeyAt → Dataset → File → ℕ → Bool
repeats_key key d x n = list_any (λ m. nat_lt m n && if_both (key n) (key m) (pointwise value_eq)) (rows d x)

-- one of these rows has the key
abbrev pub has_key : KeyAt → List ℕ → List Value → Bool
has_key key ns k = list_any (λ m. if_there (key m) (pointwise value_eq k)) ns

-- a key of an id and a number
abbrev pub kind_of_number : Number → Kind
kind_of_number numbers.Date = date
kind_of_number numbers.Time = time

abbrev pub numbered_key : Number → List ℕ → List ℕ → Option (List Value)
numbered_key kind t u = all_there (readable id t ∷ readable (kind_of_number kind) u ∷ [])

abbrev pub numbered_in : Number → Dataset → File → List ℕ → List ℕ → KeyAt
numbered_in kind d x id_name number_name n = numbered_key kind (text_in d x n id_name) (text_in d x n number_name)

-- a part of the key of a transfer: an id, or the empty text
abbrev pub end_part : List ℕ → Option Value
end_part t = if is_empty t then Some (word []) else readable id t
