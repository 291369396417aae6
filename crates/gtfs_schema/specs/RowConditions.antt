-- What the rules read of a dataset: the rows of its files, and the values of columns where they are readable.
-- GTFS Schedule Reference, "Dataset Files" and "File Requirements". Row 1 is the header of a file.
use Rattle.std.specs.Prelude.{ℕ, ◌==◌, ◌&&◌, Bool, nat_lt, List, map, bytes_eq, count_by, find, codes, Option, is_some, option_and_then, ℤ}
use Rattle.std.specs.List.{list_any}
use Prim.Native.String.{String as Literal}
use Rattle.gtfs_table.specs.Blanks.{cut}
use Rattle.gtfs_table.specs.Tables.{Records, Dataset, record_at, value}
use Rattle.gtfs_table.specs.declared.file.File.{File}
use Rattle.gtfs_table.specs.declared.file.File.TheVariants as file
use Rattle.gtfs_schema.specs.Columns.{column_named}
use Rattle.gtfs_schema.specs.FieldValues.{Value, readable, meaning, as_word, as_amount}
use Rattle.gtfs_table.specs.Rows.{is_empty, is_row, records_in, rows}

-- ---- files

-- the nine files in their order
abbrev pub file_rank : File → ℕ
file_rank file.Agency = 0
file_rank file.Stops = 1
file_rank file.Routes = 2
file_rank file.Trips = 3
file_rank file.StopTimes = 4
file_rank file.Calendar = 5
file_rank file.CalendarDates = 6
file_rank file.Frequencies = 7
file_rank file.Transfers = 8

abbrev pub is_file : File → File → Bool
is_file a b = file_rank a == file_rank b

-- ---- headers

-- the names of the header
abbrev pub header : Records → List (List ℕ)
header rs = map cut (record_at rs 1)

-- how often the header of a file has the name
abbrev pub times_named : Dataset → File → List ℕ → ℕ
times_named d x name = count_by (bytes_eq name) (header (records_in d x))

abbrev pub is_named : Dataset → File → List ℕ → Bool
is_named d x name = nat_lt 0 (times_named d x name)

-- the file has a kept column of that name
abbrev pub is_kept_column : File → List ℕ → Bool
is_kept_column x name = is_some (column_named x name)

-- ---- the values of a row

abbrev pub text_in : Dataset → File → ℕ → List ℕ → List ℕ
text_in d x n name = value (records_in d x) n name

-- the value of a kept column in a row, where it is readable
abbrev pub value_in : Dataset → File → ℕ → List ℕ → Option Value
value_in d x n name = option_and_then (λ c. readable c.kind (text_in d x n name)) (column_named x name)

abbrev pub is_readable_in : Dataset → File → ℕ → Literal → Bool
is_readable_in d x n name = is_some (value_in d x n (codes name))

abbrev pub is_empty_in : Dataset → File → ℕ → Literal → Bool
is_empty_in d x n name = is_empty (text_in d x n (codes name))

abbrev pub word_in : Dataset → File → ℕ → Literal → Option (List ℕ)
word_in d x n name = option_and_then as_word (value_in d x n (codes name))

abbrev pub amount_in : Dataset → File → ℕ → Literal → Option ℤ
amount_in d x n name = option_and_then as_amount (value_in d x n (codes name))

-- the number of a choice, an empty value taken by its meaning
abbrev pub choice_in : Dataset → File → ℕ → Literal → Option ℤ
choice_in d x n name = option_and_then as_amount
    (option_and_then (λ c. readable c.kind (meaning c.empty (text_in d x n (codes name)))) (column_named x (codes name)))

-- the first row of a file whose column has this id
abbrev pub row_with : Dataset → File → List ℕ → List ℕ → Option ℕ
row_with d x column id = find (λ m. bytes_eq (text_in d x m column) id) (rows d x)

-- ---- rules

-- a rule about the rows of one file, by a row's number
abbrev pub Rule : Type 0
Rule = Dataset → ℕ → Bool

-- the condition of a code: whether it holds of a file, a row and a column
abbrev pub Condition : Type 0
Condition = Dataset → File → ℕ → List ℕ → Bool

-- a rule about the rows of this file, reported at this column
abbrev pub reported_at : File → Literal → Rule → Condition
reported_at wanted column rule d x n name = is_file x wanted && bytes_eq name (codes column) && is_row (records_in d wanted) n && rule d n

-- one of these conditions holds
abbrev pub any_of : List Condition → Condition
any_of conditions d x n name = list_any (λ holds. holds d x n name) conditions
