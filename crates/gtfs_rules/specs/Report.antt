-- The text of a report. Its form is this toolkit's.
use Rattle.std.specs.Prelude.{ℕ, not, if◌then◌else◌, List, ◌++◌, count_by, flat_map, codes, decimal}
use Rattle.gtfs_schema.specs.Codes.{code_name, code_text, is_error}
use Rattle.gtfs_schema.specs.FieldValues.{plain}
use Rattle.gtfs_table.specs.Rows.{is_empty}
use Rattle.gtfs_schema.specs.Problems.{Problem, name_bytes}

-- a column's name, or a dash for none
abbrev pub column_shown : List ℕ → List ℕ
column_shown name = if is_empty name then codes "-" else plain name

-- CODE FILE:ROW COLUMN TEXT; control characters of names are printed as spaces
abbrev pub problem_line : Problem → List ℕ
problem_line p = code_name p.code ++ codes " " ++ plain (name_bytes p.file) ++ codes ":" ++ decimal p.row
    ++ codes " " ++ column_shown p.column ++ codes " " ++ code_text p.code ++ codes "\n"

-- the last line: how many errors and how many warnings
abbrev pub counts_line : List Problem → List ℕ
counts_line ps = codes "errors " ++ decimal (count_by (λ p. is_error p.code) ps)
    ++ codes " warnings " ++ decimal (count_by (λ p. not (is_error p.code)) ps) ++ codes "\n"

abbrev pub report_text : List Problem → List ℕ
report_text ps = flat_map problem_line ps ++ counts_line ps
