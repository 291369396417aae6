-- The lines that `gtfs check` prints: one for each problem, or for each kind of problem, and the last one with the counts.
use Rattle.std.specs.Prelude.{ℕ, ◌+◌, ◌-◌, Bool, nat_lt, if◌then◌else◌, List, [], ◌++◌, length, map, take, count_by, codes, decimal, encode_utf8_all, Option, None, Some}
use Rattle.std.specs.Ordering.{is_eq}
use Rattle.std.specs.Str.{chars}
use Rattle.gtfs_table.specs.Rows.{records_in}
use Rattle.gtfs_table.specs.Tables.{value, Dataset}
use Rattle.gtfs_schema.specs.Codes.{code_name, code_text}
use Rattle.gtfs_schema.specs.Problems.{kept, name_bytes, other, problem_cmp, FileName, Problem}
use Rattle.gtfs_schema.specs.FieldValues.{plain}
use Rattle.gtfs_commands.specs.Words.{CheckTexts}
use Rattle.gtfs_rules.specs.Report.{problem_line}
use Rattle.gtfs_cli.specs.FirstOfEachKind.{firsts}

-- ---- the value of a problem

-- the value of a column in a row of a file that is kept
abbrev pub kept_value : Dataset → FileName → ℕ → List ℕ → List ℕ
kept_value d (kept x) row column = value (records_in d x) row column
kept_value d (other name) row column = []

-- that of the problem's column in its row; the file as a whole and the header have none
abbrev pub problem_value : Dataset → Problem → List ℕ
problem_value d p = if nat_lt p.row 2 then [] else kept_value d p.file p.row p.column

-- a text of more than 60 characters is cut to 57 and three dots
abbrev pub shown_value : List ℕ → List ℕ
shown_value text = if nat_lt 60 (length (chars text)) then encode_utf8_all (take 57 (chars text)) ++ codes "..." else text

-- the value in quotes behind a tab; control characters are printed as spaces
abbrev pub value_field : List ℕ → List ℕ
value_field text = codes "\t\"" ++ plain (shown_value text) ++ codes "\""

-- ---- lines

-- how many bytes of a problem's line are names or texts of its code
abbrev pub names_len : Problem → ℕ
names_len p = length (code_name p.code) + length (name_bytes p.file) + length p.column + length (code_text p.code)

abbrev pub without_end : List ℕ → List ℕ
without_end line = take (length line - 1) line

-- the value where it is wanted, and how many problems of the kind there are where that is
abbrev pub values_shown : Option (List ℕ) → List ℕ
values_shown None = []
values_shown (Some text) = value_field text

abbrev pub count_shown : Option ℕ → List ℕ
count_shown None = []
count_shown (Some count) = codes "\t" ++ decimal count

-- the line of a problem with these behind it
abbrev pub line_with : Problem → Option (List ℕ) → Option ℕ → List ℕ
line_with p text count = without_end (problem_line p) ++ values_shown text ++ count_shown count ++ codes "\n"

-- the value of a problem where values are wanted
abbrev pub wanted_value : Bool → Dataset → Problem → Option (List ℕ)
wanted_value values d p = if values then Some (problem_value d p) else None

-- the line of a problem, with its value where values are wanted, and with this number behind it
abbrev pub shown_line : Bool → Dataset → Problem → Option ℕ → List ℕ
shown_line values d p count = line_with p (wanted_value values d p) count

-- ---- kinds of problems

-- two problems have the same code, file and column
abbrev pub kind_of : Problem → Problem
kind_of p = record p { row = 0 }

abbrev pub is_alike : Problem → Problem → Bool
is_alike p q = is_eq (problem_cmp (kind_of p) (kind_of q))

-- how many of these are of the problem's kind
abbrev pub count_alike : List Problem → Problem → ℕ
count_alike ps p = count_by (is_alike p) ps

-- ---- all lines

-- the last line of a report with so many errors and warnings
abbrev pub counts_text : ℕ → ℕ → List ℕ
counts_text errors warnings = codes "errors " ++ decimal errors ++ codes " warnings " ++ decimal warnings ++ codes "\n"

-- a line for each problem, or for the first of each kind
abbrev pub problem_lines : CheckTexts → Dataset → List Problem → List (List ℕ)
problem_lines asked d ps =
    if asked.summary then firsts is_alike (shown_line asked.values d) ps else map (λ p. shown_line asked.values d p None) ps
