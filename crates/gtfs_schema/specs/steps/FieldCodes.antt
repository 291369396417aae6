-- What is reported of a row: what is wrong with its length, and with its field in each kept column that the header names.
use Rattle.std.specs.Prelude.{ℕ, ◌==◌, ◌&&◌, Bool, nat_lt, if◌then◌else◌, List, [], ◌∷◌, bytes_eq, Option, Some}
use Rattle.gtfs_table.specs.declared.file.File.{File}
use Rattle.gtfs_schema.specs.declared.code.Code.{Code}
use Rattle.gtfs_schema.specs.declared.code.Code.TheVariants as code
use Rattle.gtfs_schema.specs.steps.CellFaults.{is_found, when}
use Rattle.gtfs_schema.specs.steps.KeptColumns.{is_kept, of_codes}
use Rattle.gtfs_schema.specs.Problems.{Problem}

-- the codes of single fields and of the length of a row
abbrev pub field_codes : List Code
field_codes = code.E06 ∷ code.E07 ∷ code.E08 ∷ code.E20 ∷ code.W01 ∷ code.W02 ∷ code.W05 ∷ []

-- the problem of a row of so many fields, under a header of so many
abbrev pub length_code : ℕ → ℕ → Option Code
length_code width count = if nat_lt count width then Some code.W01 else when (nat_lt width count) code.W02

-- ---- which problems are reported

-- the problem is of one of these codes, and in this file
abbrev pub in_file_of : List Code → File → Problem → Bool
in_file_of cs x p = of_codes cs p && is_kept x p.file

abbrev pub is_in_row : File → ℕ → Problem → Bool
is_in_row x n p = is_kept x p.file && (p.row == n)

-- the problem is of the code that was found at this column
abbrev pub is_found_at : Option Code → List ℕ → Problem → Bool
is_found_at found name p = bytes_eq p.column name && is_found found p.code
