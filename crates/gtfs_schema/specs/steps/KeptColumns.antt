-- Which problems a step looks at: those of some codes, files or columns.
use Rattle.std.specs.Prelude.{ℕ, ◌&&◌, Bool, false, List, bytes_eq}
use Rattle.std.specs.List.{list_any}
use Rattle.gtfs_table.specs.declared.file.File.{File}
use Rattle.gtfs_schema.specs.declared.code.Code.{Code}
use Rattle.gtfs_schema.specs.Problems.{FileName, kept, other, Problem, is_code}
use Rattle.gtfs_schema.specs.RowConditions.{is_file}

-- the name is that of this one of the nine files
abbrev pub is_kept : File → FileName → Bool
is_kept x (kept y) = is_file x y
is_kept x (other name) = false

-- the problem is of one of these codes
abbrev pub of_codes : List Code → Problem → Bool
of_codes cs p = list_any (is_code p.code) cs

-- the problem is of this code and in this file
abbrev pub in_file : Code → File → Problem → Bool
in_file c x p = is_code p.code c && is_kept x p.file

-- the problem is of this code, in this file and at this column
abbrev pub at_column : Code → File → List ℕ → Problem → Bool
at_column c x name p = is_code p.code c && is_kept x p.file && bytes_eq p.column name
