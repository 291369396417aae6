-- Which problems of rows are reported in one pass over their file.
use Rattle.std.specs.Prelude.{◌||◌, ◌++◌, Bool, List, [], ◌∷◌}
use Rattle.gtfs_table.specs.declared.file.File.{File}
use Rattle.gtfs_table.specs.declared.file.File.TheVariants as file
use Rattle.gtfs_schema.specs.declared.code.Code.{Code}
use Rattle.gtfs_schema.specs.declared.code.Code.TheVariants as code
use Rattle.gtfs_schema.specs.steps.FieldCodes.{field_codes, in_file_of}
use Rattle.gtfs_schema.specs.Problems.{Problem}

-- the codes of a row's key, of the rows that it names, and of its values beside each other
abbrev pub beside_codes : List Code
beside_codes = code.E09 ∷ code.E10 ∷ code.E11 ∷ code.E12 ∷ code.E13 ∷ code.E14 ∷ code.E18 ∷ []

abbrev pub row_codes : List Code
row_codes = field_codes ++ beside_codes

-- the rows of one file
abbrev pub in_rows_of : File → Problem → Bool
in_rows_of x = in_file_of row_codes x

-- those of all files but stop_times.txt
abbrev pub in_rows : Problem → Bool
in_rows p = in_rows_of file.Agency p || in_rows_of file.Stops p || in_rows_of file.Routes p || in_rows_of file.Trips p
    || in_rows_of file.Calendar p || in_rows_of file.CalendarDates p || in_rows_of file.Frequencies p || in_rows_of file.Transfers p
