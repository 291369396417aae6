-- Which problems each part of the check looks at.
use Rattle.std.specs.Prelude.{◌||◌, Bool, [], ◌∷◌}
use Rattle.gtfs_table.specs.declared.file.File.TheVariants as file
use Rattle.gtfs_schema.specs.declared.code.Code.TheVariants as code
use Rattle.gtfs_schema.specs.steps.KeptColumns.{in_file, of_codes}
use Rattle.gtfs_schema.specs.Problems.{Problem}
use Rattle.gtfs_row_rules.specs.RowCodes.{in_rows}
use Rattle.gtfs_trip_rules.specs.StopTimePicks.{in_stop_times}

-- files and their headers
abbrev pub in_files : Problem → Bool
in_files p = of_codes (code.E01 ∷ code.E02 ∷ code.E05 ∷ code.W03 ∷ []) p || of_codes (code.E03 ∷ code.E04 ∷ code.W04 ∷ []) p

-- stop times, and the trips that they name
abbrev pub in_trips : Problem → Bool
in_trips p = in_stop_times p || of_codes (code.W06 ∷ []) p || (in_file code.E09 file.StopTimes p || of_codes (code.E15 ∷ code.E17 ∷ []) p)

-- periods and services
abbrev pub in_periods_and_services : Problem → Bool
in_periods_and_services p = of_codes (code.E19 ∷ []) p || of_codes (code.W07 ∷ []) p

abbrev pub every : Problem → Bool
every p = in_files p || in_rows p || in_trips p || in_periods_and_services p
