-- Which problems the pass over stop_times.txt looks at.
use Rattle.std.specs.Prelude.{ℕ, ◌&&◌, ◌||◌, ◌==◌, Bool, List, [], ◌∷◌, codes}
use Rattle.gtfs_table.specs.declared.file.File.{File}
use Rattle.gtfs_table.specs.declared.file.File.TheVariants as file
use Rattle.gtfs_schema.specs.declared.code.Code.TheVariants as code
use Rattle.gtfs_schema.specs.steps.FieldCodes.{field_codes, in_file_of}
use Rattle.gtfs_schema.specs.steps.KeptColumns.{in_file, of_codes}
use Rattle.gtfs_schema.specs.steps.SitePicks.{at_sites}
use Rattle.gtfs_schema.specs.Problems.{Problem}

-- the picked problems of one row
abbrev pub at_row : (Problem → Bool) → ℕ → Problem → Bool
at_row picks n p = picks p && (p.row == n)

abbrev pub names_in_rows : List (File × List ℕ)
names_in_rows = (file.StopTimes, codes "stop_id") ∷ (file.StopTimes, codes "trip_id") ∷ []

abbrev pub stops_in_rows : List (File × List ℕ)
stops_in_rows = (file.StopTimes, codes "stop_id") ∷ []

-- rows that are named and are not there, or of another kind
abbrev pub in_names : Problem → Bool
in_names p = at_sites code.E10 names_in_rows p || at_sites code.E11 stops_in_rows p

abbrev pub departures_in_rows : List (File × List ℕ)
departures_in_rows = (file.StopTimes, codes "departure_time") ∷ []

abbrev pub times_in_rows : List (File × List ℕ)
times_in_rows = (file.StopTimes, codes "arrival_time") ∷ (file.StopTimes, codes "departure_time") ∷ []

-- the two times of a row
abbrev pub in_times : Problem → Bool
in_times p = at_sites code.E16 departures_in_rows p || at_sites code.W08 times_in_rows p

-- fields, names and times of a row
abbrev pub in_rows : Problem → Bool
in_rows p = in_file_of field_codes file.StopTimes p || in_names p || in_times p

-- these codes in stop_times.txt
abbrev pub in_stop_times : Problem → Bool
in_stop_times p = in_file_of field_codes file.StopTimes p || (in_file code.E10 file.StopTimes p || in_file code.E11 file.StopTimes p)
    || (in_file code.E16 file.StopTimes p || in_file code.W08 file.StopTimes p)

-- what the order of a trip's rows breaks
abbrev pub breaks_order : Problem → Bool
breaks_order p = in_file code.E09 file.StopTimes p || of_codes (code.E15 ∷ code.E17 ∷ []) p
