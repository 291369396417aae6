-- The names of the kept files.
-- GTFS Schedule Reference, "Dataset Files".
use Rattle.std.specs.Prelude.{ℕ, List, codes}
use Rattle.gtfs_table.specs.declared.file.File.{File}
use Rattle.gtfs_table.specs.declared.file.File.TheVariants as file

abbrev pub file_name : File → List ℕ
file_name file.Agency = codes "agency.txt"
file_name file.Stops = codes "stops.txt"
file_name file.Routes = codes "routes.txt"
file_name file.Trips = codes "trips.txt"
file_name file.StopTimes = codes "stop_times.txt"
file_name file.Calendar = codes "calendar.txt"
file_name file.CalendarDates = codes "calendar_dates.txt"
file_name file.Frequencies = codes "frequencies.txt"
file_name file.Transfers = codes "transfers.txt"
