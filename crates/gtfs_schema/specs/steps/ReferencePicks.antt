-- The columns that name rows, by the file whose rows they name: those of stop_times.txt left out.
use Rattle.std.specs.Prelude.{ℕ, List, [], ◌∷◌, codes}
use Rattle.gtfs_table.specs.declared.file.File.{File}
use Rattle.gtfs_table.specs.declared.file.File.TheVariants as file

abbrev pub stop_names : List (File × List ℕ)
stop_names =
    (file.Stops, codes "parent_station")
    ∷ (file.Transfers, codes "from_stop_id")
    ∷ (file.Transfers, codes "to_stop_id")
    ∷ []

abbrev pub route_names : List (File × List ℕ)
route_names =
    (file.Trips, codes "route_id")
    ∷ (file.Transfers, codes "from_route_id")
    ∷ (file.Transfers, codes "to_route_id")
    ∷ []

abbrev pub service_names : List (File × List ℕ)
service_names = (file.Trips, codes "service_id") ∷ []

abbrev pub trip_names : List (File × List ℕ)
trip_names =
    (file.Frequencies, codes "trip_id")
    ∷ (file.Transfers, codes "from_trip_id")
    ∷ (file.Transfers, codes "to_trip_id")
    ∷ []
