-- The keys of the nine files, and the columns that name rows of other files, as data.
-- GTFS Schedule Reference, the "Primary key" of each file and its fields of type "Foreign ID".
use Rattle.std.specs.Prelude.{ℕ, Bool, true, false, List, [], ◌∷◌, codes, slice_index_or}
use Prim.Native.String.{String as Literal}
use Rattle.gtfs_table.specs.declared.file.File.{File}
use Rattle.gtfs_table.specs.declared.file.File.TheVariants as file

-- the columns of a file's key
abbrev pub key_columns : File → List (List ℕ)
key_columns file.Agency = codes "agency_id" ∷ []
key_columns file.Stops = codes "stop_id" ∷ []
key_columns file.Routes = codes "route_id" ∷ []
key_columns file.Trips = codes "trip_id" ∷ []
key_columns file.StopTimes = codes "trip_id" ∷ codes "stop_sequence" ∷ []
key_columns file.Calendar = codes "service_id" ∷ []
key_columns file.CalendarDates = codes "service_id" ∷ codes "date" ∷ []
key_columns file.Frequencies = codes "trip_id" ∷ codes "start_time" ∷ []
key_columns file.Transfers = codes "from_stop_id" ∷ codes "to_stop_id" ∷ codes "from_route_id" ∷ codes "to_route_id" ∷ codes "from_trip_id" ∷ codes "to_trip_id" ∷ []

-- the column of a file's ids: the first of its key
abbrev pub id_column : File → List ℕ
id_column x = slice_index_or (key_columns x) 0 []

-- the column at which a second row with one key is reported
abbrev pub reported_column : File → List ℕ
reported_column file.Agency = codes "agency_id"
reported_column file.Stops = codes "stop_id"
reported_column file.Routes = codes "route_id"
reported_column file.Trips = codes "trip_id"
reported_column file.StopTimes = codes "stop_sequence"
reported_column file.Calendar = codes "service_id"
reported_column file.CalendarDates = codes "date"
reported_column file.Frequencies = codes "start_time"
reported_column file.Transfers = codes "from_stop_id"

-- parts of the file's key may be empty
abbrev pub takes_empty_parts : File → Bool
takes_empty_parts file.Agency = false
takes_empty_parts file.Stops = false
takes_empty_parts file.Routes = false
takes_empty_parts file.Trips = false
takes_empty_parts file.StopTimes = false
takes_empty_parts file.Calendar = false
takes_empty_parts file.CalendarDates = false
takes_empty_parts file.Frequencies = false
takes_empty_parts file.Transfers = true

-- a column whose value is an id of one of these files, each with the column that holds the file's ids
pub record Reference : Type 0 where
  pub file : File
  pub column : List ℕ
  pub targets : List (File × List ℕ)

abbrev pub stop_targets : List (File × List ℕ)
stop_targets = (file.Stops, codes "stop_id") ∷ []

abbrev pub route_targets : List (File × List ℕ)
route_targets = (file.Routes, codes "route_id") ∷ []

abbrev pub trip_targets : List (File × List ℕ)
trip_targets = (file.Trips, codes "trip_id") ∷ []

abbrev pub naming : File → Literal → List (File × List ℕ) → Reference
naming x column targets = record { file = x; column = codes column; targets = targets }

abbrev pub references : List Reference
references =
    naming file.Stops "parent_station" stop_targets
    ∷ naming file.StopTimes "stop_id" stop_targets
    ∷ naming file.Transfers "from_stop_id" stop_targets
    ∷ naming file.Transfers "to_stop_id" stop_targets
    ∷ naming file.Routes "agency_id" ((file.Agency, codes "agency_id") ∷ [])
    ∷ naming file.Trips "route_id" route_targets
    ∷ naming file.Transfers "from_route_id" route_targets
    ∷ naming file.Transfers "to_route_id" route_targets
    ∷ naming file.Trips "service_id" ((file.Calendar, codes "service_id") ∷ (file.CalendarDates, codes "service_id") ∷ [])
    ∷ naming file.StopTimes "trip_id" trip_targets
    ∷ naming file.Frequencies "trip_id" trip_targets
    ∷ naming file.Transfers "from_trip_id" trip_targets
    ∷ naming file.Transfers "to_trip_id" trip_targets
    ∷ []
