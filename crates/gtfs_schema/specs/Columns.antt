-- The kept columns of the nine files, as data.
-- GTFS Schedule Reference, the tables of fields of agency.txt, stops.txt, routes.txt, trips.txt, stop_times.txt, calendar.txt,
-- calendar_dates.txt, frequencies.txt and transfers.txt. Which columns are kept is this toolkit's choice.
use Rattle.std.specs.Prelude.{ℕ, List, [], ◌∷◌, bytes_eq, find, codes, Option}
use Prim.Native.String.{String as Literal}
use Rattle.gtfs_field.specs.declared.coord.Axis.{Axis}
use Rattle.gtfs_field.specs.declared.coord.Axis.TheVariants.{Latitude, Longitude}
use Rattle.gtfs_table.specs.declared.file.File.{File}
use Rattle.gtfs_table.specs.declared.file.File.TheVariants as file

-- the kind of a column; a choice is given by ranges of numbers
pub data Kind : Type 0 where
  id : Kind
  text : Kind
  count : Kind
  choice : List (ℕ × ℕ) → Kind
  time : Kind
  date : Kind
  colour : Kind
  coordinate : Axis → Kind

-- what an empty value is: an error, no value, or what this text means
pub data Empty : Type 0 where
  refused : Empty
  nothing : Empty
  means : List ℕ → Empty

pub record Column : Type 0 where
  pub name : List ℕ
  pub kind : Kind
  pub empty : Empty

-- a column that the header must name and that each row must fill
abbrev pub required : Literal → Kind → Column
required name kind = record { name = codes name; kind = kind; empty = refused }

-- a column whose empty value is none
abbrev pub optional : Literal → Kind → Column
optional name kind = record { name = codes name; kind = kind; empty = nothing }

-- a column whose empty value has a meaning
abbrev pub defaulting : Literal → Kind → Literal → Column
defaulting name kind meaning = record { name = codes name; kind = kind; empty = means (codes meaning) }

-- a count that is not 0
abbrev pub positive : Kind
positive = choice ((1, 2_147_483_647) ∷ [])

-- the numbers from 0 to n
abbrev pub up_to : ℕ → Kind
up_to n = choice ((0, n) ∷ [])

-- the basic types of routes and the extended ones
abbrev pub route_types : Kind
route_types = choice ((0, 7) ∷ (11, 12) ∷ (100, 1799) ∷ [])

-- the kept columns of a file, in the order in which they are written
abbrev pub columns_of : File → List Column
columns_of file.Agency =
    optional "agency_id" id
    ∷ required "agency_name" text
    ∷ required "agency_url" text
    ∷ required "agency_timezone" id
    ∷ optional "agency_lang" text
    ∷ optional "agency_phone" text
    ∷ optional "agency_fare_url" text
    ∷ optional "agency_email" text
    ∷ []
columns_of file.Stops =
    required "stop_id" id
    ∷ optional "stop_code" text
    ∷ optional "stop_name" text
    ∷ optional "tts_stop_name" text
    ∷ optional "stop_desc" text
    ∷ optional "stop_lat" (coordinate Latitude)
    ∷ optional "stop_lon" (coordinate Longitude)
    ∷ optional "stop_url" text
    ∷ defaulting "location_type" (up_to 4) "0"
    ∷ optional "parent_station" id
    ∷ defaulting "wheelchair_boarding" (up_to 2) "0"
    ∷ optional "platform_code" text
    ∷ []
columns_of file.Routes =
    required "route_id" id
    ∷ optional "agency_id" id
    ∷ optional "route_short_name" text
    ∷ optional "route_long_name" text
    ∷ optional "route_desc" text
    ∷ required "route_type" route_types
    ∷ optional "route_url" text
    ∷ defaulting "route_color" colour "FFFFFF"
    ∷ defaulting "route_text_color" colour "000000"
    ∷ optional "route_sort_order" count
    ∷ []
columns_of file.Trips =
    required "route_id" id
    ∷ required "service_id" id
    ∷ required "trip_id" id
    ∷ optional "trip_headsign" text
    ∷ optional "trip_short_name" text
    ∷ optional "direction_id" (up_to 1)
    ∷ defaulting "wheelchair_accessible" (up_to 2) "0"
    ∷ defaulting "bikes_allowed" (up_to 2) "0"
    ∷ []
columns_of file.StopTimes =
    required "trip_id" id
    ∷ optional "arrival_time" time
    ∷ optional "departure_time" time
    ∷ required "stop_id" id
    ∷ required "stop_sequence" count
    ∷ optional "stop_headsign" text
    ∷ defaulting "pickup_type" (up_to 3) "0"
    ∷ defaulting "drop_off_type" (up_to 3) "0"
    ∷ optional "timepoint" (up_to 1)
    ∷ []
columns_of file.Calendar =
    required "service_id" id
    ∷ required "monday" (up_to 1)
    ∷ required "tuesday" (up_to 1)
    ∷ required "wednesday" (up_to 1)
    ∷ required "thursday" (up_to 1)
    ∷ required "friday" (up_to 1)
    ∷ required "saturday" (up_to 1)
    ∷ required "sunday" (up_to 1)
    ∷ required "start_date" date
    ∷ required "end_date" date
    ∷ []
columns_of file.CalendarDates =
    required "service_id" id
    ∷ required "date" date
    ∷ required "exception_type" (choice ((1, 2) ∷ []))
    ∷ []
columns_of file.Frequencies =
    required "trip_id" id
    ∷ required "start_time" time
    ∷ required "end_time" time
    ∷ required "headway_secs" positive
    ∷ defaulting "exact_times" (up_to 1) "0"
    ∷ []
columns_of file.Transfers =
    optional "from_stop_id" id
    ∷ optional "to_stop_id" id
    ∷ optional "from_route_id" id
    ∷ optional "to_route_id" id
    ∷ optional "from_trip_id" id
    ∷ optional "to_trip_id" id
    ∷ defaulting "transfer_type" (up_to 5) "0"
    ∷ optional "min_transfer_time" count
    ∷ []

abbrev pub column_named : File → List ℕ → Option Column
column_named x name = find (λ c. bytes_eq c.name name) (columns_of x)
