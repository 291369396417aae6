-- The cells of each row, in the order of `columns_of`, and the rows of each file, ascending by their keys.
use Rattle.std.specs.Prelude.{ℕ, ◌++◌, Bool, List, [], ◌∷◌, map, flat_map, if◌then◌else◌, Option, Some, None, option_map, ℤ, pos}
use Rattle.gtfs_days.specs.declared.week.Week.{Week}
use Rattle.gtfs_days.specs.declared.exception.Exception.{Exception}
use Rattle.gtfs_days.specs.declared.exception.Exception.TheVariants.{Added, Removed}
use Rattle.gtfs_table.specs.declared.file.File.{File}
use Rattle.gtfs_table.specs.declared.file.File.TheVariants as file
use Rattle.gtfs_table.specs.Rows.{is_empty}
use Rattle.gtfs_schema.specs.FieldValues.{Value, word, amount}
use Rattle.gtfs_rows.specs.Cells.{Cell}
use Rattle.gtfs_rows.specs.Content.{Content}
use Rattle.gtfs_rows.specs.Rows.{Agency, Stop, Route, StopRow, Frequency, Trip, Transfer}

abbrev pub value_of_number : ℕ → Value
value_of_number n = amount (pos n)

-- an id that is empty where there is none
abbrev pub id_cell : List ℕ → Cell
id_cell t = if is_empty t then None else Some (word t)

abbrev pub agency_cells : Agency → List Cell
agency_cells a = id_cell a.agency_id ∷ Some (word a.agency_name) ∷ Some (word a.agency_url) ∷ Some (word a.agency_timezone)
    ∷ option_map word a.agency_lang ∷ option_map word a.agency_phone ∷ option_map word a.agency_fare_url ∷ option_map word a.agency_email ∷ []

abbrev pub stop_cells : Stop → List Cell
stop_cells s = Some (word s.stop_id) ∷ option_map word s.stop_code ∷ option_map word s.stop_name ∷ option_map word s.tts_stop_name
    ∷ option_map word s.stop_desc ∷ option_map amount s.stop_lat ∷ option_map amount s.stop_lon ∷ option_map word s.stop_url
    ∷ Some (value_of_number s.location_type) ∷ option_map word s.parent_station ∷ Some (value_of_number s.wheelchair_boarding) ∷ option_map word s.platform_code ∷ []

abbrev pub route_cells : Route → List Cell
route_cells r = Some (word r.route_id) ∷ id_cell r.agency_id ∷ option_map word r.route_short_name ∷ option_map word r.route_long_name
    ∷ option_map word r.route_desc ∷ Some (value_of_number r.route_type) ∷ option_map word r.route_url ∷ Some (value_of_number r.route_color)
    ∷ Some (value_of_number r.route_text_color) ∷ option_map value_of_number r.route_sort_order ∷ []

abbrev pub trip_cells : Trip → List Cell
trip_cells t = Some (word t.route_id) ∷ Some (word t.service_id) ∷ Some (word t.trip_id) ∷ option_map word t.trip_headsign
    ∷ option_map word t.trip_short_name ∷ option_map value_of_number t.direction_id ∷ Some (value_of_number t.wheelchair_accessible) ∷ Some (value_of_number t.bikes_allowed) ∷ []

abbrev pub stop_time_cells : List ℕ × StopRow → List Cell
stop_time_cells p = Some (word p.0) ∷ option_map value_of_number p.1.arrival_time ∷ option_map value_of_number p.1.departure_time ∷ Some (word p.1.stop_id)
    ∷ Some (value_of_number p.1.stop_sequence) ∷ option_map word p.1.stop_headsign ∷ Some (value_of_number p.1.pickup_type) ∷ Some (value_of_number p.1.drop_off_type)
    ∷ option_map value_of_number p.1.timepoint ∷ []

abbrev pub flag : Bool → Cell
flag b = Some (value_of_number (if b then 1 else 0))

abbrev pub week_cells : List ℕ × Week → List Cell
week_cells p = Some (word p.0) ∷ (map flag p.1.days ++ Some (amount p.1.start) ∷ Some (amount p.1.end) ∷ [])

abbrev pub exception_number : Exception → ℕ
exception_number Added = 1
exception_number Removed = 2

abbrev pub exception_cells : List ℕ × (ℤ × Exception) → List Cell
exception_cells p = Some (word p.0) ∷ Some (amount p.1.0) ∷ Some (value_of_number (exception_number p.1.1)) ∷ []

abbrev pub frequency_cells : List ℕ × Frequency → List Cell
frequency_cells p = Some (word p.0) ∷ Some (value_of_number p.1.start_time) ∷ Some (value_of_number p.1.end_time) ∷ Some (value_of_number p.1.headway_secs)
    ∷ Some (value_of_number p.1.exact_times) ∷ []

abbrev pub transfer_cells : Transfer → List Cell
transfer_cells t = option_map word t.from_stop_id ∷ option_map word t.to_stop_id ∷ option_map word t.from_route_id ∷ option_map word t.to_route_id
    ∷ option_map word t.from_trip_id ∷ option_map word t.to_trip_id ∷ Some (value_of_number t.transfer_type) ∷ option_map value_of_number t.min_transfer_time ∷ []

-- ---- the rows of the files that a trip or a service holds

-- each element of the lists that some rows hold, with the row's id
abbrev pub held_by : {X Y : Type 0} → (X → List ℕ) → (X → List Y) → List X → List (List ℕ × Y)
held_by id of xs = flat_map (λ x. map (λ y. (id x, y)) (of x)) xs

abbrev pub week_list : Option Week → List Week
week_list None = []
week_list (Some w) = w ∷ []

abbrev pub stop_times_of : Content → List (List ℕ × StopRow)
stop_times_of c = held_by (λ t. t.trip_id) (λ t. t.stop_rows) c.trips

abbrev pub frequencies_of : Content → List (List ℕ × Frequency)
frequencies_of c = held_by (λ t. t.trip_id) (λ t. t.frequencies) c.trips

abbrev pub weeks_of : Content → List (List ℕ × Week)
weeks_of c = held_by (λ s. s.service_id) (λ s. week_list s.service.week) c.services

abbrev pub exceptions_of : Content → List (List ℕ × (ℤ × Exception))
exceptions_of c = held_by (λ s. s.service_id) (λ s. s.service.exceptions) c.services

-- the cells of the rows of a file
abbrev pub cells_in : Content → File → List (List Cell)
cells_in c file.Agency = map agency_cells c.agencies
cells_in c file.Stops = map stop_cells c.stops
cells_in c file.Routes = map route_cells c.routes
cells_in c file.Trips = map trip_cells c.trips
cells_in c file.StopTimes = map stop_time_cells (stop_times_of c)
cells_in c file.Calendar = map week_cells (weeks_of c)
cells_in c file.CalendarDates = map exception_cells (exceptions_of c)
cells_in c file.Frequencies = map frequency_cells (frequencies_of c)
cells_in c file.Transfers = map transfer_cells c.transfers
