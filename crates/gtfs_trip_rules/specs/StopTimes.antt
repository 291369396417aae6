-- The rows of stop_times.txt, each field of which was read once.
use Rattle.std.specs.Prelude.{◌≡◌, ℕ, ◌||◌, Bool, true, false, List, [], ◌∷◌, codes, not, option_and_then, option_map, Option, is_some, pos}
use Rattle.std.specs.List.{list_any}
use Prim.Native.String.{String as Literal}
use Rattle.gtfs_table.specs.Tables.{Dataset, column_of}
use Rattle.gtfs_table.specs.declared.file.File.TheVariants as file
use Rattle.gtfs_schema.specs.declared.code.Code.{Code}
use Rattle.gtfs_trip_rules.specs.declared.stop_times.columns.ReadStopTime.{ReadStopTime}
use Rattle.gtfs_trip_rules.specs.declared.stop_times.columns.StopTimeColumns.{StopTimeColumns}
use Rattle.gtfs_trip_rules.specs.declared.stop_times.named.NamedId.{NamedId}
use Rattle.gtfs_trip_rules.specs.declared.stop_times.named.NamedIds.{NamedIds}
use Rattle.gtfs_trip_rules.specs.declared.stop_times.named.NamedRows.{NamedRows}
use Rattle.gtfs_trip_rules.specs.declared.stop_times.reading.Reading.{Reading}
use Rattle.gtfs_stop_times.specs.StopTimeChoices.{drop_off_code, pickup_code, timepoint_code}
use Rattle.gtfs_schema.specs.Columns.{Kind, id, text, count, time, up_to}
use Rattle.gtfs_schema.specs.steps.FieldCodes.{is_found_at, length_code}
use Rattle.gtfs_schema.specs.FieldRules.{field_count}
use Rattle.gtfs_schema.specs.steps.FoundProblems.{Reports}
use Rattle.gtfs_schema.specs.steps.Ids.{FirstRows, first_row_with, first_rows, number_with}
use Rattle.gtfs_schema.specs.Problems.{Problem}
use Rattle.gtfs_trip_rules.specs.StopTimeFields.{code_in, fault_in, fault_of, is_blank, text_of, value_in}
use Rattle.gtfs_table.specs.Rows.{is_row, records_in, is_empty}
use Rattle.gtfs_schema.specs.RowConditions.{text_in}
use Rattle.gtfs_schema.specs.steps.StopTypes.{AreStopTypes}
use Rattle.gtfs_trip_rules.specs.StopTimePicks.{at_row}
use Rattle.gtfs_schema.specs.FieldValues.{Value, word, amount, readable}

abbrev pub stop_time_text : Dataset → ℕ → Literal → List ℕ
stop_time_text d n name = text_in d file.StopTimes n (codes name)

abbrev pub index_in : Dataset → Literal → Option ℕ
index_in d name = column_of (records_in d file.StopTimes) (codes name)

-- the indices of the kept columns, and the length of the header
pub record AreStopTimeColumns (d : Dataset) (c : StopTimeColumns) : Type 0 where
  pub tables : c.tables.now ≡ d
  pub width : c.width ≡ field_count d file.StopTimes 1
  pub trip_id : c.trip_id ≡ index_in d "trip_id"
  pub arrival_time : c.arrival_time ≡ index_in d "arrival_time"
  pub departure_time : c.departure_time ≡ index_in d "departure_time"
  pub stop_id : c.stop_id ≡ index_in d "stop_id"
  pub stop_sequence : c.stop_sequence ≡ index_in d "stop_sequence"
  pub stop_headsign : c.stop_headsign ≡ index_in d "stop_headsign"
  pub pickup_type : c.pickup_type ≡ index_in d "pickup_type"
  pub drop_off_type : c.drop_off_type ≡ index_in d "drop_off_type"
  pub timepoint : c.timepoint ≡ index_in d "timepoint"

-- what was read of a text of a kind
pub record IsReading {V : Type 0} (kind : Kind) (as_value : V → Value) (t : List ℕ) (r : Reading V) : Type 0 where
  pub empty : is_blank r ≡ is_empty t
  pub fault : fault_in r ≡ fault_of kind t
  pub value : option_map as_value (value_in r) ≡ readable kind t

-- what a row says
pub record IsStopTime (d : Dataset) (n : ℕ) (s : ReadStopTime) : Type 0 where
  pub row : s.row ≡ n
  pub fields : s.fields ≡ field_count d file.StopTimes n
  pub trip_id : IsReading id (λ t. word t.now) (stop_time_text d n "trip_id") s.trip_id
  pub arrival_time : IsReading time (λ x. amount (pos x)) (stop_time_text d n "arrival_time") s.arrival_time
  pub departure_time : IsReading time (λ x. amount (pos x)) (stop_time_text d n "departure_time") s.departure_time
  pub stop_id : IsReading id (λ t. word t.now) (stop_time_text d n "stop_id") s.stop_id
  pub stop_sequence : IsReading count (λ x. amount (pos x)) (stop_time_text d n "stop_sequence") s.stop_sequence
  pub stop_headsign : s.stop_headsign ≡ fault_of text (stop_time_text d n "stop_headsign")
  pub has_headsign : s.has_headsign ≡ not (is_empty (stop_time_text d n "stop_headsign"))
  pub pickup_type : IsReading (up_to 3) (λ b. amount (pos (pickup_code b))) (stop_time_text d n "pickup_type") s.pickup_type
  pub drop_off_type : IsReading (up_to 3) (λ b. amount (pos (drop_off_code b))) (stop_time_text d n "drop_off_type") s.drop_off_type
  pub timepoint : IsReading (up_to 1) (λ e. amount (pos (timepoint_code e))) (stop_time_text d n "timepoint") s.timepoint

-- ---- what is reported of a row

-- what is wrong with each field, by the name of its column
abbrev pub cells_of : StopTimeColumns → ReadStopTime → List (List ℕ × Option Code)
cells_of c s =
    (codes "trip_id", code_in (is_some c.trip_id) s.trip_id)
    ∷ (codes "arrival_time", code_in false s.arrival_time)
    ∷ (codes "departure_time", code_in false s.departure_time)
    ∷ (codes "stop_id", code_in (is_some c.stop_id) s.stop_id)
    ∷ (codes "stop_sequence", code_in (is_some c.stop_sequence) s.stop_sequence)
    ∷ (codes "stop_headsign", s.stop_headsign)
    ∷ (codes "pickup_type", code_in false s.pickup_type)
    ∷ (codes "drop_off_type", code_in false s.drop_off_type)
    ∷ (codes "timepoint", code_in false s.timepoint)
    ∷ []

-- the length of the row and its fields
abbrev pub fields_report : StopTimeColumns → ReadStopTime → Problem → Bool
fields_report c s p = is_found_at (length_code c.width s.fields) [] p || list_any (λ cell. is_found_at cell.1 cell.0 p) (cells_of c s)

-- the record is a row, and this is what it says
pub record IsRow (d : Dataset) (s : ReadStopTime) : Type 0 where
  pub row : is_row (records_in d file.StopTimes) s.row ≡ true
  pub says : IsStopTime d s.row s

-- of the problems of a row that a test picks just those that the dataset has were added
abbrev pub ReportsOfRow : Dataset → (Problem → Bool) → ℕ → List Problem → List Problem → Type 0
ReportsOfRow d picks n old new = Reports d (at_row picks n) old new

-- what was read of the text of an id, and where it stands
pub record IsNamedId (i : FirstRows) (t : List ℕ) (n : NamedId) : Type 0 where
  pub reading : IsReading id (λ t. word t.now) t n.reading
  pub number : n.number ≡ option_and_then (number_with i) (text_of (value_in n.reading))
  pub row : n.row ≡ option_and_then (first_row_with i) (text_of (value_in n.reading))

-- the ids have the numbers of the trip and of the stop that a row names
pub record AreNumbersOf (d : Dataset) (s : ReadStopTime) (names : NamedIds) : Type 0 where
  pub trip : names.trip.number ≡ option_and_then (number_with (first_rows d file.Trips (codes "trip_id"))) (text_of (value_in s.trip_id))
  pub stop : names.stop.number ≡ option_and_then (number_with (first_rows d file.Stops (codes "stop_id"))) (text_of (value_in s.stop_id))

-- the rows that stop times name are those of this dataset
pub record AreNamedRows (d : Dataset) (r : NamedRows) : Type 0 where
  pub stops : r.stops.ids.now ≡ first_rows d file.Stops (codes "stop_id")
  pub trips : r.trips.ids.now ≡ first_rows d file.Trips (codes "trip_id")
  pub types : AreStopTypes d r.types.now
