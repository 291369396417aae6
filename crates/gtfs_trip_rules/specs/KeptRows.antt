-- What a stop time as it is kept says of its row, where the row's values are readable and what they name is there.
use Rattle.std.specs.Prelude.{◌≡◌, ℕ, Option, Some, option_and_then, option_map, ℤ, pos, [], ◌∷◌, List, codes, not}
use Rattle.std.specs.List.{All}
use Rattle.gtfs_table.specs.Tables.{Dataset}
use Rattle.gtfs_table.specs.declared.file.File.TheVariants as file
use Rattle.gtfs_table.specs.Rows.{is_empty}
use Rattle.gtfs_schema.specs.Columns.{count, id, time, up_to}
use Rattle.gtfs_schema.specs.IdNumbers.{number_of_id}
use Rattle.gtfs_schema.specs.ReadRules.{IsReadAs}
use Rattle.gtfs_schema.specs.ReadFields.{amount_of, choice_of, word_of}
use Rattle.gtfs_stop_times.specs.StopTimeChoices.{drop_off_code, pickup_code, timepoint_code}
use Rattle.gtfs_stop_times.specs.declared.stop_time.StopTime.{StopTime}
use Rattle.gtfs_trip_rules.specs.StopTimes.{stop_time_text}

-- ---- a row

-- the number of the trip that a text names, and of the stop
abbrev pub named_trip_number : Dataset → List ℕ → Option ℕ
named_trip_number d t = option_and_then (number_of_id d file.Trips (codes "trip_id")) (word_of id t)

abbrev pub named_stop_number : Dataset → List ℕ → Option ℕ
named_stop_number d t = option_and_then (number_of_id d file.Stops (codes "stop_id")) (word_of id t)

-- what is kept of a row, but for its trip
pub record KeepsRow (d : Dataset) (n : ℕ) (r : StopTime) : Type 0 where
  pub row : r.row ≡ n
  pub stop : (m : ℕ) → named_stop_number d (stop_time_text d n "stop_id") ≡ Some m → r.stop_row.stop_id.0 ≡ m
  pub sequence : (x : ℤ) → amount_of count (stop_time_text d n "stop_sequence") ≡ Some x → pos r.stop_row.stop_sequence ≡ x
  pub arrival : option_map pos r.stop_row.arrival_time ≡ amount_of time (stop_time_text d n "arrival_time")
  pub departure : option_map pos r.stop_row.departure_time ≡ amount_of time (stop_time_text d n "departure_time")
  pub pickup_type : (x : ℤ) → choice_of ((0, 3) ∷ []) (codes "0") (stop_time_text d n "pickup_type") ≡ Some x → pos (pickup_code r.stop_row.pickup_type) ≡ x
  pub drop_off_type : (x : ℤ) → choice_of ((0, 3) ∷ []) (codes "0") (stop_time_text d n "drop_off_type") ≡ Some x → pos (drop_off_code r.stop_row.drop_off_type) ≡ x
  pub headsign : r.has_headsign ≡ not (is_empty (stop_time_text d n "stop_headsign"))
  pub timepoint : IsReadAs (up_to 1) (stop_time_text d n "timepoint") → option_map pos (option_map timepoint_code r.stop_row.timepoint) ≡ amount_of (up_to 1) (stop_time_text d n "timepoint")

-- and with its trip
pub record Keeps (d : Dataset) (r : StopTime) : Type 0 where
  pub rest : KeepsRow d r.row r
  pub trip : (m : ℕ) → named_trip_number d (stop_time_text d r.row "trip_id") ≡ Some m → r.trip ≡ m

abbrev pub AllKeep : Dataset → List StopTime → Type 0
AllKeep d rows = All (Keeps d) rows
