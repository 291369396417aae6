-- The stop times of a dataset that passes, as they are handed on.
-- GTFS Schedule Reference, the fields of stop_times.txt. Trips and stops are known by the numbers of their ids.
use Rattle.std.specs.Prelude.{◌≡◌, true, List, map, codes, not, option_map, Some, pos, IsPermutation}
use Rattle.std.specs.List.{All}
use Rattle.std.specs.List.Sorted.{IsStrictlySortedBy}
use Rattle.std.specs.Ordering.{nat_cmp, on, then_cmp}
use Rattle.std.specs.declared.cmp.Ordering.{Ordering}
use Rattle.gtfs_table.specs.Tables.{Dataset}
use Rattle.gtfs_table.specs.Rows.{is_row, records_in, rows}
use Rattle.gtfs_table.specs.declared.file.File.TheVariants as file
use Rattle.gtfs_stop_times.specs.StopTimeChoices.{drop_off_code, pickup_code, timepoint_code}
use Rattle.gtfs_schema.specs.IdNumbers.{id_numbered}
use Rattle.gtfs_schema.specs.RowConditions.{amount_in, choice_in, is_empty_in, word_in}
use Rattle.gtfs_stop_times.specs.declared.stop_time.StopTime.{StopTime}

-- a stop time says what its row says; the row's texts are read by its number
pub record SaysStopTime (d : Dataset) (s : StopTime) : Type 0 where
  pub row : is_row (records_in d file.StopTimes) s.row ≡ true
  pub trip : id_numbered d file.Trips (codes "trip_id") s.trip ≡ word_in d file.StopTimes s.row "trip_id"
  pub stop : id_numbered d file.Stops (codes "stop_id") s.stop_row.stop_id.0 ≡ word_in d file.StopTimes s.row "stop_id"
  pub arrival_time : option_map pos s.stop_row.arrival_time ≡ amount_in d file.StopTimes s.row "arrival_time"
  pub departure_time : option_map pos s.stop_row.departure_time ≡ amount_in d file.StopTimes s.row "departure_time"
  pub stop_sequence : Some (pos s.stop_row.stop_sequence) ≡ amount_in d file.StopTimes s.row "stop_sequence"
  pub pickup_type : Some (pos (pickup_code s.stop_row.pickup_type)) ≡ choice_in d file.StopTimes s.row "pickup_type"
  pub drop_off_type : Some (pos (drop_off_code s.stop_row.drop_off_type)) ≡ choice_in d file.StopTimes s.row "drop_off_type"
  pub timepoint : option_map pos (option_map timepoint_code s.stop_row.timepoint) ≡ amount_in d file.StopTimes s.row "timepoint"
  pub has_headsign : s.has_headsign ≡ not (is_empty_in d file.StopTimes s.row "stop_headsign")

-- by trip, and in a trip by sequence
abbrev pub stop_time_cmp : StopTime → StopTime → Ordering
stop_time_cmp = then_cmp (on (λ s. s.trip) nat_cmp) (on (λ s. s.stop_row.stop_sequence) nat_cmp)

-- one for each row of stop_times.txt, by trip and sequence
pub record AreStopTimes (d : Dataset) (ss : List StopTime) : Type 0 where
  pub each_row : IsPermutation (rows d file.StopTimes) (map (λ s. s.row) ss)
  pub say : All (SaysStopTime d) ss
  pub ascending : IsStrictlySortedBy stop_time_cmp ss
