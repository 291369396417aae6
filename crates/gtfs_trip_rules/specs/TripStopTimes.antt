-- The rows of stop_times.txt that have a trip id and a sequence, as records.
use Rattle.std.specs.Prelude.{ℕ, ◌&&◌, Bool, List, [], map, filter, Option, is_some, option_map, ℤ, pos}
use Rattle.std.specs.Option.{unwrap_or}
use Rattle.gtfs_table.specs.Tables.{Dataset}
use Rattle.gtfs_table.specs.declared.file.File.TheVariants as file
use Rattle.gtfs_stop_times.specs.declared.stop_time.StopTime.{StopTime}
use Rattle.gtfs_stop_times.specs.KeptTimes.{arrives, departs, is_untimed}
use Rattle.gtfs_table.specs.Rows.{rows}
use Rattle.gtfs_schema.specs.RowConditions.{is_empty_in, word_in}
use Rattle.gtfs_schema.specs.TripRules.{sequence_in, arrival_in, departure_in}

pub record TripStopTime : Type 0 where
  pub trip_id : List ℕ
  pub sequence : ℤ
  pub row : ℕ
  pub arrival : Option ℤ
  pub departure : Option ℤ
  -- both times are empty
  pub is_untimed : Bool

-- a row of the code, whose trip is known by its number
abbrev pub trip_stop_time : (ℕ → List ℕ) → StopTime → TripStopTime
trip_stop_time name r = record {
  trip_id = name r.trip;
  sequence = pos r.stop_row.stop_sequence;
  row = r.row;
  arrival = option_map pos (arrives r);
  departure = option_map pos (departs r);
  is_untimed = is_untimed r;
}

-- a row by its number; a missing id is the empty text, and a missing sequence is 0
abbrev pub trip_stop_time_in : Dataset → ℕ → TripStopTime
trip_stop_time_in d n = record {
  trip_id = unwrap_or (word_in d file.StopTimes n "trip_id") [];
  sequence = unwrap_or (sequence_in d n) (pos 0);
  row = n;
  arrival = arrival_in d n;
  departure = departure_in d n;
  is_untimed = is_empty_in d file.StopTimes n "arrival_time" && is_empty_in d file.StopTimes n "departure_time";
}

-- the row has an id and a sequence
abbrev pub has_trip_stop_time : Dataset → ℕ → Bool
has_trip_stop_time d n = is_some (word_in d file.StopTimes n "trip_id") && is_some (sequence_in d n)

-- these rows, in the file's order
abbrev pub trip_stop_times_in : Dataset → List TripStopTime
trip_stop_times_in d = map (trip_stop_time_in d) (filter (has_trip_stop_time d) (rows d file.StopTimes))
