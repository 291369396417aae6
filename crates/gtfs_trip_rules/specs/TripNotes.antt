-- The rows of stop_times.txt that name a trip, as records.
use Rattle.std.specs.Prelude.{◌≡◌, ℕ, ◌&&◌, ◌∷◌, ◌++◌, Bool, List, [], length, map, filter, bytes_eq, Option, Some, None, if◌then◌else◌, is_some, option_map, ℤ}
use Rattle.std.specs.List.{filter_map}
use Rattle.std.specs.Option.{unwrap_or}
use Rattle.gtfs_table.specs.Tables.{Dataset}
use Rattle.gtfs_table.specs.declared.file.File.TheVariants as file
use Rattle.gtfs_stop_times.specs.declared.stop_time.StopTime.{StopTime}
use Rattle.gtfs_table.specs.Rows.{rows}
use Rattle.gtfs_schema.specs.RowConditions.{is_empty_in, word_in}
use Rattle.gtfs_stop_times.specs.KeptTimes.{with_trip, is_placed}
use Rattle.gtfs_trip_rules.specs.TripStopTimes.{TripStopTime, trip_stop_time}
use Rattle.gtfs_schema.specs.TripRules.{sequence_in, arrival_in, departure_in}

-- what a row says of its trip: which one it is, and where it has a sequence its stop time
pub record TripNote : Type 0 where
  pub trip_id : List ℕ
  pub row : Option TripStopTime

-- a row as it is kept, where it has a sequence
abbrev pub said : (ℕ → List ℕ) → StopTime → Option TripStopTime
said name r = if is_placed r.times then Some (trip_stop_time name r) else None

-- what a row says that names this trip
abbrev pub trip_note : List ℕ → StopTime → TripNote
trip_note id kept = record { trip_id = id; row = said (λ t. id) kept }

-- a row by its number, with this trip and this sequence
abbrev pub timed_row : Dataset → ℕ → List ℕ → ℤ → TripStopTime
timed_row d n trip sequence = record {
  trip_id = trip;
  sequence = sequence;
  row = n;
  arrival = arrival_in d n;
  departure = departure_in d n;
  is_untimed = is_empty_in d file.StopTimes n "arrival_time" && is_empty_in d file.StopTimes n "departure_time";
}

-- a row by its number; a missing id is the empty text
abbrev pub trip_note_in : Dataset → ℕ → TripNote
trip_note_in d n = record {
  trip_id = unwrap_or (word_in d file.StopTimes n "trip_id") [];
  row = option_map (timed_row d n (unwrap_or (word_in d file.StopTimes n "trip_id") [])) (sequence_in d n);
}

-- the row has an id
abbrev pub has_trip_id : Dataset → ℕ → Bool
has_trip_id d n = is_some (word_in d file.StopTimes n "trip_id")

-- the rows that have an id, in the file's order
abbrev pub trip_notes_in : Dataset → List TripNote
trip_notes_in d = map (trip_note_in d) (filter (has_trip_id d) (rows d file.StopTimes))

-- how many rows name a trip
abbrev pub times_noted : List TripNote → List ℕ → ℕ
times_noted notes trip = length (filter (λ n. bytes_eq trip n.trip_id) notes)

-- the rows that have a sequence
abbrev pub rows_of_notes : List TripNote → List TripStopTime
rows_of_notes = filter_map (λ n. n.row)

-- ---- rows as they are kept

abbrev pub note_of : (ℕ → List ℕ) → StopTime → TripNote
note_of name r = record { trip_id = name r.trip; row = said name r }

-- what rows say of their trips, the rows, and the ids of trips.txt
pub record Noted : Type 0 where
  pub trips : List (List ℕ)
  pub notes : List TripNote
  pub rows : List StopTime

-- a row was noted: its trip has this number, if one is known
pub record NotesRow (number : Option ℕ) (kept : StopTime) (old new : List StopTime) : Type 0 where
  pub trip : ℕ
  pub rows : new ≡ old ++ with_trip kept trip ∷ []
  pub known : (n : ℕ) → number ≡ Some n → trip ≡ n
