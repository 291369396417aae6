-- What the texts of a row of stop_times.txt say of its trip.
use Rattle.std.specs.Prelude.{ℕ, ◌&&◌, ◌||◌, Bool, if◌then◌else◌, List, Option, None, codes, is_some, option_map, ℤ}
use Rattle.std.specs.Option.{option_or}
use Rattle.gtfs_table.specs.Tables.{Dataset}
use Rattle.gtfs_table.specs.declared.file.File.TheVariants as file
use Rattle.gtfs_schema.specs.Columns.{id, count, time}
use Rattle.gtfs_schema.specs.ReadFields.{amount_of, word_of}
use Rattle.gtfs_schema.specs.RowConditions.{text_in}
use Rattle.gtfs_trip_rules.specs.TripNotes.{TripNote}
use Rattle.gtfs_schema.specs.FieldValues.{readable}
use Rattle.gtfs_table.specs.Rows.{is_empty}

-- a text is a time, or empty
abbrev pub is_clear_text : List ℕ → Bool
is_clear_text t = is_some (readable time t) || is_empty t

-- the time of one text, and else that of the other; none where one of them is unreadable
abbrev pub time_of_texts : List ℕ → List ℕ → Option ℤ
time_of_texts first second = if is_clear_text first && is_clear_text second
    then option_or (amount_of time first) (amount_of time second) else None

-- what a row with this id, this sequence and these two times says, where it has an id
abbrev pub note_of_values : Option (List ℕ) → Option ℤ → List ℕ → List ℕ → ℕ → Option TripNote
note_of_values trip_id sequence arrival departure n = option_map (λ id. record {
  trip_id = id;
  row = option_map (λ s. record {
    trip_id = id;
    sequence = s;
    row = n;
    arrival = time_of_texts arrival departure;
    departure = time_of_texts departure arrival;
    is_untimed = is_empty arrival && is_empty departure;
  }) sequence;
}) trip_id

abbrev pub note_of_texts : List ℕ → List ℕ → List ℕ → List ℕ → ℕ → Option TripNote
note_of_texts trip_id sequence arrival departure n =
    note_of_values (word_of id trip_id) (amount_of count sequence) arrival departure n

-- what a row says by its number
abbrev pub note_read : Dataset → ℕ → Option TripNote
note_read d n = note_of_texts
    (text_in d file.StopTimes n (codes "trip_id")) (text_in d file.StopTimes n (codes "stop_sequence"))
    (text_in d file.StopTimes n (codes "arrival_time")) (text_in d file.StopTimes n (codes "departure_time")) n
