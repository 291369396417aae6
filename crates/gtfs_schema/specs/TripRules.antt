-- Problems of trips and their stop times: E15 to E17, W06 and W08.
-- GTFS Schedule Reference, trips.txt, and `arrival_time`, `departure_time` and `stop_sequence` of stop_times.txt.
use Rattle.std.specs.Prelude.{ℕ, ◌&&◌, ◌||◌, not, Bool, nat_lt, if◌then◌else◌, List, [], ◌∷◌, length, filter, Option, None, is_some, ℤ, int_lt}
use Rattle.std.specs.List.{list_any}
use Rattle.std.specs.Ordering.{int_eq}
use Rattle.std.specs.Option.{option_or}
use Prim.Native.String.{String as Literal}
use Rattle.gtfs_table.specs.Tables.{Dataset}
use Rattle.gtfs_table.specs.declared.file.File.TheVariants as file
use Rattle.gtfs_schema.specs.FieldValues.{if_there, if_both, is_word}
use Rattle.gtfs_table.specs.Rows.{rows}
use Rattle.gtfs_schema.specs.RowConditions.{is_readable_in, is_empty_in, word_in, amount_in, Rule, Condition, reported_at, any_of}

-- ---- the stop times of a trip, by their sequence

abbrev pub sequence_in : Dataset → ℕ → Option ℤ
sequence_in d n = amount_in d file.StopTimes n "stop_sequence"

abbrev pub is_row_of : Dataset → List ℕ → ℕ → Bool
is_row_of d trip n = is_word (word_in d file.StopTimes n "trip_id") trip

-- the rows of a trip that have a sequence
abbrev pub rows_of_trip : Dataset → List ℕ → List ℕ
rows_of_trip d trip = filter (λ m. is_row_of d trip m && is_some (sequence_in d m)) (rows d file.StopTimes)

-- the sequence of row m is less than that of row n
abbrev pub is_less : Dataset → ℕ → ℕ → Bool
is_less d m n = if_both (sequence_in d m) (sequence_in d n) int_lt

-- both have one sequence, and row m is the earlier row
abbrev pub is_earlier_equal : Dataset → ℕ → ℕ → Bool
is_earlier_equal d m n = nat_lt m n && if_both (sequence_in d m) (sequence_in d n) int_eq

-- row m stands before row n: by sequence, and then by row
abbrev pub stands_before : Dataset → ℕ → ℕ → Bool
stands_before d m n = is_less d m n || is_earlier_equal d m n

-- ---- E15 first or last row untimed

-- of the rows with the least sequence the first
abbrev pub is_first_row : Dataset → List ℕ → ℕ → Bool
is_first_row d trip n = not (list_any (λ m. stands_before d m n) (rows_of_trip d trip))

-- of the rows with the greatest sequence the first
abbrev pub is_last_row : Dataset → List ℕ → ℕ → Bool
is_last_row d trip n = not (list_any (λ m. is_less d n m || is_earlier_equal d m n) (rows_of_trip d trip))

abbrev pub is_end_untimed : Rule
is_end_untimed d n = is_empty_in d file.StopTimes n "arrival_time" && is_empty_in d file.StopTimes n "departure_time"
    && is_some (sequence_in d n)
    && if_there (word_in d file.StopTimes n "trip_id") (λ trip. is_first_row d trip n || is_last_row d trip n)

abbrev pub end_untimed : Condition
end_untimed = reported_at file.StopTimes "arrival_time" is_end_untimed

-- ---- E16 departure before arrival

abbrev pub leaves_early : Rule
leaves_early d n = if_both (amount_in d file.StopTimes n "departure_time") (amount_in d file.StopTimes n "arrival_time") int_lt

abbrev pub departure_before_arrival : Condition
departure_before_arrival = reported_at file.StopTimes "departure_time" leaves_early

-- ---- E17 time goes back

-- a time is readable, or there is none
abbrev pub is_clear : Dataset → ℕ → Literal → Bool
is_clear d n column = is_readable_in d file.StopTimes n column || is_empty_in d file.StopTimes n column

-- one time of a row, and else the other; none where one of them is unreadable
abbrev pub time_or : Literal → Literal → Dataset → ℕ → Option ℤ
time_or first second d n = if is_clear d n first && is_clear d n second
    then option_or (amount_in d file.StopTimes n first) (amount_in d file.StopTimes n second) else None

-- when a row is reached and when it is left, in seconds of the service day
abbrev pub arrival_in : Dataset → ℕ → Option ℤ
arrival_in = time_or "arrival_time" "departure_time"

abbrev pub departure_in : Dataset → ℕ → Option ℤ
departure_in = time_or "departure_time" "arrival_time"

-- the rows of a trip that have a sequence and a time
abbrev pub timed_rows : Dataset → List ℕ → List ℕ
timed_rows d trip = filter (λ m. is_some (departure_in d m)) (rows_of_trip d trip)

-- m is the last timed row of the trip before row n
abbrev pub is_timed_before : Dataset → List ℕ → ℕ → ℕ → Bool
is_timed_before d trip n m = stands_before d m n
    && not (list_any (λ k. stands_before d m k && stands_before d k n) (timed_rows d trip))

-- the row is reached before the timed row before it is left
abbrev pub goes_back : Rule
goes_back d n = if_both (word_in d file.StopTimes n "trip_id") (arrival_in d n) (λ trip arrives.
    list_any (λ m. is_timed_before d trip n m && if_there (departure_in d m) (int_lt arrives)) (timed_rows d trip))

abbrev pub time_goes_back : Condition
time_goes_back = reported_at file.StopTimes "arrival_time" goes_back

-- ---- W06 fewer than two rows

abbrev pub has_few_rows : Rule
has_few_rows d n = if_there (word_in d file.Trips n "trip_id") (λ trip. nat_lt (length (filter (is_row_of d trip) (rows d file.StopTimes))) 2)

abbrev pub fewer_than_two_rows : Condition
fewer_than_two_rows = reported_at file.Trips "trip_id" has_few_rows

-- ---- W08 one time of two

-- the one time is empty and the other is readable
abbrev pub lacks_time : Literal → Literal → Rule
lacks_time empty other d n = is_empty_in d file.StopTimes n empty && is_readable_in d file.StopTimes n other

abbrev pub one_time_of_two : Condition
one_time_of_two = any_of
    (reported_at file.StopTimes "arrival_time" (lacks_time "arrival_time" "departure_time")
    ∷ reported_at file.StopTimes "departure_time" (lacks_time "departure_time" "arrival_time")
    ∷ [])
