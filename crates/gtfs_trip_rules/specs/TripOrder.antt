-- The rows of trips in their order: by trip, sequence and row. What a row breaks by its position among them.
use Rattle.std.specs.Prelude.{ℕ, ◌&&◌, ◌||◌, not, Bool, true, false, if◌then◌else◌, List, [], ◌∷◌, bytes_eq, drop, reverse, take, Option, None, ℤ, int_lt, map, IsPermutation}
use Rattle.std.specs.List.Sorted.{IsStrictlySortedBy}
use Rattle.std.specs.Option.{option_or}
use Rattle.std.specs.Ordering.{int_cmp, int_eq, nat_cmp, on, then_cmp}
use Rattle.std.specs.declared.cmp.Ordering.{Ordering}
use Rattle.gtfs_field.specs.TextOrder.{text_cmp}
use Rattle.gtfs_table.specs.Tables.{Dataset}
use Rattle.gtfs_stop_times.specs.declared.stop_time.StopTime.{StopTime}
use Rattle.gtfs_stop_times.specs.StopTimeOrder.{kept_cmp}
use Rattle.gtfs_schema.specs.FieldValues.{if_both}
use Rattle.gtfs_trip_rules.specs.TripNumbers.{AllNumbered}
use Rattle.gtfs_trip_rules.specs.TripStopTimes.{TripStopTime, trip_stop_time, trip_stop_times_in}

abbrev pub same_trip : TripStopTime → TripStopTime → Bool
same_trip a b = bytes_eq a.trip_id b.trip_id

-- both rows have one trip and one sequence
abbrev pub same_sequence : TripStopTime → TripStopTime → Bool
same_sequence a b = same_trip a b && int_eq a.sequence b.sequence

-- trips in the order of their numbers; trips of one number in the order of their ids
abbrev pub trip_cmp : (List ℕ → ℕ) → List ℕ → List ℕ → Ordering
trip_cmp number = then_cmp (on number nat_cmp) text_cmp

abbrev pub row_cmp : (List ℕ → ℕ) → TripStopTime → TripStopTime → Ordering
row_cmp number = then_cmp (on (λ r. r.trip_id) (trip_cmp number)) (then_cmp (on (λ r. r.sequence) int_cmp) (on (λ r. r.row) nat_cmp))

-- the rows of a dataset, each once and in their order, by some numbers of trips
pub record InOrder (d : Dataset) (rows : List TripStopTime) : Type 0 where
  pub number : List ℕ → ℕ
  pub moved : IsPermutation (trip_stop_times_in d) rows
  pub ascending : IsStrictlySortedBy (row_cmp number) rows

-- rows as they are kept, which stand in this order
pub record AreInOrder (d : Dataset) (kept : List StopTime) : Type 0 where
  pub number : List ℕ → ℕ
  pub name : ℕ → List ℕ
  pub numbered : AllNumbered number name kept
  pub order : InOrder d (map (trip_stop_time name) kept)
  pub ascending : IsStrictlySortedBy kept_cmp kept

-- ---- a row and the rows before it, of which the last comes first

-- the rows before an index, and those from it on
abbrev pub rows_before : (ℕ → List ℕ) → List StopTime → ℕ → List TripStopTime
rows_before name rows at = reverse (map (trip_stop_time name) (take at rows))

abbrev pub rows_from : (ℕ → List ℕ) → List StopTime → ℕ → List TripStopTime
rows_from name rows at = map (trip_stop_time name) (drop at rows)

-- the row before is of the same trip
abbrev pub follows : List TripStopTime → TripStopTime → Bool
follows [] e = false
follows (b ∷ before) e = same_trip e b

-- the row before has the same trip and sequence
abbrev pub repeats : List TripStopTime → TripStopTime → Bool
repeats [] e = false
repeats (b ∷ before) e = same_sequence e b

-- when the last row was left that is of the first one's trip and has a time
abbrev pub last_left : List TripStopTime → Option ℤ
last_left [] = None
last_left (b ∷ before) = option_or b.departure (if follows before b then last_left before else None)

-- when the row's trip was left last
abbrev pub left_before : List TripStopTime → TripStopTime → Option ℤ
left_before before e = if follows before e then last_left before else None

-- ---- rows from one on

-- no later row of the first one's trip has a greater sequence
abbrev pub ends : List TripStopTime → Bool
ends [] = true
ends (e ∷ []) = true
ends (e ∷ a ∷ after) = not (same_trip e a) || (int_eq e.sequence a.sequence && ends (a ∷ after))

-- ---- the rules

-- a row without times that is its trip's first, or the first of its trip's greatest sequence
abbrev pub is_untimed_end : List TripStopTime → TripStopTime → Bool → Bool
is_untimed_end before e ends_trip = e.is_untimed && (not (follows before e) || (not (repeats before e) && ends_trip))

-- one row is reached before another one is left
abbrev pub is_left_later : Option ℤ → Option ℤ → Bool
is_left_later left arrival = if_both arrival left int_lt
