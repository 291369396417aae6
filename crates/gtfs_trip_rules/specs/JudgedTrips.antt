-- Rows that are judged as they come, each by the one before it. Of the rows so far the last comes first.
use Rattle.std.specs.Prelude.{◌≡◌, ◌==◌, ◌&&◌, ◌||◌, ℕ, not, nat_lt, Bool, true, List, [], ◌∷◌, option_map, Option, None, Some, if◌then◌else◌, codes, pos, false}
use Rattle.std.specs.List.{list_any}
use Rattle.std.specs.Option.{option_or}
use Prim.Native.String.{String as Literal}
use Rattle.gtfs_table.specs.declared.file.File.TheVariants as file
use Rattle.gtfs_schema.specs.declared.code.Code.{Code}
use Rattle.gtfs_schema.specs.declared.code.Code.TheVariants as code
use Rattle.gtfs_schema.specs.steps.FoundProblems.{Adds, is_same}
use Rattle.gtfs_schema.specs.Problems.{Problem, kept}
use Rattle.gtfs_stop_times.specs.KeptTimes.{arrives, departs, is_untimed}
use Rattle.gtfs_trip_rules.specs.TripOrder.{is_left_later}
use Rattle.gtfs_trip_rules.specs.declared.trips.judge.Judge.{Judge}
use Rattle.gtfs_trip_rules.specs.declared.trips.judge.Last.{Last}
use Rattle.gtfs_stop_times.specs.declared.stop_time.StopTime.{StopTime}

-- ---- a row after the last one

-- it is of the same trip
abbrev pub goes_on : Option Last → StopTime → Bool
goes_on None r = false
goes_on (Some last) r = r.trip == last.trip

-- and has a greater sequence
abbrev pub rises : Option Last → StopTime → Bool
rises None r = false
rises (Some last) r = (r.trip == last.trip) && nat_lt last.sequence r.stop_row.stop_sequence

-- when its trip was left last
abbrev pub left_of : Option Last → StopTime → Option ℕ
left_of None r = None
left_of (Some last) r = if r.trip == last.trip then last.left else None

-- it has the same trip and sequence
abbrev pub repeats_last : Option Last → StopTime → Bool
repeats_last None r = false
repeats_last (Some last) r = (r.trip == last.trip) && (r.stop_row.stop_sequence == last.sequence)

-- it is reached before its trip was left last
abbrev pub is_late : Option Last → StopTime → Bool
is_late last r = is_left_later (option_map pos (left_of last r)) (option_map pos (arrives r))

abbrev pub is_twin : StopTime → StopTime → Bool
is_twin r a = (r.trip == a.trip) && (r.stop_row.stop_sequence == a.stop_row.stop_sequence)

-- no row after it is of its trip and has a greater sequence
abbrev pub ends_trip : StopTime → List StopTime → Bool
ends_trip r [] = true
ends_trip r (a ∷ after) = if is_twin r a then ends_trip r after else not (r.trip == a.trip)

-- it has no times, and is its trip's first, or the first of its trip's greatest sequence
abbrev pub is_end_untimed : Option Last → StopTime → List StopTime → Bool
is_end_untimed last r after = is_untimed r && (not (goes_on last r) || (not (repeats_last last r) && ends_trip r after))

-- the last one has a time, if there is one
abbrev pub ends_timed : Option Last → Bool
ends_timed None = true
ends_timed (Some last) = not last.is_untimed

-- it is not late, and where a trip begins with it that trip and the one before have times at their ends
abbrev pub fits : Option Last → StopTime → Bool
fits last r = not (is_late last r) && (goes_on last r || (ends_timed last && not (is_untimed r)))

abbrev pub as_last : Option Last → StopTime → Last
as_last last r = record {
  trip = r.trip;
  sequence = r.stop_row.stop_sequence;
  is_untimed = is_untimed r;
  left = option_or (departs r) (left_of last r);
}

-- ---- all rows

abbrev pub last_of : List StopTime → Option Last
last_of [] = None
last_of (r ∷ before) = Some (as_last (last_of before) r)

-- each row passes a test after those before it
abbrev pub each_after : (List StopTime → StopTime → Bool) → List StopTime → Bool
each_after test [] = true
each_after test (r ∷ before) = each_after test before && test before r

abbrev pub all_fit : List StopTime → Bool
all_fit = each_after (λ before. fits (last_of before))

abbrev pub names_trip : List StopTime → StopTime → Bool
names_trip rows r = list_any (λ b. r.trip == b.trip) rows

-- a row rises from the one before it, or is the first of its trip
abbrev pub stands_with : List StopTime → StopTime → Bool
stands_with before r = rises (last_of before) r || not (names_trip before r)

-- the rows of each trip stand together, and their sequences ascend
abbrev pub are_together : List StopTime → Bool
are_together = each_after stands_with

-- what was found of these rows
pub record Judges (j : Judge) (rows : List StopTime) : Type 0 where
  pub last : j.last ≡ last_of rows
  pub fit : j.all_fit ≡ all_fit rows
  pub together : j.are_together ≡ true → are_together rows ≡ true

-- ---- what is reported of a row

abbrev problem_of : Code → Literal → StopTime → Problem
problem_of c column r = record { file = kept file.StopTimes; row = r.row; code = c; column = codes column }

-- those of its three problems that it has were added
pub record AddsOfRow (r : StopTime) (twice at_end back : Bool) (old new : List Problem) : Type 0 where
  pub first : List Problem
  pub second : List Problem
  pub repeated : Adds (λ p. is_same (problem_of code.E09 "stop_sequence" r) p && twice) old first
  pub untimed : Adds (λ p. is_same (problem_of code.E15 "arrival_time" r) p && at_end) first second
  pub late : Adds (λ p. is_same (problem_of code.E17 "arrival_time" r) p && back) second new
