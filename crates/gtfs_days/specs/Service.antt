-- On which days a service is active (GTFS Schedule Reference, calendar.txt and calendar_dates.txt).
-- A day is its number: how many days it lies after 1970-01-01.
use Rattle.std.specs.Prelude.{ℕ, ◌≡◌, ◌≢◌, ◌&&◌, ◌||◌, not, Bool, true, false, List, AllPairs, map, IfSome, MatchOption, slice_index_or, ℤ, pos, negsuc, ◌+ℤ◌, ◌<ℤ◌, ◌≤ℤ◌, int_le, Option, Some, None}
use Rattle.std.specs.List.{list_any, range_with_len}
use Rattle.std.specs.Ordering.{int_eq}
use Rattle.jiff_core.specs.Calendar.{weekday_number}
use Rattle.gtfs_days.specs.declared.week.Week.{Week}
use Rattle.gtfs_days.specs.declared.exception.Exception.{Exception}
use Rattle.gtfs_days.specs.declared.exception.Exception.TheVariants.{Added, Removed}

-- what a service is seen as: its row of calendar.txt, if any, and its rows of calendar_dates.txt by day
pub record ServiceDates : Type 0 where
  pub week : Option Week
  pub exceptions : List (ℤ × Exception)

-- the service with other exceptions
abbrev pub with_exceptions : ServiceDates → List (ℤ × Exception) → ServiceDates
with_exceptions s es = record { week = s.week; exceptions = es }

-- 1900-01-01 and 9998-12-31
abbrev pub first_service_day : ℤ
first_service_day = negsuc 25_566

abbrev pub last_service_day : ℤ
last_service_day = pos 2_932_531

abbrev pub is_service_day : ℤ → Bool
is_service_day d = int_le first_service_day d && int_le d last_service_day

-- how many service days there are
abbrev pub service_day_count : ℕ
service_day_count = 2_958_099

-- every service day, ascending
unfoldable pub service_days : List ℤ
service_days = map (λ i. first_service_day +ℤ pos i) (range_with_len 0 service_day_count)

-- the calendar row names the day's weekday, and the day lies between its two days
abbrev pub covers : Week → ℤ → Bool
covers w d = int_le w.start d && int_le d w.end && slice_index_or w.days (weekday_number d) false

abbrev pub covered_by : Option Week → ℤ → Bool
covered_by None d = false
covered_by (Some w) d = covers w d

abbrev pub is_added : Exception → Bool
is_added Added = true
is_added Removed = false

abbrev pub is_removed : Exception → Bool
is_removed t = not (is_added t)

-- an exception of this type stands for the day
abbrev pub has_exception : (Exception → Bool) → ServiceDates → ℤ → Bool
has_exception kind s d = list_any (λ e. int_eq e.0 d && kind e.1) s.exceptions

-- the service runs on the day: its calendar row covers it and no exception removes it, or one adds it
abbrev pub is_active : ServiceDates → ℤ → Bool
is_active s d = is_service_day d
    && ((covered_by s.week d && not (has_exception is_removed s d)) || has_exception is_added s d)

-- a service day that the calendar row covers
abbrev pub is_regular : Option Week → ℤ → Bool
is_regular week d = is_service_day d && covered_by week d

-- no day stands twice among the exceptions
abbrev pub NamesEachDayOnce : List (ℤ × Exception) → Type 0
NamesEachDayOnce es = AllPairs (λ e f. e.0 ≢ f.0) es

-- the exceptions ascend by day
abbrev pub IsByDay : List (ℤ × Exception) → Type 0
IsByDay es = AllPairs (λ e f. e.0 <ℤ f.0) es

-- the calendar row does not end before it starts
abbrev pub IsOrdered : Option Week → Type 0
IsOrdered week = IfSome week (λ w. w.start ≤ℤ w.end)

-- d is the first day from `from` on that passes the test
pub record IsFirst (test : ℤ → Bool) (from d : ℤ) : Type 0 where
  pub passes : test d ≡ true
  pub not_before : from ≤ℤ d
  pub least : (e : ℤ) → from ≤ℤ e → e <ℤ d → test e ≡ false

-- the first day from `from` on that passes the test, and none exactly where no such day passes it
abbrev pub IsFirstIfAny : (ℤ → Bool) → ℤ → Option ℤ → Type 0
IsFirstIfAny test from found = MatchOption found ((e : ℤ) → from ≤ℤ e → test e ≡ false) (IsFirst test from)
