-- What the code reads of the rows of services, and how it judges a service by them.
use Rattle.std.specs.Prelude.{ℕ, ◌==◌, ◌&&◌, not, Bool, true, if◌then◌else◌, List, [], ◌∷◌, map, Option, Some, None, option_map, option_and_then, ℤ, int_le}
use Rattle.std.specs.List.{list_any, list_all}
use Rattle.std.specs.Ordering.{int_eq}
use Rattle.std.specs.Result.{result_ok}
use Rattle.gtfs_days.specs.Service.{ServiceDates, is_active}
use Rattle.gtfs_days.specs.declared.week.Week.{Week}
use Rattle.gtfs_days.specs.declared.exception.Exception.{Exception}
use Rattle.gtfs_days.specs.declared.exception.Exception.TheVariants.{Added, Removed}
use Rattle.gtfs_field.specs.Kinds.{count_of, date_of}
use Rattle.gtfs_table.specs.declared.file.File.{File}
use Rattle.gtfs_table.specs.declared.file.File.TheVariants as file
use Rattle.gtfs_trip_rules.specs.declared.services.source.Source.{Source}
use Rattle.gtfs_trip_rules.specs.declared.services.source.Source.TheVariants as source
use Rattle.gtfs_schema.specs.Calendars.{days_named}
use Rattle.gtfs_schema.specs.KeyRules.{all_there}
use Rattle.gtfs_schema.specs.ReadFields.{is_id}
use Rattle.gtfs_schema.specs.FieldValues.{if_there, one_of}

-- ---- rows

-- a weekday of a calendar row: whether the service runs on it
abbrev pub weekday_of : List ℕ → Option Bool
weekday_of t = option_map (λ n. n == 1) (result_ok (one_of ((0, 1) ∷ []) (count_of t)))

-- the seven weekdays, where each is readable
abbrev pub weekdays_of : List ℕ → List ℕ → List ℕ → List ℕ → List ℕ → List ℕ → List ℕ → Option (List Bool)
weekdays_of t1 t2 t3 t4 t5 t6 t7 =
    option_and_then (λ d1. option_and_then (λ d2. option_and_then (λ d3. option_and_then (λ d4.
    option_and_then (λ d5. option_and_then (λ d6. option_map (λ d7. d1 ∷ d2 ∷ d3 ∷ d4 ∷ d5 ∷ d6 ∷ d7 ∷ []) (weekday_of t7))
    (weekday_of t6)) (weekday_of t5)) (weekday_of t4)) (weekday_of t3)) (weekday_of t2)) (weekday_of t1)

abbrev pub week_of_days : Option (List Bool) → List ℕ → List ℕ → Option Week
week_of_days days start end =
    option_and_then (λ ds. option_and_then (λ s. option_map (λ e. record { days = ds; start = s; end = e })
    (result_ok (date_of end))) (result_ok (date_of start))) days

-- a row of calendar_dates.txt, where its day and its type are readable
abbrev pub exception_type_of : ℕ → Exception
exception_type_of n = if n == 1 then Added else Removed

abbrev pub exception_of : List ℕ → List ℕ → Option (ℤ × Exception)
exception_of day kind =
    option_and_then (λ d. option_map (λ n. (d, exception_type_of n)) (result_ok (one_of ((1, 2) ∷ []) (count_of kind))))
    (result_ok (date_of day))

-- ---- the rows of a service

-- a calendar row that does not end before it starts
abbrev pub if_ordered : Week → Option (Option Week)
if_ordered w = if int_le w.start w.end then Some (Some w) else None

-- the calendar row of a service, if any, where its rows are sound: a second one has the key of the first
abbrev pub week_of_rows : (ℕ → Option Week) → List ℕ → Option (Option Week)
week_of_rows read [] = Some None
week_of_rows read (n ∷ []) = option_and_then if_ordered (read n)
week_of_rows read (n ∷ m ∷ rest) = None

-- no day stands twice
abbrev pub each_day_once : List (ℤ × Exception) → Bool
each_day_once [] = true
each_day_once (e ∷ es) = list_all (λ f. not (int_eq f.0 e.0)) es && each_day_once es

-- the exceptions of a service, where all its rows are sound
abbrev pub exceptions_of_rows : (ℕ → Option (ℤ × Exception)) → List ℕ → Option (List (ℤ × Exception))
exceptions_of_rows read ns = option_and_then (λ es. if each_day_once es then Some es else None) (all_there (map read ns))

-- ---- services

abbrev pub is_never_active : ServiceDates → Bool
is_never_active s = not (list_any (is_active s) (days_named s))

-- all rows of the service are sound, and it runs on no day
abbrev pub is_sound_and_idle : Option (Option Week) → Option (List (ℤ × Exception)) → Bool
is_sound_and_idle week exceptions = if_there week (λ w. if_there exceptions (λ es. is_never_active (record { week = w; exceptions = es })))

abbrev pub first_of : List ℕ → Option ℕ
first_of [] = None
first_of (n ∷ ns) = Some n

abbrev pub file_of : Source → File
file_of source.Weeks = file.Calendar
file_of source.Dates = file.CalendarDates

-- the row of a file at which a service is reported that has these rows
abbrev pub reported_row : Source → List ℕ → List ℕ → Option ℕ
reported_row source.Weeks weeks dates = first_of weeks
reported_row source.Dates [] dates = first_of dates
reported_row source.Dates (n ∷ ns) dates = None

-- the rows of both files by service id, and what they say
pub record Calendars : Type 0 where
  pub ids : Source → ℕ → List ℕ
  pub rows : Source → List ℕ → List ℕ
  pub week : ℕ → Option Week
  pub exception : ℕ → Option (ℤ × Exception)

abbrev pub of_source : {X : Type 0} → X → X → Source → X
of_source weeks dates source.Weeks = weeks
of_source weeks dates source.Dates = dates

abbrev pub are_idle : Calendars → List ℕ → List ℕ → Bool
are_idle c weeks dates = is_sound_and_idle (week_of_rows c.week weeks) (exceptions_of_rows c.exception dates)

-- the row reports its service
abbrev pub is_reported : Calendars → Source → ℕ → Bool
is_reported c from n =
    let id = c.ids from n in
    is_id id && if_there (reported_row from (c.rows source.Weeks id) (c.rows source.Dates id)) (λ m. m == n) && are_idle c (c.rows source.Weeks id) (c.rows source.Dates id)
