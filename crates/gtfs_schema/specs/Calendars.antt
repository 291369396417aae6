-- The service of an id, as the rows of calendar.txt and calendar_dates.txt report it.
-- GTFS Schedule Reference, calendar.txt and calendar_dates.txt. A day is its number, 0 for 1970-01-01.
use Rattle.std.specs.Prelude.{ℕ, ◌+◌, Bool, if◌then◌else◌, List, [], ◌∷◌, ◌++◌, map, filter, find, option_map, unwrap_or, unsigned_abs, Option, Some, None, ℤ, pos, ◌+ℤ◌, ◌-ℤ◌}
use Rattle.std.specs.List.{range_with_len}
use Rattle.std.specs.Ordering.{int_eq}
use Prim.Native.String.{String as Literal}
use Rattle.gtfs_days.specs.Service.{ServiceDates}
use Rattle.gtfs_days.specs.declared.week.Week.{Week}
use Rattle.gtfs_days.specs.declared.exception.Exception.{Exception}
use Rattle.gtfs_days.specs.declared.exception.Exception.TheVariants.{Added, Removed}
use Rattle.gtfs_table.specs.Tables.{Dataset}
use Rattle.gtfs_table.specs.declared.file.File.{File}
use Rattle.gtfs_table.specs.declared.file.File.TheVariants as file
use Rattle.gtfs_schema.specs.FieldValues.{is_word}
use Rattle.gtfs_table.specs.Rows.{rows}
use Rattle.gtfs_schema.specs.RowConditions.{word_in, amount_in}

-- the rows of a file with this service id
abbrev pub service_rows : Dataset → File → List ℕ → List ℕ
service_rows d x service = filter (λ n. is_word (word_in d x n "service_id") service) (rows d x)

-- the first of them
abbrev pub first_service_row : Dataset → File → List ℕ → Option ℕ
first_service_row d x service = find (λ n. is_word (word_in d x n "service_id") service) (rows d x)

-- the number of a field, 0 where it is not readable
abbrev pub field_number : Dataset → File → ℕ → Literal → ℤ
field_number d x n column = unwrap_or (amount_in d x n column) (pos 0)

abbrev pub serves_weekday : Dataset → ℕ → Literal → Bool
serves_weekday d n weekday = int_eq (field_number d file.Calendar n weekday) (pos 1)

-- a row of calendar.txt
abbrev pub week_in : Dataset → ℕ → Week
week_in d n = record {
  days = serves_weekday d n "monday" ∷ serves_weekday d n "tuesday" ∷ serves_weekday d n "wednesday" ∷ serves_weekday d n "thursday"
      ∷ serves_weekday d n "friday" ∷ serves_weekday d n "saturday" ∷ serves_weekday d n "sunday" ∷ [];
  start = field_number d file.Calendar n "start_date";
  end = field_number d file.Calendar n "end_date";
}

-- a row of calendar_dates.txt: type 1 adds its day, type 2 removes it
abbrev pub exception_in : Dataset → ℕ → ℤ × Exception
exception_in d n = (
  field_number d file.CalendarDates n "date",
  if int_eq (field_number d file.CalendarDates n "exception_type") (pos 1) then Added else Removed,
)

-- the service of an id: its first calendar row, and its exceptions in the order of their rows
abbrev pub service_in : Dataset → List ℕ → ServiceDates
service_in d service = record {
  week = option_map (week_in d) (first_service_row d file.Calendar service);
  exceptions = map (exception_in d) (service_rows d file.CalendarDates service);
}

-- ---- the days that a service speaks of

-- the days from the first to the last of a calendar row
abbrev pub days_of_week : Option Week → List ℤ
days_of_week None = []
days_of_week (Some w) = map (λ i. w.start +ℤ pos i) (range_with_len 0 (unsigned_abs (w.end -ℤ w.start) + 1))

-- these, and the days of the exceptions: a service is active on no other
abbrev pub days_named : ServiceDates → List ℤ
days_named s = days_of_week s.week ++ map (λ e. e.0) s.exceptions
