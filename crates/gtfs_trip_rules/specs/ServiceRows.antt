-- What the rows of both files of services say in their texts, by the row's number.
use Rattle.std.specs.Prelude.{ℕ, Bool, List, bytes_eq, filter, codes, Option, ℤ}
use Prim.Native.String.{String as Literal}
use Rattle.gtfs_days.specs.declared.week.Week.{Week}
use Rattle.gtfs_days.specs.declared.exception.Exception.{Exception}
use Rattle.gtfs_table.specs.Tables.{Dataset}
use Rattle.gtfs_table.specs.declared.file.File.TheVariants as file
use Rattle.gtfs_trip_rules.specs.declared.services.source.Source.{Source}
use Rattle.gtfs_table.specs.Rows.{rows}
use Rattle.gtfs_schema.specs.RowConditions.{text_in}
use Rattle.gtfs_trip_rules.specs.ServiceCalendars.{exception_of, file_of, week_of_days, weekdays_of, Calendars}

abbrev pub week_text : Dataset → ℕ → Literal → List ℕ
week_text d n name = text_in d file.Calendar n (codes name)

abbrev pub date_text : Dataset → ℕ → Literal → List ℕ
date_text d n name = text_in d file.CalendarDates n (codes name)

abbrev pub weekdays_in : Dataset → ℕ → Option (List Bool)
weekdays_in d n = weekdays_of
    (week_text d n "monday") (week_text d n "tuesday") (week_text d n "wednesday") (week_text d n "thursday")
    (week_text d n "friday") (week_text d n "saturday") (week_text d n "sunday")

abbrev pub week_in_texts : Dataset → ℕ → Option Week
week_in_texts d n = week_of_days (weekdays_in d n) (week_text d n "start_date") (week_text d n "end_date")

abbrev pub exception_in_texts : Dataset → ℕ → Option (ℤ × Exception)
exception_in_texts d n = exception_of (date_text d n "date") (date_text d n "exception_type")

abbrev pub id_in : Dataset → Source → ℕ → List ℕ
id_in d from n = text_in d (file_of from) n (codes "service_id")

abbrev pub calendars_in : Dataset → Calendars
calendars_in d = record {
  ids = id_in d;
  rows = λ from id. filter (λ n. bytes_eq (id_in d from n) id) (rows d (file_of from));
  week = week_in_texts d;
  exception = exception_in_texts d;
}
