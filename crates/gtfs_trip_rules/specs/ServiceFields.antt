-- What the columns of both files of services, each found once, say of a row.
use Rattle.std.specs.Prelude.{ℕ, Bool, List, Option, ℤ}
use Rattle.gtfs_days.specs.declared.week.Week.{Week}
use Rattle.gtfs_days.specs.declared.exception.Exception.{Exception}
use Rattle.gtfs_trip_rules.specs.declared.services.Services.{Services}
use Rattle.gtfs_trip_rules.specs.declared.services.dates.Dates.{Dates}
use Rattle.gtfs_trip_rules.specs.declared.services.weekdays.Weekdays.{Weekdays}
use Rattle.gtfs_trip_rules.specs.declared.services.weeks.Weeks.{Weeks}
use Rattle.gtfs_table.specs.Rows.{records_in}
use Rattle.gtfs_table.specs.Tables.{Dataset, field_under, record_at}
use Rattle.gtfs_table.specs.declared.file.File.TheVariants as file
use Rattle.gtfs_trip_rules.specs.RowsById.{rows_of, text_under}
use Rattle.gtfs_trip_rules.specs.ServiceCalendars.{exception_of, of_source, week_of_days, weekdays_of, Calendars}

abbrev pub weekdays_at : Weekdays → List (List ℕ) → Option (List Bool)
weekdays_at w r = weekdays_of
    (field_under r w.monday) (field_under r w.tuesday) (field_under r w.wednesday) (field_under r w.thursday)
    (field_under r w.friday) (field_under r w.saturday) (field_under r w.sunday)

abbrev pub week_at : Weeks → List (List ℕ) → Option Week
week_at w r = week_of_days (weekdays_at w.days r) (field_under r w.start) (field_under r w.end)

abbrev pub exception_at : Dates → List (List ℕ) → Option (ℤ × Exception)
exception_at e r = exception_of (field_under r e.date) (field_under r e.exception_type)

-- the same of a row by its number
abbrev pub week_in : Dataset → Weeks → ℕ → Option Week
week_in d w n = week_at w (record_at (records_in d file.Calendar) n)

abbrev pub exception_in : Dataset → Dates → ℕ → Option (ℤ × Exception)
exception_in d e n = exception_at e (record_at (records_in d file.CalendarDates) n)

abbrev pub calendars_of : Services → Calendars
calendars_of s = record {
  ids = of_source (text_under s.tables.now file.Calendar s.week_id) (text_under s.tables.now file.CalendarDates s.date_id);
  rows = of_source (rows_of s.week_rows) (rows_of s.date_rows);
  week = week_in s.tables.now s.weeks;
  exception = exception_in s.tables.now s.dates;
}
