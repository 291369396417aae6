-- Noon, and what a clock shows.
use Rattle.jiff_core.specs.declared.civil.date.Date.{Date}
use Rattle.jiff_core.specs.declared.civil.datetime.DateTime.{DateTime}
use Rattle.jiff_core.specs.declared.civil.time.Time.{Time}
use Rattle.jiff_core.specs.declared.offset.Offset.{Offset}
use Rattle.std.proofs.Common.{lit<}
use Rattle.gtfs_days.specs.declared.civil.Civil.{Civil}

-- twelve o'clock
abbrev pub noon_time : Time
noon_time = record {
  hour = 12;
  minute = 0;
  second = 0;
  subsec_nanosecond = 0;
  hour_in = lit< tt;
  minute_in = lit< tt;
  second_in = lit< tt;
  subsec_in = lit< tt;
}

-- noon of a date
abbrev pub noon : Date → DateTime
noon d = record { date = d; time = noon_time }

-- what a clock with this offset shows, in whole seconds
abbrev pub shown : DateTime → Offset → Civil
shown clock offset = record {
  year = clock.date.year;
  month = clock.date.month;
  day = clock.date.day;
  hour = clock.time.hour;
  minute = clock.time.minute;
  second = clock.time.second;
  offset = offset.seconds;
}
