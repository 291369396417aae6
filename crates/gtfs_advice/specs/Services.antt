-- Which services and days a reader would look at twice (GTFS Schedule Reference, calendar.txt and calendar_dates.txt).
-- A day is its number: how many days it lies after 1970-01-01.
use Rattle.std.specs.Prelude.{◌==◌, ◌&&◌, not, Bool, List, length, filter, bytes_eq, ℤ, pos, ◌+ℤ◌, ◌-ℤ◌, int_le, int_lt, Option, None, is_some}
use Rattle.std.specs.List.{last_or, list_any, range_with_len}
use Rattle.gtfs_days.specs.Service.{is_active, service_days}
use Rattle.gtfs_rows.specs.Content.{Content}
use Rattle.gtfs_rows.specs.Rows.{ServiceRow, Trip}

abbrev pub is_of_service : ServiceRow → Trip → Bool
is_of_service s t = bytes_eq t.service_id s.service_id

-- no trip is of this service
abbrev pub has_no_trip : Content → ServiceRow → Bool
has_no_trip c s = not (list_any (is_of_service s) c.trips)

-- calendar.txt has a row of it
abbrev pub has_week : ServiceRow → Bool
has_week s = is_some s.service.week

-- ---- days on which something runs

-- a trip with a stop time is of this service
abbrev pub is_used : Content → ServiceRow → Bool
is_used c s = list_any (λ t. is_of_service s t && not (length t.stop_rows == 0)) c.trips

abbrev pub is_day_served : Content → ℤ → Bool
is_day_served c d = list_any (λ s. is_used c s && is_active s.service d) c.services

-- no day of two weeks from this one on passes the test, and the day before it and a later one do
abbrev pub begins_gap_of : (ℤ → Bool) → ℤ → Bool
begins_gap_of served d = served (d -ℤ pos 1) && not (list_any (λ k. served (d +ℤ pos k)) (range_with_len 0 14))
    && list_any (λ e. int_lt d e && served e) service_days

-- nothing runs on the day and on the 13 days after it, and something does on the day before it and on a later one
abbrev pub begins_gap : Content → ℤ → Bool
begins_gap c = begins_gap_of (is_day_served c)

-- the days on which two weeks or more without service begin, ascending
abbrev pub gaps : Content → List ℤ
gaps c = filter (begins_gap c) service_days

-- something runs on this day or a later one
abbrev pub is_served_from : Content → ℤ → Bool
is_served_from c d = list_any (λ e. int_le d e && is_day_served c e) service_days

-- fewer than seven days are left from this day on: nothing runs from the sixth day after it on
abbrev pub ends_soon : Content → ℤ → Bool
ends_soon c d = not (is_served_from c (d +ℤ pos 6))

-- the last day on which something runs
abbrev pub last_served : Content → Option ℤ
last_served c = last_or None (filter (is_day_served c) service_days)
