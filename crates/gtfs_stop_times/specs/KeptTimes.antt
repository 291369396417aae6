-- A stop time as it is kept: its trip, how its times stand, and when its stop is reached and left.
use Rattle.std.specs.Prelude.{ℕ, Bool, true, false, ◌&&◌, if◌then◌else◌, is_some, not, Option, None}
use Rattle.gtfs_stop_times.specs.RowTimes.{left_at, reached_at}
use Rattle.gtfs_stop_times.specs.declared.stop_time.StopTime.{StopTime}
use Rattle.gtfs_stop_times.specs.declared.stop_time.ReadTimes.{ReadTimes}
use Rattle.gtfs_stop_times.specs.declared.stop_time.ReadTimes.TheVariants as times

-- the row with the number of its trip
abbrev pub with_trip : StopTime → ℕ → StopTime
with_trip r trip = record {
  trip = trip;
  row = r.row;
  has_headsign = r.has_headsign;
  times = r.times;
  stop_row = r.stop_row;
}

-- ---- its times

-- each of them is readable, or empty
abbrev pub are_clear : ReadTimes → Bool
are_clear times.Clear = true
are_clear times.Unclear = false
are_clear times.Unplaced = false

-- the row has a sequence
abbrev pub is_placed : ReadTimes → Bool
is_placed times.Clear = true
is_placed times.Unclear = true
is_placed times.Unplaced = false

-- both are empty
abbrev pub is_untimed : StopTime → Bool
is_untimed r = are_clear r.times && (not (is_some r.stop_row.arrival_time) && not (is_some r.stop_row.departure_time))

-- when it is reached and left, but not where one of its times is not as it has to be
abbrev pub arrives : StopTime → Option ℕ
arrives r = if are_clear r.times then reached_at r.stop_row else None

abbrev pub departs : StopTime → Option ℕ
departs r = if are_clear r.times then left_at r.stop_row else None
