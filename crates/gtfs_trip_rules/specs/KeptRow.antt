-- A row of stop_times.txt as it is kept, by what was read of its fields.
use Rattle.std.specs.Prelude.{ℕ, ◌||◌, Bool, if◌then◌else◌, Option, None, is_some}
use Rattle.std.specs.Option.{unwrap_or}
use Rattle.gtfs_stop_times.specs.declared.stop_time_choices.DropOffType.TheVariants as drop_off
use Rattle.gtfs_stop_times.specs.declared.stop_time_choices.PickupType.TheVariants as pickup
use Rattle.gtfs_stop_times.specs.declared.stop_row.StopRow.{StopRow}
use Rattle.gtfs_trip_rules.specs.declared.stop_times.columns.ReadStopTime.{ReadStopTime}
use Rattle.gtfs_stop_times.specs.declared.stop_time.StopTime.{StopTime}
use Rattle.gtfs_stop_times.specs.declared.stop_time.ReadTimes.{ReadTimes}
use Rattle.gtfs_stop_times.specs.declared.stop_time.ReadTimes.TheVariants as times
use Rattle.gtfs_trip_rules.specs.StopTimeFields.{is_fault, value_in}

-- how the times of a row stand that has a sequence or none, and of which one has a fault or none
abbrev pub times_of : Bool → Bool → ReadTimes
times_of has_sequence has_fault = if has_sequence then (if has_fault then times.Unclear else times.Clear) else times.Unplaced

-- what a row says, its stop by its number; an empty choice means that all is as scheduled
abbrev pub row_said : ReadStopTime → Option ℕ → StopRow
row_said s stop = record {
  stop_id = record { 0 = unwrap_or stop 0 };
  arrival_time = value_in s.arrival_time;
  departure_time = value_in s.departure_time;
  stop_sequence = unwrap_or (value_in s.stop_sequence) 0;
  stop_headsign = None;
  pickup_type = unwrap_or (value_in s.pickup_type) pickup.Regular;
  drop_off_type = unwrap_or (value_in s.drop_off_type) drop_off.Regular;
  timepoint = value_in s.timepoint;
}

-- a row, before it has the number of its trip
abbrev pub kept_row : ReadStopTime → Option ℕ → StopTime
kept_row s stop = record {
  trip = 0;
  row = s.row;
  has_headsign = s.has_headsign;
  times = times_of (is_some (value_in s.stop_sequence)) (is_fault s.arrival_time || is_fault s.departure_time);
  stop_row = row_said s stop;
}
