-- When a stop time is reached, and when it is left: of two times of which one is missing, both are the other.
use Rattle.std.specs.Prelude.{ℕ, Option}
use Rattle.std.specs.Option.{option_or}
use Rattle.gtfs_stop_times.specs.declared.stop_row.StopRow.{StopRow}

abbrev pub reached_at : StopRow → Option ℕ
reached_at r = option_or r.arrival_time r.departure_time

abbrev pub left_at : StopRow → Option ℕ
left_at r = option_or r.departure_time r.arrival_time
