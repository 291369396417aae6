-- The rows of a feed under a choice of times, with numbers in place of ids: what proofs take a filled feed for. No feed is
-- ever filled as a whole.
use Rattle.std.specs.Prelude.{ℕ, Bool, not, true, false, List, [], map, Option, is_some, if◌then◌else◌}
use Rattle.std.specs.List.{enumerate_from, flat_map}
use Rattle.gtfs_rows.specs.NamedRows.{stop_row_named}
use Rattle.gtfs_rows.specs.Trips.{stop_rows_by_trip}
use Rattle.gtfs_stop_times.specs.RowTimes.{left_at}
use Rattle.gtfs_rows.specs.declared.parts.Parts.{Parts}
use Rattle.gtfs_stop_times.specs.declared.stop_row.StopRow.{StopRow}
use Rattle.gtfs_times.specs.Filling.{time_at}
use Rattle.gtfs_times.specs.declared.times.Times.{Times}
use Rattle.gtfs_times.specs.declared.times.Times.TheVariants as times

-- the time of a position, in which ids play no part
abbrev pub position_time : List StopRow → ℕ → Option ℕ
position_time rows m = time_at (map (stop_row_named [] []) rows) m

-- a stop time without a time has that of its position
abbrev pub filled_stop_time : List StopRow → ℕ × StopRow → StopRow
filled_stop_time rows x =
    if is_some (left_at x.1) then x.1 else record x.1 { arrival_time = position_time rows x.0; departure_time = position_time rows x.0 }

abbrev pub filled_stop_times : List StopRow → List StopRow
filled_stop_times rows = map (filled_stop_time rows) (enumerate_from 0 rows)

abbrev pub timed_stop_times : Times → List StopRow → List StopRow
timed_stop_times times.Given rows = rows
timed_stop_times times.Interpolated rows = filled_stop_times rows

-- all rows, each trip's under the choice
abbrev pub timed_parts : Times → Parts → Parts
timed_parts times p = record p { stop_times = record p.stop_times { rows = flat_map (timed_stop_times times) (stop_rows_by_trip p) } }

-- ---- what tells whether a trip's stop times are changed

abbrev pub is_interpolated : Times → Bool
is_interpolated times.Given = false
is_interpolated times.Interpolated = true

abbrev pub lacks_time : StopRow → Bool
lacks_time row = not (is_some (left_at row))
