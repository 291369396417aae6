-- The times of rows that have none: those of a vehicle that goes at an even pace between the nearest rows with times.
-- GTFS Schedule Reference, stop_times.txt, arrival_time and departure_time. The rows of a trip stand by sequence, and have
-- positions from 0.
use Rattle.std.specs.Prelude.{ℕ, ◌+◌, ◌-◌, ◌*◌, ◌/◌, List, map, find, reverse, take, drop, Option, Some, None, if◌then◌else◌, unwrap_or}
use Rattle.std.specs.List.{enumerate_from}
use Rattle.gtfs_rows.specs.Content.{Content}
use Rattle.gtfs_rows.specs.Rows.{StopRow, Trip}
use Rattle.gtfs_rows.specs.Runs.{is_timed}
use Rattle.gtfs_rows.specs.SoundContent.{comes, leaves}
use Rattle.gtfs_times.specs.declared.times.Times.{Times}
use Rattle.gtfs_times.specs.declared.times.Times.TheVariants as times

-- a row with its position among the rows of its trip
abbrev pub Placed : Type 0
Placed = ℕ × StopRow

-- the nearest timed row before a position, and the nearest one after it
abbrev pub timed_before : List StopRow → ℕ → Option Placed
timed_before rows m = find (λ x. is_timed x.1) (reverse (take m (enumerate_from 0 rows)))

abbrev pub timed_after : List StopRow → ℕ → Option Placed
timed_after rows m = find (λ x. is_timed x.1) (drop (m + 1) (enumerate_from 0 rows))

-- when a timed row is left, and when it is reached
abbrev pub left : Placed → ℕ
left x = unwrap_or (leaves x.1) 0

abbrev pub reached : Placed → ℕ
reached x = unwrap_or (comes x.1) 0

-- when a vehicle passes a position on its way from row i to row j: of the time from leaving the one to reaching the other
-- the part that the position is of the way, cut to whole seconds
abbrev pub passed_between : Placed → Placed → ℕ → ℕ
passed_between i j m = left i + ((reached j - left i) * (m - i.0)) / (j.0 - i.0)

-- none where no timed row stands before the position or none after it, as in no feed that passes
abbrev pub time_between : Option Placed → Option Placed → ℕ → Option ℕ
time_between None j m = None
time_between (Some i) None m = None
time_between (Some i) (Some j) m = Some (passed_between i j m)

abbrev pub time_at : List StopRow → ℕ → Option ℕ
time_at rows m = time_between (timed_before rows m) (timed_after rows m) m

-- a row without a time is reached and left at that of its position; a timed row stays as it is
abbrev pub filled_row : List StopRow → Placed → StopRow
filled_row rows x =
    if is_timed x.1 then x.1 else record x.1 { arrival_time = time_at rows x.0; departure_time = time_at rows x.0 }

abbrev pub filled_rows : List StopRow → List StopRow
filled_rows rows = map (filled_row rows) (enumerate_from 0 rows)

-- ---- a content with its times as given, or filled

abbrev pub timed_stop_rows : Times → List StopRow → List StopRow
timed_stop_rows times.Given rows = rows
timed_stop_rows times.Interpolated rows = filled_rows rows

abbrev pub timed_trip : Times → Trip → Trip
timed_trip times t = record t { stop_rows = timed_stop_rows times t.stop_rows }

abbrev pub timed : Times → Content → Content
timed times f = record f { trips = map (timed_trip times) f.trips }
