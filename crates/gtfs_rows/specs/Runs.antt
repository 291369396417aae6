-- Runs of a trip, and when they pass its stop rows.
-- GTFS Schedule Reference, stop_times.txt and frequencies.txt. Times are seconds from the origin of the service day.
use Rattle.std.specs.Prelude.{ℕ, ◌+◌, ◌-◌, ◌%◌, ◌==◌, ◌&&◌, not, Bool, nat_lt, nat_le, if◌then◌else◌, List, [], ◌∷◌, length, filter, Option, None, is_some, unwrap_or}
use Rattle.std.specs.List.{list_any, range_with_len}
use Rattle.gtfs_rows.specs.Rows.{StopRow, Frequency, Trip}
use Rattle.gtfs_rows.specs.SoundContent.{leaves}

-- a row that says when a vehicle comes or when it leaves
abbrev pub is_timed : StopRow → Bool
is_timed row = is_some (leaves row)

-- when a vehicle leaves the first row
abbrev pub first_leaves : List StopRow → Option ℕ
first_leaves [] = None
first_leaves (row ∷ rows) = leaves row

abbrev pub trip_start : Trip → ℕ
trip_start t = unwrap_or (first_leaves t.stop_rows) 0

-- a period of frequencies.txt starts a run at this second
abbrev pub starts_run : Frequency → ℕ → Bool
starts_run f r = nat_le f.start_time r && nat_lt r f.end_time && ((r - f.start_time) % f.headway_secs == 0)

-- a run of the trip starts at this second
abbrev pub is_run : Trip → ℕ → Bool
is_run t r = not (length t.stop_rows == 0)
    && (if length t.frequencies == 0 then r == trip_start t else list_any (λ f. starts_run f r) t.frequencies)

-- every run, ascending: no run starts at or after the thousandth hour
unfoldable pub runs : Trip → List ℕ
runs t = filter (is_run t) (range_with_len 0 3_600_000)

-- when a run passes a timed row
abbrev pub passes_at : Trip → ℕ → StopRow → ℕ
passes_at t r row = r + unwrap_or (leaves row) 0 - trip_start t

-- riders may board, with or without a call before: every pick-up type but 1
abbrev pub allows_boarding : StopRow → Bool
allows_boarding row = not (row.pickup_type == 1)

-- a row that a later one follows
abbrev pub is_not_last : Trip → StopRow → Bool
is_not_last t row = list_any (λ other. nat_lt row.stop_sequence other.stop_sequence) t.stop_rows

-- a row at which riders can leave the stop
abbrev pub is_departure_row : Trip → StopRow → Bool
is_departure_row t row = is_timed row && is_not_last t row && allows_boarding row
