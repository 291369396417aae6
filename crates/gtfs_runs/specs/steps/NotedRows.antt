-- What an index notes of a departure row, so that nobody has to look at its stop time.
use Rattle.std.specs.Prelude.{◌≡◌, ◌<◌, ℕ, ◌-◌, List, Some, length, slice_get, slice_index_or, unwrap_or}
use Rattle.gtfs_rows.specs.Trips.{stop_rows_by_trip}
use Rattle.gtfs_stop_times.specs.RowTimes.{left_at}
use Rattle.gtfs_rows.specs.declared.parts.Parts.{Parts}
use Rattle.gtfs_stop_times.specs.declared.stop_row.StopRow.{StopRow}
use Rattle.gtfs_runs.specs.declared.departure_row.DepartureRow.{DepartureRow}
use Rattle.gtfs_runs.specs.declared.stop_lanes.passing.Passing.{Passing}

-- this stop time of a trip of a rank at a position
abbrev pub noted_row : ℕ → ℕ → ℕ → StopRow → DepartureRow
noted_row t k r x = record { trip = t; row = r; left = unwrap_or (left_at x) 0; sequence = x.stop_sequence; rank = k }

-- it shows the stop time at its position
abbrev pub IsNoted : Parts → DepartureRow → Type 0
IsNoted p x = (rows : List StopRow) (d : StopRow) → slice_get (stop_rows_by_trip p) x.trip ≡ Some rows → x.row < length rows → x ≡ noted_row x.trip x.rank x.row (slice_index_or rows x.row d)

-- how it is passed where its trip starts at a second
abbrev pub noted_passing : ℕ → DepartureRow → Passing
noted_passing start x = record { after = x.left - start; seq = x.sequence; row = x.row }
