-- When a trip passes the stop times at which riders can leave a place: so many seconds after each of its runs starts.
use Rattle.std.specs.Prelude.{◌≡◌, ◌≤◌, ◌<◌, ℕ, ◌+◌, ◌-◌, ◌&&◌, All, AllPairs, Bool, true, false, List, [], ◌∷◌, filter, is_some, map, slice_get, slice_index_or, Some, unwrap_or}
use Rattle.std.specs.List.{enumerate_from}
use Rattle.gtfs_rows.specs.Trips.{stop_rows_by_trip}
use Rattle.gtfs_stop_times.specs.RowTimes.{left_at}
use Rattle.gtfs_rows.specs.RowsInMemory.{content_of_parts, stop_ids, stop_row_of, text_of_number, trip_of}
use Rattle.gtfs_rows.specs.declared.frequency.Frequency.{Frequency}
use Rattle.gtfs_rows.specs.declared.parts.Parts.{Parts}
use Rattle.gtfs_stop_times.specs.declared.stop_row.StopRow.{StopRow}
use Rattle.gtfs_rows.specs.declared.trip.Trip.{Trip}
use Rattle.gtfs_rows.specs.Places.{members}
use Rattle.gtfs_rows.specs.Runs.{is_departure_row}
use Rattle.gtfs_runs.specs.declared.event.Event.{Event}
use Rattle.gtfs_runs.specs.declared.stop_lanes.passing.Passing.{Passing}

-- when a vehicle leaves the first stop time, 0 where there is none
abbrev pub first_left : List StopRow → ℕ
first_left [] = 0
first_left (row ∷ rows) = unwrap_or (left_at row) 0

-- stop times of a trip, of stops with numbers below this one: no vehicle leaves before the trip starts, or after 999:59:59
pub record AreTripTimes (n : ℕ) (rows : List StopRow) : Type 0 where
  pub stops : All (λ r. r.stop_id.0 < n) rows
  pub ascend : AllPairs (λ r s. r.stop_sequence < s.stop_sequence) rows
  pub from : All (λ r. is_some (left_at r) ≡ true → first_left rows ≤ unwrap_or (left_at r) 0) rows
  pub to : All (λ r. unwrap_or (left_at r) 0 ≤ 3_599_999) rows

-- the stop time of this position, where the trip starts at a second
abbrev pub passing_at : ℕ → ℕ × StopRow → Passing
passing_at start x = record { after = unwrap_or (left_at x.1) 0 - start; seq = x.1.stop_sequence; row = x.0 }

-- riders can leave the place of the stop of this number at a stop time of a trip
abbrev pub leaves : Parts → ℕ → Trip → List StopRow → List Frequency → ℕ × StopRow → Bool
leaves p s t rows fs x =
    is_departure_row (trip_of p t rows fs) (stop_row_of p x.1) && slice_index_or (members (content_of_parts p) (text_of_number (stop_ids p) s)) x.1.stop_id.0 false

-- all of these
abbrev pub passings_of : Parts → ℕ → Trip → List StopRow → List Frequency → List Passing
passings_of p s t rows fs = map (passing_at (first_left rows)) (filter (leaves p s t rows fs) (enumerate_from 0 rows))

-- these are all of the trip of this number
abbrev pub ArePassings : Parts → ℕ → ℕ → List Passing → Type 0
ArePassings p s trip xs = (t : Trip) (rows : List StopRow) (fs : List Frequency) → slice_get (stop_rows_by_trip p) trip ≡ Some rows → xs ≡ passings_of p s t rows fs

-- the event of a run of the trip of this number
abbrev pub passing_event : ℕ → ℕ → Passing → Event
passing_event trip run x = record { at = run + x.after; trip = record { 0 = trip }; run = run; seq = x.seq; row = x.row }
