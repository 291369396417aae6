-- The rows of a feed by trip, and what they are in sound parts.
use Rattle.std.specs.Prelude.{◌≡◌, ◌<◌, ◌≤◌, ◌-◌, ℕ, List, All, AllPairs, IfSome, true, is_some, length, slice_index_or}
use Rattle.gtfs_table.specs.FieldOffsets.{parts}
use Rattle.gtfs_rows.specs.declared.frequency.Frequency.{Frequency}
use Rattle.gtfs_rows.specs.declared.parts.Parts.{Parts}
use Rattle.gtfs_stop_times.specs.RowTimes.{left_at, reached_at}
use Rattle.gtfs_stop_times.specs.declared.stop_row.StopRow.{StopRow}

-- the stop times of each trip, at its number
abbrev pub stop_rows_by_trip : Parts → List (List StopRow)
stop_rows_by_trip p = parts p.stop_times.starts p.stop_times.rows

-- the frequencies of each trip, at its number
abbrev pub frequencies_by_trip : Parts → List (List Frequency)
frequencies_by_trip p = parts p.frequency_starts p.frequencies

-- the stop times of a trip
pub record AreStopTimes (p : Parts) (rs : List StopRow) : Type 0 where
  pub stops : All (λ r. r.stop_id.0 < length p.stops) rs
  pub headsigns : All (λ r. IfSome r.stop_headsign (λ n. n < length p.headsigns)) rs
  pub ascend : AllPairs (λ r s. r.stop_sequence < s.stop_sequence) rs
  -- none is left before it is reached, nor reached before an earlier one is left
  pub stay : All (λ r. IfSome r.arrival_time (λ a. IfSome r.departure_time (λ b. a ≤ b))) rs
  pub run_on : AllPairs (λ r s. IfSome (left_at r) (λ a. IfSome (reached_at s) (λ b. a ≤ b))) rs
  -- the first and the last have a time
  pub first_timed : (d : StopRow) → 0 < length rs → is_some (left_at (slice_index_or rs 0 d)) ≡ true
  pub last_timed : (d : StopRow) → 0 < length rs → is_some (left_at (slice_index_or rs (length rs - 1) d)) ≡ true

-- the frequencies of a trip: periods in which a run leaves, one after another
pub record ArePeriods (fs : List Frequency) : Type 0 where
  pub filled : All (λ f. f.start_time < f.end_time) fs
  pub apart : AllPairs (λ f g. f.end_time ≤ g.start_time) fs
