-- What is shown of a candidate: the numbers of its trip and of its stop time name the rows of a feed.
use Rattle.std.specs.Prelude.{◌<◌, ◌≤ℤ◌, ℕ, List, [], Option, length, option_map, option_and_then, slice_get, unwrap_or}
use Rattle.gtfs_days.specs.Service.{first_service_day, last_service_day}
use Rattle.gtfs_days.specs.Zone.{IsInstant}
use Rattle.gtfs_rows.specs.Trips.{stop_rows_by_trip}
use Rattle.gtfs_rows.specs.Rows.{StopRow, Trip}
use Rattle.gtfs_rows.specs.RowsInMemory.{content_of_parts, trip_ids}
use Rattle.gtfs_rows.specs.declared.parts.Parts.{Parts}
use Rattle.gtfs_stop_times.specs.declared.stop_row.StopRow.{StopRow as StopTime}
use Rattle.gtfs_board.specs.CandidateKeys.{key_among}
use Rattle.gtfs_rows.specs.Key.{Key}
use Rattle.gtfs_board.specs.BoardLines.{Listed}
use Rattle.gtfs_board.specs.ShownTrips.{headsign, mark_of, route_name}
use Rattle.gtfs_board.specs.declared.departure.Mark.TheVariants as mark
use Rattle.gtfs_board.specs.declared.upcoming.candidate.Candidate.{Candidate}

abbrev pub candidate_key : Parts → Candidate → Key
candidate_key p c = key_among (trip_ids p) c

abbrev pub candidate_trip : Parts → Candidate → Option Trip
candidate_trip p c = slice_get (content_of_parts p).trips c.trip

abbrev pub row_in : Parts → Candidate → Option StopRow
row_in p c = option_and_then (λ t. slice_get t.stop_rows c.row) (candidate_trip p c)

-- what is shown of a candidate; of numbers that the feed does not have this says nothing that a clause uses
abbrev pub listed_in : Parts → Candidate → Listed
listed_in p c = record {
  key = candidate_key p c;
  stop = unwrap_or (option_map (λ r. r.stop_id) (row_in p c)) [];
  route = unwrap_or (option_map (λ t. route_name (content_of_parts p) t.route_id) (candidate_trip p c)) [];
  headsign = unwrap_or (option_and_then (λ t. option_map (headsign t) (slice_get t.stop_rows c.row)) (candidate_trip p c)) [];
  mark = unwrap_or (option_and_then (λ t. option_map (mark_of t c.run) (slice_get t.stop_rows c.row)) (candidate_trip p c)) mark.Scheduled;
}

-- the stop times of a trip
abbrev pub candidate_times : Parts → ℕ → List StopTime
candidate_times p n = unwrap_or (slice_get (stop_rows_by_trip p) n) []

-- the feed has the trip and the stop time, and the day and the instant are in range
pub record IsOfFeed (p : Parts) (c : Candidate) : Type 0 where
  pub trip : c.trip < length p.trips
  pub row : c.row < length (candidate_times p c.trip)
  pub day_from : first_service_day ≤ℤ c.day
  pub day_to : c.day ≤ℤ last_service_day
  pub instant : IsInstant c.instant
