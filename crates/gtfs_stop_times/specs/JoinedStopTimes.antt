-- The stop times of trips of two feeds.
use Rattle.std.specs.Prelude.{◌<◌, ℕ, List, [], slice_index_or}
use Rattle.gtfs_table.specs.FieldOffsets.{parts}
use Rattle.gtfs_stop_times.specs.StopTimesByTrip.{StopTimesOfTrips}
use Rattle.gtfs_stop_times.specs.declared.joined.TripOf.TheVariants as trip
use Rattle.gtfs_stop_times.specs.declared.joined.TripOf.{TripOf}
use Rattle.gtfs_stop_times.specs.declared.stop_row.StopRow.{StopRow}

-- the list at the number of the trip, of those of its feed
abbrev pub list_of : List (List StopRow) → List (List StopRow) → TripOf → List StopRow
list_of first second (trip.First n) = slice_index_or first n []
list_of first second (trip.Second n) = slice_index_or second n []

-- the feed of the trip has more trips than its number
abbrev pub IsTripOf : ℕ → ℕ → TripOf → Type 0
IsTripOf first second (trip.First n) = n < first
IsTripOf first second (trip.Second n) = n < second

-- the stop times of the trip, of those of its feed
abbrev pub trip_rows : StopTimesOfTrips → StopTimesOfTrips → TripOf → List StopRow
trip_rows first second t = list_of (parts first.starts first.rows) (parts second.starts second.rows) t
