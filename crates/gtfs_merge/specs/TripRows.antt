-- The stop times and the frequencies of a merged feed, trip after trip.
use Rattle.std.specs.Prelude.{◌≡◌, ℕ, List, [], length, map, Option, slice_index_or}
use Rattle.std.specs.List.{flat_map}
use Rattle.csv.specs.Records.{Rising}
use Rattle.gtfs_rows.specs.Trips.{frequencies_by_trip, stop_rows_by_trip}
use Rattle.gtfs_rows.specs.declared.frequency.Frequency.{Frequency}
use Rattle.gtfs_stop_times.specs.StopTimesByTrip.{StopTimesOfTrips}
use Rattle.gtfs_stop_times.specs.RenumberedRows.{renumbered_row}
use Rattle.gtfs_stop_times.specs.declared.joined.TripOf.TheVariants as trip
use Rattle.gtfs_stop_times.specs.declared.joined.TripOf.{TripOf}
use Rattle.gtfs_stop_times.specs.declared.stop_row.StopRow.{StopRow}
use Rattle.gtfs_table.specs.FieldOffsets.{parts}
use Rattle.gtfs_merge.specs.MergeEntries.{Entry}
use Rattle.gtfs_merge.specs.Headsigns.{HeadsignTable, numbers_on}
use Rattle.gtfs_merge.specs.NewNumbers.{NewNumbers, numbers_of}
use Rattle.gtfs_merge.specs.MergedSides.{side_parts}
use Rattle.gtfs_merge.specs.declared.kind.Side.{Side}
use Rattle.gtfs_merge.specs.declared.kind.Side.TheVariants as side
use Rattle.gtfs_merge.specs.declared.sides.Sides.{Sides}

-- of which side the trip of an entry is, and its number there
abbrev pub trip_on : Side → ℕ → TripOf
trip_on side.A n = trip.First n
trip_on side.B n = trip.Second n

abbrev pub entry_trip : Entry → TripOf
entry_trip e = trip_on e.side e.number

-- stop times whose stops and headsigns have their new numbers
abbrev pub with_numbers : List ℕ → List (Option ℕ) → StopTimesOfTrips → StopTimesOfTrips
with_numbers stops headsigns t = record { rows = map (renumbered_row stops headsigns) t.rows; starts = t.starts }

-- the stop times and the frequencies of a merged trip
abbrev pub stop_rows_from : Sides → NewNumbers → HeadsignTable → Entry → List StopRow
stop_rows_from sides stops headsigns e =
    map (renumbered_row (numbers_of stops e.side) (numbers_on headsigns e.side)) (slice_index_or (stop_rows_by_trip (side_parts e.side sides)) e.number [])

abbrev pub frequencies_from : Sides → Entry → List Frequency
frequencies_from sides e = slice_index_or (frequencies_by_trip (side_parts e.side sides)) e.number []

-- lists one after another: each has its stretch
pub record StandInTurn {X : Type 0} (lists : List (List X)) (starts : List ℕ) (rows : List X) : Type 0 where
  pub whole : rows ≡ flat_map (λ xs. xs) lists
  pub stretches : parts starts rows ≡ lists
  pub rising : Rising 0 starts (length rows)
  pub from_first : slice_index_or starts 0 (length rows) ≡ 0
