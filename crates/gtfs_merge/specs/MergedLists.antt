-- All lists of a merged feed.
use Rattle.std.specs.Prelude.{◌≡◌, ℕ, List, length, map}
use Rattle.std.specs.List.{All}
use Rattle.gtfs_rows.specs.RowsInMemory.{IsSoundParts, content_of_parts}
use Rattle.gtfs_rows.specs.declared.parts.Parts.{Parts}
use Rattle.gtfs_rows.specs.declared.transfer.Transfer.{Transfer}
use Rattle.gtfs_stop_times.specs.StopTimesByTrip.{StopTimesOfTrips, in_turn}
use Rattle.gtfs_stop_times.specs.JoinedStopTimes.{IsTripOf, trip_rows}
use Rattle.gtfs_merge.specs.MergedSides.{merged_parts}
use Rattle.gtfs_merge.specs.TripRows.{with_numbers}
use Rattle.gtfs_merge.specs.declared.rows.with_ids.IdRows.{IdRows}
use Rattle.gtfs_merge.specs.declared.rows.frequencies.Frequencies.{Frequencies}
use Rattle.gtfs_merge.specs.declared.rows.all_lists.MergedLists.{MergedLists}
use Rattle.gtfs_merge.specs.declared.sides.Sides.{Sides}

abbrev pub parts_with : IdRows → List Transfer → StopTimesOfTrips → Frequencies → List (List ℕ) → Parts
parts_with rows transfers stop_times frequencies headsigns = record {
  agencies = rows.agencies;
  stops = rows.stops;
  routes = rows.routes;
  services = rows.services;
  trips = rows.trips;
  transfers = transfers;
  stop_times = stop_times;
  frequencies = frequencies.rows.items;
  frequency_starts = frequencies.starts.items;
  headsigns = headsigns;
}

-- the stop times of the merged trips, of those of both feeds
abbrev pub joined_stop_times : MergedLists → StopTimesOfTrips → StopTimesOfTrips → StopTimesOfTrips
joined_stop_times l first second =
    in_turn (map (trip_rows (with_numbers l.stops.a l.headsigns.a first) (with_numbers l.stops.b l.headsigns.b second)) l.trips.items)

-- the merged feed, with the stop times of both feeds
abbrev pub all_parts : MergedLists → StopTimesOfTrips → StopTimesOfTrips → Parts
all_parts l first second = parts_with l.rows l.transfers (joined_stop_times l first second) l.frequencies l.headsigns.texts

-- with the stop times of both sides these lists are the merged feed
pub record AreListsOf (sides : Sides) (l : MergedLists) : Type 0 where
  pub trips : All (IsTripOf (length sides.a.now.stop_times.starts) (length sides.b.now.stop_times.starts)) l.trips.items
  pub sound : IsSoundParts (all_parts l sides.a.now.stop_times sides.b.now.stop_times)
  pub content : content_of_parts (all_parts l sides.a.now.stop_times sides.b.now.stop_times) ≡ merged_parts sides
