-- The rows of a feed that is not whole yet.
use Rattle.gtfs_rows.specs.declared.parts.Parts.{Parts}
use Rattle.gtfs_reading.specs.declared.feed_rows.FeedRows.{FeedRows}
use Rattle.gtfs_reading.specs.declared.stop_times.StopTimes.{StopTimes}

-- all rows of a feed, of those without stop times and of lists of stop times
abbrev pub parts_with : FeedRows → StopTimes → Parts
parts_with rows lists = record {
  agencies = rows.agencies;
  stops = rows.stops;
  routes = rows.routes;
  services = rows.services;
  trips = rows.trips;
  transfers = rows.transfers;
  stop_times = lists.stop_times;
  frequencies = rows.frequencies;
  frequency_starts = rows.frequency_starts;
  headsigns = lists.headsigns;
}
