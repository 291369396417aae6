use Rattle.std.proofs.Common.{◌≡◌, ◌++◌, map, take}
use Rattle.gtfs_stop_times.specs.StopTimesByTrip.{AreCounted, rows_in}
use Rattle.gtfs_stop_times.specs.JoinedStopTimes.{list_of}
use Rattle.gtfs_stop_times.proofs.joined.ranges_of.Given as goal

-- the ranges so far are those of the trips so far, with so many rows
abbrev pub invariant-loop-trip : goal.invariant-loop-trip
invariant-loop-trip l = AreCounted l.first.rows.items l.second.rows.items l.of_trips.items l.len
    × (map (rows_in (l.first.rows.items ++ l.second.rows.items)) l.of_trips.items
    ≡ map (list_of (map (rows_in l.first.rows.items) l.first.ranges.items) (map (rows_in l.second.rows.items) l.second.ranges.items)) (take l.trip-index l.trips))
