use Rattle.std.proofs.Common.{◌≡◌, map, take}
use Rattle.gtfs_merge.specs.MergeEntries.{entry_value}
use Rattle.gtfs_merge.specs.TripRows.{entry_trip}
use Rattle.gtfs_merge.proofs.rows.stop_times.trips_of.Given as goal

-- the trips so far
abbrev pub invariant-loop-row : goal.invariant-loop-row
invariant-loop-row l = l.trips.items ≡ map entry_trip (map entry_value (take l.row-index l.rows))
