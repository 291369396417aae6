use Rattle.std.proofs.Common.{◌≡◌, length, map, take}
use Rattle.gtfs_table.specs.FieldOffsets.{parts}
use Rattle.gtfs_stop_times.specs.StopTimesByTrip.{AreWithin, rows_in}
use Rattle.gtfs_stop_times.proofs.ranges.ranges_in_turn.Given as goal

-- the ranges so far are those of the trips so far
abbrev pub invariant-loop-trip : goal.invariant-loop-trip
invariant-loop-trip l = AreWithin (length l.rows) l.ranges.items × (map (rows_in l.rows) l.ranges.items ≡ take l.trip (parts l.starts l.rows))
