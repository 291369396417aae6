use Rattle.std.proofs.Common.{◌≡◌, ◌+◌, drop}
use Rattle.gtfs_trip_rules.specs.JudgedTrips.{ends_trip}
use Rattle.gtfs_trip_rules.proofs.trips.order.ends.Given as goal

-- the rows between are of the same trip and sequence
abbrev pub invariant-loop-next : goal.invariant-loop-next
invariant-loop-next l = ends_trip l.row (drop (l.at + 1) l.rows) ≡ ends_trip l.row (drop l.next l.rows)
