use Rattle.std.proofs.Common.{◌≡◌, ◌++◌, take}
use Rattle.gtfs_stop_times.specs.StopLists.{stops_in}
use Rattle.gtfs_stop_times.proofs.stop_lists.push_stops.Given as goal

-- those so far
abbrev pub invariant-loop-row : goal.invariant-loop-row
invariant-loop-row l = l.stops.items ≡ l.fn.stops.items ++ stops_in (take l.row-index l.rows)
