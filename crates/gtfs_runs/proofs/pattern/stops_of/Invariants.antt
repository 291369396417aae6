use Rattle.std.proofs.Common.{◌≡◌, map, take}
use Rattle.gtfs_runs.proofs.pattern.stops_of.Given as goal

-- the stops so far
abbrev pub invariant-loop-row : goal.invariant-loop-row
invariant-loop-row l = l.stops.items ≡ map (λ row. row.stop_id) (take l.row-index l.stop_times)
