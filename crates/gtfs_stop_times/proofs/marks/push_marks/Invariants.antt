use Rattle.std.proofs.Common.{◌≡◌, ◌++◌, map, take}
use Rattle.gtfs_stop_times.specs.StopTimesByTrip.{is_at}
use Rattle.gtfs_stop_times.proofs.marks.push_marks.Given as goal

-- the rows so far are marked
abbrev pub invariant-loop-row : goal.invariant-loop-row
invariant-loop-row l = l.marks.items ≡ l.initial.marks.items ++ map (is_at l.stops) (take l.row-index l.rows)
