use Rattle.std.proofs.Common.{◌≡◌, take}
use Rattle.gtfs_stop_times.specs.HeadsignedRows.{rows_at}
use Rattle.gtfs_stop_times.proofs.ranges.in_order.Given as goal

-- the rows so far
abbrev pub invariant-loop-at : goal.invariant-loop-at
invariant-loop-at l = l.list.items ≡ rows_at l.rows (take l.at l.order)
