use Rattle.std.proofs.Common.{◌≡◌, ◌+◌, ◌-◌, ◌≤◌, drop, take}
use Rattle.std.specs.List.{range_with_len}
use Rattle.gtfs_stop_times.proofs.ranges.range.Given as goal

-- the numbers so far, and the next one
abbrev pub invariant-loop-at : goal.invariant-loop-at
invariant-loop-at l = record {
  low : l.start ≤ l.at;
  numbers : range_with_len l.first (l.at - l.start) ≡ take (l.at - l.start) (drop l.start l.order);
  next : l.next ≡ l.first + (l.at - l.start);
}
