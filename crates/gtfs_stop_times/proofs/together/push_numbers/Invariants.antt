use Rattle.std.proofs.Common.{◌≡◌, ◌-◌, ◌++◌, ◌≤◌, drop, take}
use Rattle.gtfs_stop_times.proofs.together.push_numbers.Given as goal

-- the numbers so far
abbrev pub invariant-loop-at : goal.invariant-loop-at
invariant-loop-at l = record {
  low : l.stretch.start ≤ l.at;
  numbers : l.rows.items ≡ l.initial.rows.items ++ take (l.at - l.stretch.start) (drop l.stretch.start l.order);
}
