use Rattle.std.proofs.Common.{◌≡◌, ◌-◌, ◌++◌, ◌≤◌, drop, length}
use Rattle.std.specs.List.{All, flat_map}
use Rattle.gtfs_stop_times.specs.KeptLists.{stop_times_at}
use Rattle.gtfs_stop_times.specs.KeptStretches.{numbers_of, AreRising, IsStretch}
use Rattle.gtfs_stop_times.proofs.together.stretches.Given as goal

-- the stretches so far, and the rows after them
abbrev pub invariant-loop-start : goal.invariant-loop-start
invariant-loop-start l = record {
  low : l.start ≤ length l.order;
  all : flat_map (numbers_of l.order) l.stretches.items ++ drop l.start l.order ≡ l.order;
  within : All (λ s. (s.start ≤ s.end) × (s.end ≤ length l.order)) l.stretches.items;
  each : AreRising (stop_times_at l.ranks.rows.now l.ranks.notes.now l.order)
      → All (IsStretch l.ranks.rows.now l.ranks.notes.now l.order) l.stretches.items × AreRising (stop_times_at l.ranks.rows.now l.ranks.notes.now (drop l.start l.order));
}

abbrev pub decreases-loop-start : goal.decreases-loop-start
decreases-loop-start l = length l.order - l.start
