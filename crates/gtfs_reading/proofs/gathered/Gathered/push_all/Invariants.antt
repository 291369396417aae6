use Rattle.std.proofs.Common.{◌≡◌, drop, take}
use Rattle.gtfs_reading.specs.GatheredStopTimes.{AreGathered}
use Rattle.gtfs_reading.proofs.gathered.Gathered.push_all.Given as goal

-- the stop times so far were given their headsigns, and the others are left
abbrev pub invariant-loop-at : goal.invariant-loop-at
invariant-loop-at l = record {
  so_far : AreGathered l.tables (take l.at l.initial.self.stop_times.left) l.self;
  left : l.self.stop_times.left ≡ drop l.at l.initial.self.stop_times.left;
}
