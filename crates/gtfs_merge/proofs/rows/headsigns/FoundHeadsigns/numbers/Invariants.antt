use Rattle.std.proofs.Common.{take}
use Rattle.gtfs_rows.specs.Headsigns.{KeepsHeadsigns}
use Rattle.gtfs_merge.specs.Headsigns.{AreNumbersOf}
use Rattle.gtfs_merge.proofs.rows.headsigns.FoundHeadsigns.numbers.Given as goal

-- the numbers so far
abbrev pub invariant-loop-headsign : goal.invariant-loop-headsign
invariant-loop-headsign l = record {
  numbers : AreNumbersOf l.self (take l.headsign-index l.headsigns) l.numbers.items;
  kept : KeepsHeadsigns l.initial.self l.self;
}
