use Rattle.std.proofs.Common.{min}
use Rattle.gtfs_nearby.specs.TreeSearch.{IsLeastOfRun}
use Rattle.gtfs_nearby.proofs.Blocks.{stops}
use Rattle.gtfs_nearby.proofs.search.least_of_all.Given as goal

-- the least of the stops so far
abbrev pub invariant-loop-number : goal.invariant-loop-number
invariant-loop-number l = IsLeastOfRun l.area l.listed (stops l.fn.run.from (min l.fn.run.until l.number)) l.fn.below l.least
