use Rattle.std.proofs.Common.{false, length}
use Rattle.gtfs_advice.specs.NumberMarks.{station_of}
use Rattle.gtfs_advice.proofs.Marking.{AreMarksSoFar}
use Rattle.gtfs_advice.proofs.stops.with_stops.Given as goal

-- the stops so far marked their stations
abbrev pub invariant-loop-stop : goal.invariant-loop-stop
invariant-loop-stop l = AreMarksSoFar station_of (λ k. false) (length l.parts.stops) l.parts.stops l.stop-index l.marks.items
