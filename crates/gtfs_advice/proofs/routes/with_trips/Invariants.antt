use Rattle.std.proofs.Common.{false}
use Rattle.gtfs_advice.specs.NumberMarks.{route_if}
use Rattle.gtfs_advice.proofs.Marking.{AreMarksSoFar}
use Rattle.gtfs_advice.proofs.routes.with_trips.Given as goal

-- the trips so far marked their routes
abbrev pub invariant-loop-trip : goal.invariant-loop-trip
invariant-loop-trip l = AreMarksSoFar (route_if l.directed) (λ k. false) l.count l.trips l.trip-index l.marks.items
