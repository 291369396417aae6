use Rattle.std.proofs.Common.{false, length}
use Rattle.gtfs_advice.proofs.Marking.{AreMarksSoFar}
use Rattle.gtfs_advice.proofs.UsedFacts.{called_trips, service_number}
use Rattle.gtfs_advice.proofs.services.with_trips.Given as goal

-- the trips so far marked their services
abbrev pub invariant-loop-number : goal.invariant-loop-number
invariant-loop-number l = AreMarksSoFar (service_number l.with_calls) (λ k. false) (length l.parts.services) (called_trips l.parts) l.number l.marks.items
