use Rattle.std.proofs.Common.{Some, false}
use Rattle.gtfs_advice.proofs.Marking.{AreMarksSoFar}
use Rattle.gtfs_advice.proofs.agencies.with_routes.Given as goal

-- the routes so far marked their agencies
abbrev pub invariant-loop-route : goal.invariant-loop-route
invariant-loop-route l = AreMarksSoFar (λ r. Some r.agency_id.0) (λ k. false) l.count l.routes l.route-index l.marks.items
