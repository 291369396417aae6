use Rattle.gtfs_advice.proofs.NamedRoutes.{AreNamedSoFar}
use Rattle.gtfs_advice.proofs.named_routes.by_number.Given as goal

-- the routes so far
abbrev pub invariant-loop-number : goal.invariant-loop-number
invariant-loop-number l = AreNamedSoFar l.routes l.number l.listed.items
