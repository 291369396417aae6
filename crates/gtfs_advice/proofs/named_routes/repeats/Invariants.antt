use Rattle.std.proofs.Common.{◌-◌, length, false}
use Rattle.gtfs_advice.specs.NamedRoutes.{neighbours, repeated}
use Rattle.gtfs_advice.proofs.Marking.{AreMarksSoFar}
use Rattle.gtfs_advice.proofs.named_routes.repeats.Given as goal

-- the neighbours so far marked the second of them
abbrev pub invariant-loop-place : goal.invariant-loop-place
invariant-loop-place l = AreMarksSoFar repeated (λ k. false) (length l.listed) (neighbours l.listed) (l.place - 1) l.marks.items
