use Rattle.std.proofs.Common.{Some, false, get_or, length}
use Rattle.gtfs_advice.proofs.Marking.{AreMarksSoFar}
use Rattle.gtfs_advice.proofs.stops.mark_calls.Given as goal

-- the stop times so far marked their stops
abbrev pub invariant-loop-row : goal.invariant-loop-row
invariant-loop-row l = AreMarksSoFar (λ r. Some r.stop_id.0) (λ k. get_or l.initial.marks.items k false) (length l.initial.marks.items) l.rows l.row-index l.marks.items
