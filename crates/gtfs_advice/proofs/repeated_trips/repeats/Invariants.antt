use Rattle.std.proofs.Common.{◌-◌, length, false}
use Rattle.gtfs_advice.specs.TripCourses.{neighbours, repeated}
use Rattle.gtfs_advice.proofs.Marking.{AreMarksSoFar}
use Rattle.gtfs_advice.proofs.repeated_trips.repeats.Given as goal

-- the neighbours so far marked their repeats
abbrev pub invariant-loop-place : goal.invariant-loop-place
invariant-loop-place l = AreMarksSoFar (repeated l.headsigns) (λ k. false) (length l.courses) (neighbours l.courses) (l.place - 1) l.marks.items
