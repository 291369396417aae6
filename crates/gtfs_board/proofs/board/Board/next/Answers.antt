use Rattle.gtfs_runs.proofs.TripIds.{trip_ids_ascend}
use Rattle.gtfs_board.proofs.Opened.{open_kept, open_taken, queued_is, steps_kept}
use Rattle.gtfs_board.specs.upcoming.Candidates.{taken}
use Rattle.gtfs_board.proofs.board.Board.next.Goals as goal
use Rattle.gtfs_board.proofs.board.Board.next.Goals.{in-Some, in-None}

pub returns-in_err-candidate-clause-queued : goal.returns-in_err-candidate-clause-queued
returns-in_err-candidate-clause-queued c =
    let p = c.self.inside.feed.now in
    queued_is p c.self.inside.zone.now c.next.new.self (trip_ids_ascend p c.soundness.ensures)
    (open_kept p c.self.inside.departures c.next.new.self c.self.invariant c.in_err-candidate.ensures.kept.0) c.next.ensures.queued

pub returns-clause-queued : goal.returns-clause-queued
returns-clause-queued c =
    let p = c.self.inside.feed.now in
    queued_is p c.self.inside.zone.now c.next.new.self (trip_ids_ascend p c.soundness.ensures)
    (open_taken p c.self.inside.departures c.next.new.self c.in_ok-candidate.field-0 c.self.invariant c.in_ok-candidate.ensures.first) c.next.ensures.queued

pub returns-clause-steps : goal.returns-clause-steps
returns-clause-steps c =
    let steps = steps_kept c.self.inside.feed.now c.self.inside.zone.now c.self.inside.departures c.next.new.self (taken c.in_ok-candidate.field-0) c.in_ok-candidate.ensures.steps in
    elim c.match-branch-2.branch [
      | in-Some x ↦ rw (x.result-is, ← c.self.view_is) (rw x.in-Some.is at steps)
      | in-None x ↦ rw (x.result-is, ← c.self.view_is) (rw x.in-None.is at steps)
    ]
