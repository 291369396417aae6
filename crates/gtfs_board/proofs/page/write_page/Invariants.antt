use Rattle.std.proofs.Common.{◌≡◌, ◌≤◌, ◌-◌}
use Rattle.gtfs_board.specs.Board.{AreStepsWithin, IsQueued, SameSettings, step_count}
use Rattle.gtfs_board.specs.BoardPage.{AreWritten}
use Rattle.gtfs_board.proofs.page.write_page.Given as goal

abbrev pub invariant-loop-lines : goal.invariant-loop-lines
invariant-loop-lines g l = record {
  written : AreWritten l.initial.board.zone l.initial.board.rest l.board.rest (g.O.Out.told l.initial.out) (g.O.Out.told l.out) l.lines;
  within : l.lines ≤ l.limit;
  clock : l.clock ≡ l.initial.board.zone;
  settings : SameSettings l.initial.board l.board;
  queued : IsQueued l.initial.board → IsQueued l.board;
  steps : AreStepsWithin l.lines (step_count l.initial.board) (step_count l.board);
  no_failure : g.O.Out.failure_count l.out ≡ g.O.Out.failure_count l.initial.out;
}

abbrev pub decreases-loop-lines : goal.decreases-loop-lines
decreases-loop-lines g l = l.limit - l.lines
