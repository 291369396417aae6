use Rattle.std.specs.Prelude.{pos, ◌+ℤ◌, ◌≤ℤ◌}
use Rattle.gtfs_days.specs.Service.{last_service_day}
use Rattle.gtfs_board.proofs.LaneDays.{AreIdle}
use Rattle.gtfs_board.proofs.service_days.Days.next_day.Given as goal

abbrev pub invariant-loop-lane : goal.invariant-loop-lane
invariant-loop-lane l = record {
  up : l.fn.day ≤ℤ l.first;
  within : l.first ≤ℤ (last_service_day +ℤ pos 1);
  idle : AreIdle l.self.feed.now l.self.lanes l.fn.day l.first l.lane;
}
