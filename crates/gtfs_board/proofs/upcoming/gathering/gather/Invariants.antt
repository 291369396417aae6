use Rattle.std.proofs.Common.{◌++◌}
use Rattle.std.specs.Prelude.{pos, ◌+ℤ◌, ◌-ℤ◌, ◌≤ℤ◌, unsigned_abs}
use Rattle.std.specs.Option.{option_to_list}
use Rattle.gtfs_days.specs.Service.{last_service_day, service_days}
use Rattle.gtfs_board.specs.UpcomingDays.{count_of, events_of}
use Rattle.gtfs_board.specs.upcoming.OpenedLanes.{AreStepsFew}
use Rattle.gtfs_board.specs.upcoming.Candidates.{least_from, AreGathered}
use Rattle.gtfs_board.proofs.upcoming.gathering.gather.Given as goal

abbrev pub invariant-loop-fresh : goal.invariant-loop-fresh
invariant-loop-fresh l = record {
  gathered : AreGathered (events_of l.days) l.floor l.days.end (l.queue ++ option_to_list l.fn.head) l.fresh.items l.day l.least;
  up : l.fn.day ≤ℤ l.day;
  to : l.day ≤ℤ (last_service_day +ℤ pos 1);
  steps : AreStepsFew (count_of l.days) last_service_day service_days
      l.fn.steps l.fn.day (least_from l.days.end (l.queue ++ option_to_list l.fn.head)) l.steps l.day l.least;
}

abbrev pub decreases-loop-fresh : goal.decreases-loop-fresh
decreases-loop-fresh l = unsigned_abs (last_service_day +ℤ pos 1 -ℤ l.day)
