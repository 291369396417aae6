use Rattle.std.proofs.Common.{◌≡◌, ◌<◌, ◌≤◌, ◌+◌, ◌-◌, ◌++◌}
use Rattle.gtfs_board.specs.UpcomingDays.{events_of, serves_in}
use Rattle.gtfs_board.specs.upcoming.Candidates.{heads_on, least_from}
use Rattle.gtfs_board.proofs.upcoming.gathering.ask_lanes.Given as goal

abbrev pub invariant-loop-lane : goal.invariant-loop-lane
invariant-loop-lane l = record {
  heads : l.fresh.items ≡ l.fn.fresh.items ++ heads_on (events_of l.days) l.floor l.day l.lane;
  least : l.least ≡ least_from l.fn.least (heads_on (events_of l.days) l.floor l.day l.lane);
  serves : 0 < l.lane → l.serves ≡ serves_in l.days (l.lane - 1) l.day;
  steps : l.steps ≤ l.fn.steps + l.lane;
}
