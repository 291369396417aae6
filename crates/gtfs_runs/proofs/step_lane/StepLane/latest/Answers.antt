use Rattle.gtfs_runs.proofs.Latest.{latest-none, latest-some}
use Rattle.gtfs_runs.proofs.step_lane.StepLane.latest.Goals as goal

pub returns-in-Some : goal.returns-in-Some
returns-in-Some c =
    let lane = c.args.self.now in
    latest-some lane.first lane.headway lane.count c.saturating_sub.result c.from.result c.event.result c.in-Some.event lane.ascending c.from.ensures c.saturating_sub.ensures c.event.ensures c.in-Some.is

pub returns-in-None : goal.returns-in-None
returns-in-None c =
    let lane = c.args.self.now in
    latest-none lane.first lane.headway lane.count c.saturating_sub.result c.from.result c.event.result c.from.ensures c.saturating_sub.ensures c.event.ensures c.in-None.is
