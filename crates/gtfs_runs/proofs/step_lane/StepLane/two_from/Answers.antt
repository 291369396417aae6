use Rattle.std.proofs.Common.{◌≡◌, to_z, of_z, to_z-of_z, w64}
use Rattle.gtfs_runs.proofs.Runs.{first-from}
use Rattle.gtfs_runs.proofs.step_lane.StepLane.two_from.Goals as goal

pub returns : goal.returns
returns c = λ test is.
    let lane = c.args.self.now in
    let at : to_z w64 (of_z w64 c.args.at) ≡ c.args.at = to_z-of_z c.ranges.at in
    rw (c.event.ensures, c.event-2.ensures)
    (first-from lane.first lane.headway lane.count c.runs_before-runs.result c.args.at test lane.moves (rw at at c.runs_before-runs.ensures.below) (rw at at c.runs_before-runs.ensures.from) is)
