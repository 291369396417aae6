use Rattle.std.proofs.Common.{◌∙◌, ap}
use Rattle.gtfs_runs.specs.StopLanes.{period_value}
use Rattle.gtfs_runs.specs.steps.LatestOfLists.{latest_of}
use Rattle.gtfs_runs.proofs.Latest.{latest_more}
use Rattle.gtfs_runs.proofs.stop_lanes.latest.latest_of_periods.Goals as goal

pub loop-lane-preserved : goal.loop-lane-preserved
loop-lane-preserved c =
    let xs = c.args.periods.now in
    let n = c.loop-lane.lane-index in
    let d = c.lane-item.result in
    latest_more period_value xs n d c.loop-lane.latest c.max-latest.result c.latest.result c.loop-lane-test.true c.loop-lane.invariant
    (c.latest.ensures ∙ ap (λ x. latest_of (period_value x).events) c.lane-item.is) c.max-latest.ensures
