use Rattle.std.proofs.Common.{◌∙◌, ap}
use Rattle.gtfs_runs.specs.StopLanes.{list_value}
use Rattle.gtfs_runs.specs.steps.LatestOfLists.{latest_of}
use Rattle.gtfs_runs.proofs.Latest.{latest_more}
use Rattle.gtfs_runs.proofs.stop_lanes.latest.latest_of_lists.Goals as goal

pub loop-lane-preserved : goal.loop-lane-preserved
loop-lane-preserved c =
    let xs = c.args.lists.now in
    let n = c.loop-lane.lane-index in
    let d = c.lane-item.result in
    latest_more list_value xs n d c.loop-lane.latest c.max-latest.result c.latest.result c.loop-lane-test.true c.loop-lane.invariant
    (c.latest.ensures ∙ ap (λ x. latest_of (list_value x).events) c.lane-item.is) c.max-latest.ensures
