use Rattle.gtfs_runs.specs.StopLanes.{filled_value, list_value, period_value}
use Rattle.gtfs_board.proofs.LanesByNumber.{filled-within, is_filled}
use Rattle.gtfs_board.proofs.service_days.Days.lane.Goals as goal

pub returns : goal.returns
returns c =
    is_filled c.args.self.now.lanes c.args.lane list_value c.lists-lists.result.now c.lists-lists.ensures period_value c.periods-periods.result.now c.periods-periods.ensures
    c.if-lane-lists.false filled_value c.filled.result.now c.filled.ensures c.if-past-periods.false c.index-filled-past.result
    (filled-within c.args.self.now.lanes c.args.lane list_value c.lists-lists.result.now c.lists-lists.ensures period_value c.periods-periods.result.now c.periods-periods.ensures
    c.if-lane-lists.false filled_value c.filled.result.now c.filled.ensures c.if-past-periods.false c.requires)
    c.index-filled-past.is
