use Rattle.gtfs_runs.proofs.Pushes.{none-made}
use Rattle.gtfs_runs.proofs.stop_lanes.StopLanes.build.Goals as goal

pub returns-in_err-lists : goal.returns-in_err-lists
returns-in_err-lists c =
    let r = c.from_residual.result in
    let refused = c.from_residual.ensures.1 in
    record { lanes = none-made r _ _ refused; kinds = none-made r _ _ refused; greatest = none-made r _ _ refused; steps = none-made r _ _ refused }
