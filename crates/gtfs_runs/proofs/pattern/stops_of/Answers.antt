use Rattle.gtfs_runs.proofs.Pushes.{mapped-all, pushed-more}
use Rattle.gtfs_runs.proofs.pattern.stops_of.Goals as goal

pub loop-row-preserved : goal.loop-row-preserved
loop-row-preserved c =
    pushed-more (λ row. row.stop_id) c.args.stop_times.now c.loop-row.row-index c.row-item.result _ _ _ c.loop-row-test.true c.row-item.is
    c.loop-row.invariant c.in_ok-push.ensures.items (λ i. c.row-item.result.stop_id)

pub returns : goal.returns
returns c = mapped-all (λ row. row.stop_id) c.args.stop_times.now c.loop-row.row-index _ c.loop-row-test.false c.loop-row.invariant
