use Rattle.gtfs_runs.proofs.FlatOrder.{are-events}
use Rattle.gtfs_runs.proofs.flat.flat_events.Goals as goal

pub returns : goal.returns
returns c = are-events c.args.times c.args.feed.now c.soundness.ensures c.args.stop.0 _ _ c.in_ok-events.ensures c.sort_unstable.ensures.permutation c.sort_unstable.ensures.sorted
