use Rattle.gtfs_runs.proofs.Grouping.{are-patterns}
use Rattle.gtfs_runs.proofs.pattern.patterns.Goals as goal

pub returns : goal.returns
returns c =
    are-patterns c.args.feed.now c.args.route.0 _ _ _ c.in_ok-headed_trips.ensures c.sorted-trips.ensures.same c.sorted-trips.ensures.in_order
    c.in_ok-found.ensures.told c.in_ok-found.ensures.groups
