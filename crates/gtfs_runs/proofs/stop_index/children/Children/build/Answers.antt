use Rattle.gtfs_runs.proofs.ChildFacts.{are-children}
use Rattle.gtfs_runs.proofs.stop_index.children.Children.build.Goals as goal

pub returns : goal.returns
returns c = are-children c.args.feed.now _ _ c.in_ok-by_parent.ensures c.sort_unstable.ensures.permutation c.sort_unstable.ensures.sorted
