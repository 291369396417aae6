use Rattle.gtfs_runs.proofs.ChildFacts.{child_added, child_passed}
use Rattle.gtfs_runs.proofs.stop_index.children.add_child.Goals as goal

pub returns-in_default : goal.returns-in_default
returns-in_default c = λ s n. child_passed c.args.feed.now c.args.stop.0 c.parent_of.result c.args.found.now.items c.parent_of.ensures c.in_default.is s n

pub returns : goal.returns
returns c = λ s n.
    child_added c.args.feed.now c.args.stop.0 c.parent_of.result c.in-Some.parent c.args.found.now.items _ c.in_ok-child.child c.parent_of.ensures c.in-Some.is c.in_ok-child.ensures c.in_ok-push.ensures.items s n
