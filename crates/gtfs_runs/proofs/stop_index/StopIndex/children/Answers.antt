use Rattle.std.proofs.Common.{◌≡◌, ◌∙◌, ◌==◌, length, cond, ap, arith}
use Rattle.gtfs_runs.specs.Tallies.{tally}
use Rattle.gtfs_runs.specs.StopIndex.{StopIndexValue}
use Rattle.gtfs_runs.specs.steps.Children.{is_child}
use Rattle.gtfs_runs.proofs.ChildFacts.{own_children}
use Rattle.gtfs_runs.proofs.stop_index.StopIndex.children.Goals as goal

pub of-requires-clause-stop : goal.of-requires-clause-stop
of-requires-clause-stop c =
    let size : c.stop_count.result ≡ length c.args.self.now.feed.stops = c.stop_count.ensures ∙ ap (λ (v : StopIndexValue). length v.feed.stops) c.self.view_is in
    omega (arith, size, c.requires)

pub of-requires-clause-sorted : goal.of-requires-clause-sorted
of-requires-clause-sorted c = c.self.invariant.children.in_order

pub returns : goal.returns
returns c = λ n.
    ap (tally (λ x. n == x.stop)) c.of.ensures
    ∙ own_children c.self.inside.feed.now c.self.inside.children c.args.stop.0 c.self.invariant.children n
    ∙ ap (λ (v : StopIndexValue). cond (is_child v.feed c.args.stop.0 n) 1 0) c.self.view_is
