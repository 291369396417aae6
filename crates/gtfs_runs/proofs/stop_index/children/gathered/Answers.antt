use Rattle.std.proofs.Common.{◌≤◌, ◌<◌, ◌∙◌, length, cond, ap, arith}
use Rattle.gtfs_runs.specs.Tallies.{tally}
use Rattle.gtfs_runs.specs.steps.Children.{is_child, is_pair}
use Rattle.gtfs_runs.proofs.ChildFacts.{child_within}
use Rattle.gtfs_runs.proofs.Tallies.{all_trips, more_trips, no_trips}
use Rattle.gtfs_runs.proofs.stop_index.children.gathered.Goals as goal

pub loop-number-init : goal.loop-number-init
loop-number-init c = λ s n. ap (tally (is_pair s n)) c.new-found.ensures.items ∙ no_trips n (is_child c.args.feed.now s n)

pub loop-number-preserved : goal.loop-number-preserved
loop-number-preserved c = λ s n.
    more_trips n c.loop-number.number (is_child c.args.feed.now s n) _ _ (c.loop-number.invariant s n) (c.in_ok-add_child.ensures s n)

pub returns : goal.returns
returns c = λ s n.
    let p = c.args.feed.now in
    let k = c.loop-number.number in
    let past : length p.stops ≤ k = omega (arith, c.stop_count-number-end.ensures) in
    c.loop-number.invariant s n
    ∙ ap (λ b. cond b 1 0) (all_trips n k (is_child p s n)
    (λ holds. let known : n < length p.stops = child_within p s n holds in omega (arith, known, past)))
