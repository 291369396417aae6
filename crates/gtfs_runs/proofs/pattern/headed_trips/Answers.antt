use Rattle.std.proofs.Common.{◌≡◌, ◌∙◌, length, map, filter, ap, arith}
use Rattle.std.specs.List.{range_with_len}
use Rattle.gtfs_runs.specs.Patterns.{entry_of, is_of_route}
use Rattle.gtfs_runs.proofs.Grouping.{trips-more}
use Rattle.gtfs_runs.proofs.pattern.headed_trips.Goals as goal

pub loop-number-preserved : goal.loop-number-preserved
loop-number-preserved c =
    trips-more (is_of_route c.args.feed.now c.args.route.0) (entry_of c.args.feed.now) c.loop-number.number _ _ c.loop-number.invariant c.in_ok-push_trip.ensures

pub returns : goal.returns
returns c =
    let p = c.args.feed.now in
    let all : c.loop-number.number ≡ length p.trips = omega (arith, c.trip_count-number-end.ensures, c.loop-number-test.false, c.loop-number.auto.number-end) in
    c.loop-number.invariant ∙ ap (λ n. map (entry_of p) (filter (is_of_route p c.args.route.0) (range_with_len 0 n))) all
