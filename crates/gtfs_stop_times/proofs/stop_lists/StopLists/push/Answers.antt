use Rattle.std.proofs.Common.{◌≡◌, ◌∙◌, ◌++◌, ◌∷◌, [], ap, arith, length, length-append, map}
use Rattle.gtfs_stop_times.specs.StopTimesByTrip.{items_in}
use Rattle.gtfs_stop_times.specs.StopLists.{stops_in}
use Rattle.gtfs_stop_times.proofs.StopListFacts.{one-more-list}
use Rattle.gtfs_stop_times.proofs.stop_lists.StopLists.push.Goals as goal

pub returns : goal.returns
returns c =
    let old = c.self.inside.stops.items in
    let ranges = c.self.inside.ranges.items in
    let more = stops_in c.args.rows.now in
    let is : c.len-start.result ≡ length old = omega (arith, c.len-start.ensures, c.self.inside.stops.ok) in
    let ends : c.len-end.result ≡ length (old ++ more) = omega (arith, c.len-end.ensures, c.push_stops.new.stops.ok, length-append old more, ap length c.in_ok-push_stops.ensures.pushed) in
    (λ i. map (items_in (c.in_ok-push_stops.ensures.pushed i)) (c.in_ok-push.ensures.items i))
    ∙ one-more-list old more ranges c.len-start.result c.len-end.result c.self.invariant is ends
    ∙ ap (λ l. l ++ more ∷ []) c.self.view_is
