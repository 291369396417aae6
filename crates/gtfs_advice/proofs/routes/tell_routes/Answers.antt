use Rattle.std.proofs.Common.{true, false, subst}
use Rattle.std.specs.Prelude.{OnOk}
use Rattle.gtfs_rows.specs.RowsInMemory.{content_of_parts}
use Rattle.gtfs_advice.specs.Advice.{Tells, route_advice}
use Rattle.gtfs_advice.proofs.RouteFacts.{lent}
use Rattle.gtfs_advice.proofs.routes.tell_routes.Goals as goal

pub tell_each-requires-clause-directed : goal.tell_each-requires-clause-directed
tell_each-requires-clause-directed c =
    lent c.parts-parts.result.now true c.len-routes.result c.as_slice-trips.result.now c.in_ok-directed.directed.items c.deref.result.now c.len-routes.ensures c.as_slice-trips.ensures c.deref.ensures.value c.in_ok-directed.ensures

pub tell_each-requires-clause-undirected : goal.tell_each-requires-clause-undirected
tell_each-requires-clause-undirected c =
    lent c.parts-parts.result.now false c.len-routes.result c.as_slice-trips.result.now c.in_ok-undirected.undirected.items c.deref-2.result.now c.len-routes.ensures c.as_slice-trips.ensures c.deref-2.ensures.value
    c.in_ok-undirected.ensures

pub returns : goal.returns
returns c =
    subst (λ p. OnOk c.tell_each.result (Tells p (route_advice (content_of_parts p)) c.args.told.now.items c.tell_each.new.told.items)) c.parts-parts.ensures.value c.tell_each.ensures
