use Rattle.std.proofs.Common.{◌∙◌, ap}
use Rattle.gtfs_merge.specs.NewNumbers.{numbers_of}
use Rattle.gtfs_merge.specs.Transfers.{renumbered_transfer}
use Rattle.gtfs_merge.proofs.rows.transfers.renumbered.Goals as goal

pub returns : goal.returns
returns c =
    let t = c.args.transfer.now in
    let stops = c.numbers-stops.ensures ∙ ap (λ m. numbers_of m.stops.numbers c.args.side) c.kinds.view_is in
    let routes = c.numbers-routes.ensures ∙ ap (λ m. numbers_of m.routes.numbers c.args.side) c.kinds.view_is in
    let trips = c.numbers-trips.ensures ∙ ap (λ m. numbers_of m.trips.numbers c.args.side) c.kinds.view_is in
    (λ i. record t {
      from_stop_id = c.new_stop.ensures i;
      to_stop_id = c.new_stop-2.ensures i;
      from_route_id = c.new_route.ensures i;
      to_route_id = c.new_route-2.ensures i;
      from_trip_id = c.new_trip.ensures i;
      to_trip_id = c.new_trip-2.ensures i;
    })
    ∙ (λ i. renumbered_transfer (stops i) (routes i) (trips i) t)
