use Rattle.gtfs_merge.proofs.NamesFacts.{each-kind}
use Rattle.gtfs_merge.proofs.names.Names.of_kinds.Goals as goal

pub returns : goal.returns
returns c = record {
  kinds = each-kind c.args.sides.now (record {
    agencies = c.in_ok-agencies.agencies;
    stops = c.in_ok-stops.stops;
    routes = c.in_ok-routes.routes;
    services = c.in_ok-services.services;
    trips = c.in_ok-trips.trips;
    near = c.in_ok-near.near.items;
  }) c.in_ok-agencies.ensures c.in_ok-stops.ensures c.in_ok-routes.ensures c.in_ok-services.ensures c.in_ok-trips.ensures;
  near = c.in_ok-near.ensures;
}
