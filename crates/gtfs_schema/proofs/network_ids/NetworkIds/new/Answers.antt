use Rattle.gtfs_schema.proofs.network_ids.NetworkIds.new.Goals as goal

pub returns : goal.returns
returns c = record {
  agencies = c.in_ok-agencies.ensures;
  stops = c.in_ok-stops.ensures;
  routes = c.in_ok-routes.ensures;
  trips = c.in_ok-trips.ensures;
}
