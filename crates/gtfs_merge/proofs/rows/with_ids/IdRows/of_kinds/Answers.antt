use Rattle.std.proofs.Common.{subst, sym}
use Rattle.gtfs_merge.specs.KindEntries.{AreMergedKinds}
use Rattle.gtfs_merge.specs.declared.kind.Kind.TheVariants as kind
use Rattle.gtfs_merge.proofs.rows.with_ids.IdRows.of_kinds.Goals as goal

pub merged_agencies-requires : goal.merged_agencies-requires
merged_agencies-requires c = subst (AreMergedKinds c.args.sides.now) (sym c.kinds.view_is) c.requires kind.Agency

pub merged_stops-requires : goal.merged_stops-requires
merged_stops-requires c = subst (AreMergedKinds c.args.sides.now) (sym c.kinds.view_is) c.requires kind.Stop

pub merged_routes-requires-clause-routes : goal.merged_routes-requires-clause-routes
merged_routes-requires-clause-routes c = subst (AreMergedKinds c.args.sides.now) (sym c.kinds.view_is) c.requires kind.Route

pub merged_routes-requires-clause-agencies : goal.merged_routes-requires-clause-agencies
merged_routes-requires-clause-agencies c = subst (AreMergedKinds c.args.sides.now) (sym c.kinds.view_is) c.requires kind.Agency

pub merged_services-requires : goal.merged_services-requires
merged_services-requires c = subst (AreMergedKinds c.args.sides.now) (sym c.kinds.view_is) c.requires kind.Service

pub merged_trips-requires-clause-trips : goal.merged_trips-requires-clause-trips
merged_trips-requires-clause-trips c = subst (AreMergedKinds c.args.sides.now) (sym c.kinds.view_is) c.requires kind.Trip

pub merged_trips-requires-clause-routes : goal.merged_trips-requires-clause-routes
merged_trips-requires-clause-routes c = subst (AreMergedKinds c.args.sides.now) (sym c.kinds.view_is) c.requires kind.Route

pub merged_trips-requires-clause-services : goal.merged_trips-requires-clause-services
merged_trips-requires-clause-services c = subst (AreMergedKinds c.args.sides.now) (sym c.kinds.view_is) c.requires kind.Service

pub returns : goal.returns
returns c = record {
  agencies = c.in_ok-agencies.ensures;
  stops = c.in_ok-stops.ensures.rows;
  routes = c.in_ok-routes.ensures.rows;
  services = c.in_ok-services.ensures;
  trips = c.in_ok-trips.ensures.rows;
  parents = c.in_ok-stops.ensures.parents;
  route_agencies = c.in_ok-routes.ensures.agencies;
  trip_references = c.in_ok-trips.ensures.references;
}
