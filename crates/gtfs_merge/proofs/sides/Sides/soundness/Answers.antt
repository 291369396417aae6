use Rattle.std.proofs.Common.{arith}
use Rattle.std.proofs.lemmas.List.{length-map}
use Rattle.gtfs_merge.specs.declared.kind.Kind.TheVariants as kind
use Rattle.gtfs_merge.proofs.JoinedKinds.{few-known}
use Rattle.gtfs_merge.proofs.sides.Sides.soundness.Goals as goal

pub returns-clause-few : goal.returns-clause-few
returns-clause-few c kind.Agency = few-known kind.Agency c.args.self.now c.soundness.ensures c.soundness-2.ensures
    (omega (arith, c.agency_count.ensures, c.agency_count.type_inv, length-map c.args.self.now.a.now.agencies (λ r. r.agency_id)))
    (omega (arith, c.agency_count-2.ensures, c.agency_count-2.type_inv, length-map c.args.self.now.b.now.agencies (λ r. r.agency_id)))
returns-clause-few c kind.Stop = few-known kind.Stop c.args.self.now c.soundness.ensures c.soundness-2.ensures
    (omega (arith, c.stop_count.ensures, c.stop_count.type_inv, length-map c.args.self.now.a.now.stops (λ r. r.stop_id)))
    (omega (arith, c.stop_count-2.ensures, c.stop_count-2.type_inv, length-map c.args.self.now.b.now.stops (λ r. r.stop_id)))
returns-clause-few c kind.Route = few-known kind.Route c.args.self.now c.soundness.ensures c.soundness-2.ensures
    (omega (arith, c.route_count.ensures, c.route_count.type_inv, length-map c.args.self.now.a.now.routes (λ r. r.route_id)))
    (omega (arith, c.route_count-2.ensures, c.route_count-2.type_inv, length-map c.args.self.now.b.now.routes (λ r. r.route_id)))
returns-clause-few c kind.Service = few-known kind.Service c.args.self.now c.soundness.ensures c.soundness-2.ensures
    (omega (arith, c.service_count.ensures, c.service_count.type_inv, length-map c.args.self.now.a.now.services (λ r. r.service_id)))
    (omega (arith, c.service_count-2.ensures, c.service_count-2.type_inv, length-map c.args.self.now.b.now.services (λ r. r.service_id)))
returns-clause-few c kind.Trip = few-known kind.Trip c.args.self.now c.soundness.ensures c.soundness-2.ensures
    (omega (arith, c.trip_count.ensures, c.trip_count.type_inv, length-map c.args.self.now.a.now.trips (λ r. r.trip_id)))
    (omega (arith, c.trip_count-2.ensures, c.trip_count-2.type_inv, length-map c.args.self.now.b.now.trips (λ r. r.trip_id)))
