use Rattle.std.proofs.Common.{◌≡◌, ◌∙◌, Bool, true, false, ap, sym, refl, arith}
use Rattle.std.specs.Prelude.{◌&&◌}
use Rattle.std.proofs.lemmas.List.{length-map}
use Rattle.gtfs_rows.proofs.NumberFacts.{trip_route, trip_service}
use Rattle.gtfs_rows.proofs.TripFacts.{stop_times}
use Rattle.gtfs_merge.specs.Renaming.{route_b, service_b, stop_b}
use Rattle.gtfs_merge.specs.SameByNumber.{same_frequencies_in, same_stop_rows_in}
use Rattle.gtfs_merge.specs.MergedSides.{content_a, content_b, nearness_of}
use Rattle.gtfs_merge.specs.declared.kind.Kind.TheVariants as kind
use Rattle.gtfs_merge.proofs.JoinedNames.{joined-length}
use Rattle.gtfs_merge.proofs.JoinedTrips.{route-meets, service-meets, trip-same}
use Rattle.gtfs_merge.proofs.joining.trips.is_joined_trip.Goals as goal

pub is_route_joined_with-route-requires : goal.is_route_joined_with-route-requires
is_route_joined_with-route-requires c =
    omega (
      arith,
      trip_route c.args.sides.now.b.now c.soundness.ensures.b c.args.trip.0 c.trip_by_number-second.result.now c.trip_by_number-second.ensures,
      joined-length (λ n. n.0) kind.Route c.args.sides.now c.args.routes.now c.requires.routes,
      length-map c.args.sides.now.b.now.routes (λ r. r.route_id),
    )

pub is_service_joined_with-service-requires : goal.is_service_joined_with-service-requires
is_service_joined_with-service-requires c =
    omega (
      arith,
      trip_service c.args.sides.now.b.now c.soundness.ensures.b c.args.trip.0 c.trip_by_number-second.result.now c.trip_by_number-second.ensures,
      joined-length (λ n. n.0) kind.Service c.args.sides.now c.args.services.now c.requires.services,
      length-map c.args.sides.now.b.now.services (λ r. r.service_id),
    )

and-none : (r : Bool) → (r && false) ≡ false
and-none true = refl
and-none false = refl

and-all : (r : Bool) → (r && true) ≡ r
and-all true = refl
and-all false = refl

pub are_same_stop_times-requires : goal.are_same_stop_times-requires
are_same_stop_times-requires c = record {
  stops = c.requires.stops;
  rows_a = stop_times c.args.sides.now.a.now c.soundness.ensures.a c.args.other.0 c.trip_rows-rows_a.result.now c.trip_rows-rows_a.ensures;
  rows_b = stop_times c.args.sides.now.b.now c.soundness.ensures.b c.args.trip.0 c.trip_rows-rows_b.result.now c.trip_rows-rows_b.ensures;
}

pub returns-then-not-is_same_trip : goal.returns-then-not-is_same_trip
returns-then-not-is_same_trip c s t at_s at_t =
    let sides = c.args.sides.now in
    let fine_a = c.soundness.ensures.a in
    let fine_b = c.soundness.ensures.b in
    let m = c.args.other.0 in
    let k = c.args.trip.0 in
    let x = c.trip_by_number-first.result.now in
    let y = c.trip_by_number-second.result.now in
    let xs = c.trip_rows-rows_a.result.now in
    let ys = c.trip_rows-rows_b.result.now in
    let us = c.trip_frequencies-periods_a.result.now in
    let vs = c.trip_frequencies-periods_b.result.now in
    let routes = route_b (content_a sides) (content_b sides) in
    let services = service_b (content_a sides) (content_b sides) in
    let stops = stop_b (nearness_of sides) (content_a sides) (content_b sides) in
    let route = route-meets sides fine_a fine_b (λ n. n.0) c.args.routes.now c.requires.routes (c.soundness.ensures.few kind.Route) x y
    (trip_route sides.a.now fine_a m x c.trip_by_number-first.ensures) (trip_route sides.b.now fine_b k y c.trip_by_number-second.ensures) _ c.is_route_joined_with-route.ensures in
    let service = service-meets sides fine_a fine_b (λ n. n.0) c.args.services.now c.requires.services (c.soundness.ensures.few kind.Service) x y
    (trip_service sides.a.now fine_a m x c.trip_by_number-first.ensures) (trip_service sides.b.now fine_b k y c.trip_by_number-second.ensures) _ c.is_service_joined_with-service.ensures in
    let told = c.is_same_trip.ensures sides.a.now sides.b.now routes services stops xs ys us vs route service in
    trip-same sides fine_a fine_b m k x y xs ys us vs s t c.trip_by_number-first.ensures c.trip_rows-rows_a.ensures c.trip_frequencies-periods_a.ensures
    c.trip_by_number-second.ensures c.trip_rows-rows_b.ensures c.trip_frequencies-periods_b.ensures at_s at_t routes services stops _
    (told ∙ ap (λ r. r && same_stop_rows_in sides.a.now sides.b.now stops xs ys && same_frequencies_in us vs) c.if-not-is_same_trip.true)

pub returns-then-not-are_same_frequencies : goal.returns-then-not-are_same_frequencies
returns-then-not-are_same_frequencies c s t at_s at_t =
    let sides = c.args.sides.now in
    let fine_a = c.soundness.ensures.a in
    let fine_b = c.soundness.ensures.b in
    let m = c.args.other.0 in
    let k = c.args.trip.0 in
    let x = c.trip_by_number-first.result.now in
    let y = c.trip_by_number-second.result.now in
    let xs = c.trip_rows-rows_a.result.now in
    let ys = c.trip_rows-rows_b.result.now in
    let us = c.trip_frequencies-periods_a.result.now in
    let vs = c.trip_frequencies-periods_b.result.now in
    let routes = route_b (content_a sides) (content_b sides) in
    let services = service_b (content_a sides) (content_b sides) in
    let stops = stop_b (nearness_of sides) (content_a sides) (content_b sides) in
    let route = route-meets sides fine_a fine_b (λ n. n.0) c.args.routes.now c.requires.routes (c.soundness.ensures.few kind.Route) x y
    (trip_route sides.a.now fine_a m x c.trip_by_number-first.ensures) (trip_route sides.b.now fine_b k y c.trip_by_number-second.ensures) _ c.is_route_joined_with-route.ensures in
    let service = service-meets sides fine_a fine_b (λ n. n.0) c.args.services.now c.requires.services (c.soundness.ensures.few kind.Service) x y
    (trip_service sides.a.now fine_a m x c.trip_by_number-first.ensures) (trip_service sides.b.now fine_b k y c.trip_by_number-second.ensures) _ c.is_service_joined_with-service.ensures in
    let told = c.is_same_trip.ensures sides.a.now sides.b.now routes services stops xs ys us vs route service in
    trip-same sides fine_a fine_b m k x y xs ys us vs s t c.trip_by_number-first.ensures c.trip_rows-rows_a.ensures c.trip_frequencies-periods_a.ensures
    c.trip_by_number-second.ensures c.trip_rows-rows_b.ensures c.trip_frequencies-periods_b.ensures at_s at_t routes services stops _
    (told ∙ (λ i. c.if-not-is_same_trip.false i && same_stop_rows_in sides.a.now sides.b.now stops xs ys && (sym c.are_same_frequencies.ensures ∙ c.if-not-are_same_frequencies.true) i) ∙ and-none _)

pub returns : goal.returns
returns c s t at_s at_t =
    let sides = c.args.sides.now in
    let fine_a = c.soundness.ensures.a in
    let fine_b = c.soundness.ensures.b in
    let m = c.args.other.0 in
    let k = c.args.trip.0 in
    let x = c.trip_by_number-first.result.now in
    let y = c.trip_by_number-second.result.now in
    let xs = c.trip_rows-rows_a.result.now in
    let ys = c.trip_rows-rows_b.result.now in
    let us = c.trip_frequencies-periods_a.result.now in
    let vs = c.trip_frequencies-periods_b.result.now in
    let routes = route_b (content_a sides) (content_b sides) in
    let services = service_b (content_a sides) (content_b sides) in
    let stops = stop_b (nearness_of sides) (content_a sides) (content_b sides) in
    let route = route-meets sides fine_a fine_b (λ n. n.0) c.args.routes.now c.requires.routes (c.soundness.ensures.few kind.Route) x y
    (trip_route sides.a.now fine_a m x c.trip_by_number-first.ensures) (trip_route sides.b.now fine_b k y c.trip_by_number-second.ensures) _ c.is_route_joined_with-route.ensures in
    let service = service-meets sides fine_a fine_b (λ n. n.0) c.args.services.now c.requires.services (c.soundness.ensures.few kind.Service) x y
    (trip_service sides.a.now fine_a m x c.trip_by_number-first.ensures) (trip_service sides.b.now fine_b k y c.trip_by_number-second.ensures) _ c.is_service_joined_with-service.ensures in
    let told = c.is_same_trip.ensures sides.a.now sides.b.now routes services stops xs ys us vs route service in
    trip-same sides fine_a fine_b m k x y xs ys us vs s t c.trip_by_number-first.ensures c.trip_rows-rows_a.ensures c.trip_frequencies-periods_a.ensures
    c.trip_by_number-second.ensures c.trip_rows-rows_b.ensures c.trip_frequencies-periods_b.ensures at_s at_t routes services stops _
    (told ∙ (λ i. c.if-not-is_same_trip.false i && sym c.are_same_stop_times.ensures i && (sym c.are_same_frequencies.ensures ∙ c.if-not-are_same_frequencies.false) i) ∙ and-all _)
