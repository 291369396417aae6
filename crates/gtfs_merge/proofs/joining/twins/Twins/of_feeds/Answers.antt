use Rattle.std.proofs.Common.{◌∙◌}
use Rattle.gtfs_merge.proofs.TwinKinds.{agency-twins, route-twins, service-twins, trip-twins}
use Rattle.gtfs_merge.proofs.joining.twins.Twins.of_feeds.Goals as goal

pub returns : goal.returns
returns c =
    let sides = c.args.sides.now in
    let sound_a = c.soundness.ensures.a in
    let sound_b = c.soundness.ensures.b in
    let few = c.soundness.ensures.few in
    λ i. record {
      agencies = (c.in_ok-agencies.ensures ∙ agency-twins sides sound_a sound_b few) i;
      stops = c.in_ok-stops.ensures i;
      routes = (c.in_ok-routes.ensures ∙ route-twins sides sound_a sound_b few) i;
      services = (c.in_ok-services.ensures ∙ service-twins sides sound_a sound_b few) i;
      trips = (c.in_ok-trips.ensures ∙ trip-twins sides sound_a sound_b few) i;
      joined_stops = c.in_ok-joined_stops.ensures i;
    }
