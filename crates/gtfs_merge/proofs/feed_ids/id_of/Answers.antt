use Rattle.std.proofs.Common.{◌∙◌, [], ap, get_or, sym}
use Rattle.gtfs_merge.specs.FeedIds.{known_ids}
use Rattle.gtfs_merge.proofs.JoinedKinds.{id-at}
use Rattle.gtfs_merge.proofs.feed_ids.id_of.Goals as goal

pub returns-in-Agency : goal.returns-in-Agency
returns-in-Agency c =
    c.as_str.ensures ∙ sym (id-at (λ r. r.agency_id) c.args.feed.now.agencies c.args.number c.agency_by_number.result.now c.agency_by_number.ensures)
    ∙ ap (λ k. get_or (known_ids k c.args.feed.now) c.args.number []) (sym c.in-Agency.is)

pub returns-in-Stop : goal.returns-in-Stop
returns-in-Stop c =
    c.as_str-in-Stop.ensures ∙ sym (id-at (λ r. r.stop_id) c.args.feed.now.stops c.args.number c.stop_by_number.result.now c.stop_by_number.ensures)
    ∙ ap (λ k. get_or (known_ids k c.args.feed.now) c.args.number []) (sym c.in-Stop.is)

pub returns-in-Route : goal.returns-in-Route
returns-in-Route c =
    c.as_str-in-Route.ensures ∙ sym (id-at (λ r. r.route_id) c.args.feed.now.routes c.args.number c.route_by_number.result.now c.route_by_number.ensures)
    ∙ ap (λ k. get_or (known_ids k c.args.feed.now) c.args.number []) (sym c.in-Route.is)

pub returns-in-Trip : goal.returns-in-Trip
returns-in-Trip c =
    c.as_str-in-Trip.ensures ∙ sym (id-at (λ r. r.trip_id) c.args.feed.now.trips c.args.number c.trip_by_number.result.now c.trip_by_number.ensures)
    ∙ ap (λ k. get_or (known_ids k c.args.feed.now) c.args.number []) (sym c.in-Trip.is)
