use Rattle.std.proofs.Common.{◌∙◌, ap, bytes_eq, sym}
use Rattle.std.specs.Prelude.{position}
use Rattle.gtfs_merge.specs.FeedIds.{known_ids}
use Rattle.gtfs_merge.proofs.feed_ids.number_of.Goals as goal

pub returns-in-Agency : goal.returns-in-Agency
returns-in-Agency c = c.agency_number.ensures ∙ c.agency.ensures ∙ ap (λ k. position (bytes_eq c.args.id.now) (known_ids k c.args.feed.now)) (sym c.in-Agency.is)

pub returns-in-Stop : goal.returns-in-Stop
returns-in-Stop c = c.stop_number.ensures ∙ c.stop.ensures ∙ ap (λ k. position (bytes_eq c.args.id.now) (known_ids k c.args.feed.now)) (sym c.in-Stop.is)

pub returns-in-Route : goal.returns-in-Route
returns-in-Route c = c.route_number.ensures ∙ c.route.ensures ∙ ap (λ k. position (bytes_eq c.args.id.now) (known_ids k c.args.feed.now)) (sym c.in-Route.is)

pub returns-in-Service : goal.returns-in-Service
returns-in-Service c = c.service_number.ensures ∙ c.service.ensures ∙ ap (λ k. position (bytes_eq c.args.id.now) (known_ids k c.args.feed.now)) (sym c.in-Service.is)

pub returns-in-Trip : goal.returns-in-Trip
returns-in-Trip c = c.trip_number.ensures ∙ c.trip.ensures ∙ ap (λ k. position (bytes_eq c.args.id.now) (known_ids k c.args.feed.now)) (sym c.in-Trip.is)
