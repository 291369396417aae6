use Rattle.gtfs_nearby.proofs.Listing.{listed-moved}
use Rattle.gtfs_nearby.proofs.listed.listed_stops.Goals as goal

pub returns-clause-all : goal.returns-clause-all
returns-clause-all c =
    let stops = c.args.stops.now in
    listed-moved stops c.ranked_by_lon.result.items c.in_order.result.items c.in_order.ensures.same (c.ranked_by_lon.ensures stops (c.ranked_by_lat.ensures stops c.in_ok-listed.ensures))
