use Rattle.std.proofs.Common.{length, map, sym, subst}
use Rattle.gtfs_times.specs.TimedRows.{timed_parts}
use Rattle.gtfs_runs.specs.StopLanes.{period_value}
use Rattle.gtfs_runs.specs.steps.FoundEvents.{AreFound}
use Rattle.gtfs_runs.proofs.GroupFacts.{trips_listed}
use Rattle.gtfs_runs.proofs.stop_lanes.lanes.lanes_of_feed.Goals as goal

pub numbered-requires : goal.numbered-requires
numbered-requires c =
    let p = c.args.feed.now in
    trips_listed p (timed_parts c.args.times p) c.in_ok-found.found.listed.items (c.in_ok-found.ensures.found c.args.stop.0 c.in_ok-place.ensures).told.own

pub lanes_of_events-requires-clause-found : goal.lanes_of_events-requires-clause-found
lanes_of_events-requires-clause-found c =
    let p = c.args.feed.now in
    subst (λ l. AreFound (timed_parts c.args.times p) c.args.stop.0 (length p.trips) l (map period_value c.in_ok-found.found.periods.items)) (sym (c.in_ok-listed.ensures.same p))
    (c.in_ok-found.ensures.found c.args.stop.0 c.in_ok-place.ensures)

pub lanes_of_events-requires-clause-services : goal.lanes_of_events-requires-clause-services
lanes_of_events-requires-clause-services c = c.in_ok-listed.ensures.services c.args.feed.now c.in_ok-found.ensures.services
