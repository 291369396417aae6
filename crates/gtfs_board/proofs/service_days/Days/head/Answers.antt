use Rattle.std.proofs.Common.{w32, w64, ◌∙◌, ap, find}
use Rattle.std.proofs.lemmas.Int.{to_z-of_z}
use Rattle.gtfs_runs.specs.EventOrder.{is_above_moment}
use Rattle.gtfs_runs.specs.StopLanes.{LaneValue}
use Rattle.gtfs_board.specs.LaneDays.{lane_at}
use Rattle.gtfs_board.proofs.LaneDays.{head_found, kept_none, kept_some, origin_small}
use Rattle.gtfs_board.proofs.service_days.Days.head.Goals as goal

pub departing-requires-clause-low : goal.departing-requires-clause-low
departing-requires-clause-low c =
    rw (to_z-of_z w64 c.args.origin c.ranges.origin) (origin_small c.args.self.now.feed.now (lane_at c.args.self.now.lanes c.args.lane).service c.args.self.now.zone.now c.args.day c.args.origin c.requires.runs c.requires.origin).0

pub departing-requires-clause-high : goal.departing-requires-clause-high
departing-requires-clause-high c =
    rw (to_z-of_z w64 c.args.origin c.ranges.origin) (origin_small c.args.self.now.feed.now (lane_at c.args.self.now.lanes c.args.lane).service c.args.self.now.zone.now c.args.day c.args.origin c.requires.runs c.requires.origin).1

pub returns-in-Some-clause-first : goal.returns-in-Some-clause-first
returns-in-Some-clause-first c =
    let s = c.args.self.now in
    let stands = rw (to_z-of_z w64 c.args.origin c.ranges.origin, to_z-of_z w32 c.args.day c.ranges.day) at c.moment_from-moment.ensures in
    let found = c.first_above.ensures.first ∙ ap (λ (l : LaneValue). find (is_above_moment c.moment_from-moment.result) l.events) c.lane.ensures in
    let first = head_found s.feed.now s.zone.now s.lanes s.end s.ascending s.timely c.args.lane c.args.day c.args.origin c.args.floor.now c.moment_from-moment.result c.first_above.result
    c.requires.inside c.requires.runs c.requires.origin c.requires.aside stands found in
    let departs = rw (to_z-of_z w64 c.args.origin c.ranges.origin, to_z-of_z w32 c.args.day c.ranges.day) at c.departing.ensures in
    kept_some s.end c.args.origin c.args.day c.args.lane c.first_above.result c.in-Some.event c.departing.result _ _ first c.in-Some.is departs c.by_end.ensures

pub returns-in-None-clause-first : goal.returns-in-None-clause-first
returns-in-None-clause-first c =
    let s = c.args.self.now in
    let stands = rw (to_z-of_z w64 c.args.origin c.ranges.origin, to_z-of_z w32 c.args.day c.ranges.day) at c.moment_from-moment.ensures in
    let found = c.first_above.ensures.first ∙ ap (λ (l : LaneValue). find (is_above_moment c.moment_from-moment.result) l.events) c.lane.ensures in
    let first = head_found s.feed.now s.zone.now s.lanes s.end s.ascending s.timely c.args.lane c.args.day c.args.origin c.args.floor.now c.moment_from-moment.result c.first_above.result
    c.requires.inside c.requires.runs c.requires.origin c.requires.aside stands found in
    kept_none s.end c.args.origin c.args.day c.args.lane c.first_above.result _ first c.in-None.is
