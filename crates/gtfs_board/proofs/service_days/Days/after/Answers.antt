use Rattle.std.proofs.Common.{rules, ◌≡◌, ◌∙◌, refl, sym, ap, subst, find, length, pos, negsuc, w32, w64, SFits}
use Rattle.std.specs.Prelude.{◌≤ℤ◌}
use Rattle.std.proofs.lemmas.Int.{to_z-of_z}
use Rattle.gtfs_days.specs.Zone.{zone_origin}
use Rattle.gtfs_runs.specs.EventOrder.{is_later}
use Rattle.gtfs_runs.specs.StopLanes.{LaneValue}
use Rattle.gtfs_board.specs.LaneDays.{departing, lane_at}
use Rattle.gtfs_board.proofs.LaneDays.{after_found, after_inside, after_origin, after_single, kept_none, kept_some}
use Rattle.gtfs_board.proofs.service_days.Days.after.Goals as goal

pub lane-requires : goal.lane-requires
lane-requires c = let s = c.args.self.now in after_inside s.feed.now s.zone.now s.lanes s.end c.args.departure.now c.requires

pub returns-then-is_single-clause-next : goal.returns-then-is_single-clause-next
returns-then-is_single-clause-next c =
    let s = c.args.self.now in
    let one = ap (λ (l : LaneValue). length l.events) (sym c.lane.ensures) ∙ c.is_single.ensures (search rules) in
    after_single s.feed.now s.zone.now s.lanes s.end c.args.departure.now c.requires one

pub overflow_sub-origin : goal.overflow_sub-origin
overflow_sub-origin c =
    let s = c.args.self.now in
    let instant_fits : SFits w64 c.args.departure.now.instant = search rules in
    let from_fits : SFits w64 c.from.result = search rules in
    (after_origin s.feed.now s.zone.now s.lanes s.end c.args.departure.now c.from.result c.requires c.from.ensures instant_fits from_fits).0

pub lane-lane-requires : goal.lane-lane-requires
lane-lane-requires c = let s = c.args.self.now in after_inside s.feed.now s.zone.now s.lanes s.end c.args.departure.now c.requires

pub departing-requires-clause-low : goal.departing-requires-clause-low
departing-requires-clause-low c =
    let s = c.args.self.now in
    let instant_fits : SFits w64 c.args.departure.now.instant = search rules in
    let from_fits : SFits w64 c.from.result = search rules in
    let made = (after_origin s.feed.now s.zone.now s.lanes s.end c.args.departure.now c.from.result c.requires c.from.ensures instant_fits from_fits).1 in
    subst (λ x. negsuc 999_999_999_999 ≤ℤ x) (sym made.0) made.1.0

pub departing-requires-clause-high : goal.departing-requires-clause-high
departing-requires-clause-high c =
    let s = c.args.self.now in
    let instant_fits : SFits w64 c.args.departure.now.instant = search rules in
    let from_fits : SFits w64 c.from.result = search rules in
    let made = (after_origin s.feed.now s.zone.now s.lanes s.end c.args.departure.now c.from.result c.requires c.from.ensures instant_fits from_fits).1 in
    subst (λ x. x ≤ℤ pos 999_999_999_999) (sym made.0) made.1.1

pub returns-in-Some-clause-next : goal.returns-in-Some-clause-next
returns-in-Some-clause-next c =
    let s = c.args.self.now in
    let departure = c.args.departure.now in
    let o = zone_origin s.zone.now departure.day in
    let instant_fits : SFits w64 departure.instant = search rules in
    let from_fits : SFits w64 c.from.result = search rules in
    let day_fits : SFits w32 departure.day = search rules in
    let origin_is = (after_origin s.feed.now s.zone.now s.lanes s.end departure c.from.result c.requires c.from.ensures instant_fits from_fits).1.0 in
    let found = c.next.ensures.next ∙ ap (λ (l : LaneValue). find (is_later c.event_of.result) l.events) c.lane-lane.ensures ∙ ap (λ e. find (is_later e) (lane_at s.lanes departure.lane).events) c.event_of.ensures in
    let first = after_found s.feed.now s.zone.now s.lanes s.end s.ascending departure o c.next.result c.requires refl found in
    let departs : c.departing.result ≡ departing o departure.day departure.lane c.in-Some.event =
    c.departing.ensures ∙ (let day_is = to_z-of_z w32 departure.day day_fits in λ i. departing (origin_is i) (day_is i) departure.lane c.in-Some.event) in
    kept_some s.end o departure.day departure.lane c.next.result c.in-Some.event c.departing.result _ _ first c.in-Some.is departs c.by_end.ensures

pub returns-in-None-clause-next : goal.returns-in-None-clause-next
returns-in-None-clause-next c =
    let s = c.args.self.now in
    let departure = c.args.departure.now in
    let o = zone_origin s.zone.now departure.day in
    let found = c.next.ensures.next ∙ ap (λ (l : LaneValue). find (is_later c.event_of.result) l.events) c.lane-lane.ensures ∙ ap (λ e. find (is_later e) (lane_at s.lanes departure.lane).events) c.event_of.ensures in
    let first = after_found s.feed.now s.zone.now s.lanes s.end s.ascending departure o c.next.result c.requires refl found in
    kept_none s.end o departure.day departure.lane c.next.result _ first c.in-None.is
