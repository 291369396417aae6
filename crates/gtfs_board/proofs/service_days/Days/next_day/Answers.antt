use Rattle.std.proofs.Common.{rules, ◌≡◌, ◌≤◌, length, w32, SFits, to_z, arith, ◌∙◌, ap}
use Rattle.std.specs.Int.{int_min}
use Rattle.std.proofs.lemmas.Int.{ints, clamps, to_z-of_z}
use Rattle.gtfs_days.specs.Zone.{zone_origin}
use Rattle.gtfs_runs.specs.StopLanes.{lanes_of}
use Rattle.gtfs_board.proofs.LaneDays.{idle_more, skip_all}
use Rattle.gtfs_board.proofs.service_days.Days.next_day.Goals as goal

pub loop-lane-preserved : goal.loop-lane-preserved
loop-lane-preserved c =
    let s = c.args.self.now in
    let i = c.loop-lane.invariant in
    let first = to_z w32 c.loop-lane.first-bits in
    let next = c.next_active.result in
    let min_fits : SFits w32 c.min-first.result = search rules in
    let next_fits : SFits w32 next = search rules in
    let day_is = to_z-of_z w32 c.args.day c.ranges.day in
    let next_is = to_z-of_z w32 next next_fits in
    let min_is = to_z-of_z w32 c.min-first.result min_fits in
    let least : c.min-first.result ≡ int_min first next = c.min-first.ensures.value ∙ ap (int_min first) next_is in
    let active = rw day_is at c.next_active.ensures in
    let old = rw day_is at i in
    rw (day_is, min_is) (record {
      up = omega (arith, ints, clamps, least, old.up, active.up);
      within = omega (arith, ints, clamps, least, old.within, active.within);
      idle = idle_more s.feed.now s.lanes c.args.day first c.min-first.result next c.loop-lane.lane least old.idle active.skips;
    })

pub returns-clause-skips : goal.returns-clause-skips
returns-clause-skips c =
    let s = c.args.self.now in
    let past : length (lanes_of s.lanes) ≤ c.loop-lane.lane = search rules in
    let day_is = to_z-of_z w32 c.args.day c.ranges.day in
    skip_all s.feed.now (zone_origin s.zone.now) s.lanes s.end c.args.day _ c.loop-lane.lane past (rw day_is at c.loop-lane.invariant.idle)
