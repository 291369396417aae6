use Rattle.std.proofs.Common.{rules, ◌≡◌, ◌≤◌, ◌+◌, ◌-◌, ◌++◌, w32, w64, SFits, to_z, of_z, refl, ap, subst, arith, append-nil, ◌∙◌, sym, find, None}
use Rattle.std.proofs.lemmas.Int.{to_z-of_z}
use Rattle.gtfs_days.specs.Zone.{zone_origin}
use Rattle.gtfs_runs.proofs.Pushes.{none-done, none-made}
use Rattle.gtfs_board.specs.UpcomingDays.{count_of, events_of, serves_in}
use Rattle.gtfs_board.specs.upcoming.Candidates.{candidate_lt, heads_on, least_from}
use Rattle.gtfs_board.proofs.Days.{heads_on-none, least_from-none, opened_more, least_more}
use Rattle.gtfs_board.proofs.LaneDays.{on-idle}
use Rattle.gtfs_board.proofs.upcoming.gathering.ask_lanes.Goals as goal

pub loop-lane-init : goal.loop-lane-init
loop-lane-init c = record {
  heads = rw (heads_on-none, append-nil) c.reserve.ensures.items;
  least = rw (heads_on-none, least_from-none) refl;
  serves = λ some. absurd (omega (arith, some));
  steps = omega arith;
}

pub loop-lane-preserved : goal.loop-lane-preserved
loop-lane-preserved c =
    let i = c.loop-lane.invariant in
    let first = c.head-head.ensures.first in
    let kept = c.in_ok-least.ensures in
    let before : c.loop-lane.lane ≡ (c.loop-lane.lane + 1) - 1 = omega arith in
    record {
      heads = opened_more _ _ _ _ _ _ _ _ kept.heads i.heads first;
      least = let fits : SFits w64 c.in_ok-least.least = search rules in to_z-of_z w64 c.in_ok-least.least fits ∙ least_more _ _ _ _ _ _ _ _ kept.least i.least first;
      serves = λ some. c.serves-serves.ensures ∙ ap (λ n. serves_in c.args.days.now n (to_z w32 (of_z w32 c.args.day))) before;
      steps = omega (arith, c.head-head.ensures.steps);
    }

pub loop-lane-preserved-then-not-serves : goal.loop-lane-preserved-then-not-serves
loop-lane-preserved-then-not-serves c =
    let s = c.args.days.now in
    let i = c.loop-lane.invariant in
    let day = to_z w32 (of_z w32 c.args.day) in
    let idle = on-idle s.feed.now (zone_origin s.zone.now) s.lanes s.end c.loop-lane.lane day (sym c.serves-serves.ensures ∙ c.if-not-serves.true) in
    let none : None ≡ find (candidate_lt c.args.floor.now) (events_of s c.loop-lane.lane day) = sym (ap (find (candidate_lt c.args.floor.now)) idle) in
    let before : c.loop-lane.lane ≡ (c.loop-lane.lane + 1) - 1 = omega arith in
    record {
      heads = opened_more _ _ _ _ _ _ _ None (sym (append-nil _)) i.heads none;
      least = least_more _ _ _ _ _ _ _ None (sym (least_from-none _)) i.least none;
      serves = λ some. c.serves-serves.ensures ∙ ap (λ n. serves_in s n day) before;
      steps = omega (arith, i.steps);
    }

pub returns-in_err-least : goal.returns-in_err-least
returns-in_err-least c =
    let r = c.from_residual-in_err-least.result in
    let refused = c.from_residual-in_err-least.ensures.1 in
    record { heads = none-done r _ _ refused; least = none-made r _ _ refused; steps = none-done r _ _ refused }

pub returns : goal.returns
returns c =
    let i = c.loop-lane.invariant in
    let heads = heads_on (events_of c.args.days.now) c.args.floor.now c.args.day in
    let all : c.loop-lane.lane ≡ count_of c.args.days.now = omega (arith, c.count-lane-end.ensures, c.loop-lane-test.false, c.loop-lane.auto.lane-end) in
    let day_is = to_z-of_z w32 c.args.day c.ranges.day in
    let least_is = to_z-of_z w64 c.args.least c.ranges.least in
    record {
      heads = (rw day_is at i.heads) ∙ ap (λ n. c.args.fresh.now.items ++ heads n) all;
      least = (rw (day_is, least_is) at i.least) ∙ ap (λ n. least_from c.args.least (heads n)) all;
      steps = subst (λ n. c.loop-lane.steps ≤ c.args.steps.now + n) all i.steps;
    }
