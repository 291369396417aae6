use Rattle.std.proofs.Common.{rules, ◌++◌, w32, w64, SFits, to_z, arith, refl, ◌∙◌, ap}
use Rattle.std.specs.Prelude.{pos, ◌+ℤ◌, ◌≤ℤ◌}
use Rattle.std.specs.Option.{option_to_list}
use Rattle.std.proofs.Math.Nat.{le_refl}
use Rattle.std.proofs.lemmas.Int.{to_z-of_z, ints}
use Rattle.gtfs_days.specs.Service.{first_service_day, last_service_day, service_days}
use Rattle.gtfs_runs.proofs.Pushes.{none-made}
use Rattle.gtfs_board.specs.UpcomingDays.{count_of, events_of}
use Rattle.gtfs_board.specs.upcoming.Candidates.{least_from}
use Rattle.gtfs_board.proofs.Ints.{after_within, day_after, days_left, le_chain, up_more}
use Rattle.gtfs_board.proofs.KnownDays.{known}
use Rattle.gtfs_board.proofs.ServiceDays.{day_listed}
use Rattle.gtfs_board.proofs.Waiting.{aside_later}
use Rattle.gtfs_board.proofs.Gathers.{gathered_first, gathered_more, steps_few_more}
use Rattle.gtfs_board.proofs.upcoming.gathering.gather.Goals as goal

pub loop-fresh-init : goal.loop-fresh-init
loop-fresh-init c =
    let s = c.args.days.now in
    let waiting = c.least_waiting-waiting.result in
    let least = c.least_with-least.result in
    let end_fits : SFits w64 s.end = search rules in
    let waiting_fits : SFits w64 waiting = search rules in
    let least_fits : SFits w64 least = search rules in
    let day_is = to_z-of_z w32 c.args.day c.ranges.day in
    let least_is = to_z-of_z w64 least least_fits in
    let waits = to_z-of_z w64 waiting waiting_fits ∙ c.least_waiting-waiting.ensures ∙ ap (λ e. least_from e c.args.queue.now) (to_z-of_z w64 s.end end_fits) in
    let r = gathered_first (events_of s) c.args.floor.now s.end c.args.queue.now _ c.args.head c.args.day _ _
    c.requires.heads c.requires.within c.new-fresh.ensures.items waits c.least_with-least.ensures in
    record {
      gathered = rw (day_is, least_is) r.0;
      up = omega (arith, ints);
      to = rw day_is c.requires.to;
      steps = λ low from. rw (least_is, r.1) (le_refl _);
    }

pub open_day-requires-clause-from : goal.open_day-requires-clause-from
open_day-requires-clause-from c = le_chain first_service_day c.args.day (to_z w32 c.loop-fresh.day-bits) c.requires.from (rw (to_z-of_z w32 c.args.day c.ranges.day) at c.loop-fresh.invariant.up)

pub open_day-requires-clause-aside : goal.open_day-requires-clause-aside
open_day-requires-clause-aside c = aside_later c.args.floor.now c.args.day (to_z w32 c.loop-fresh.day-bits) (count_of c.args.days.now) (rw (to_z-of_z w32 c.args.day c.ranges.day) at c.loop-fresh.invariant.up) c.requires.aside

pub next_day-day-requires : goal.next_day-day-requires
next_day-day-requires c =
    let day = to_z w32 c.loop-fresh.day-bits in
    let from = le_chain first_service_day c.args.day day c.requires.from (rw (to_z-of_z w32 c.args.day c.ranges.day) at c.loop-fresh.invariant.up) in
    let in_time = (c.loop-fresh-test.ensures.due (search rules)).0 in
    rw (day_after day from in_time) (after_within day last_service_day in_time)

pub loop-fresh-smaller : goal.loop-fresh-smaller
loop-fresh-smaller c =
    let day = to_z w32 c.loop-fresh.day-bits in
    let next_day = c.next_day-day.result in
    let next_fits : SFits w32 next_day = search rules in
    let from = le_chain first_service_day c.args.day day c.requires.from (rw (to_z-of_z w32 c.args.day c.ranges.day) at c.loop-fresh.invariant.up) in
    let in_time = (c.loop-fresh-test.ensures.due (search rules)).0 in
    let up : (day +ℤ pos 1) ≤ℤ next_day = rw (day_after day from in_time) at c.next_day-day.ensures.up in
    rw (to_z-of_z w32 next_day next_fits) (days_left last_service_day day next_day up c.next_day-day.ensures.within)

pub loop-fresh-preserved : goal.loop-fresh-preserved
loop-fresh-preserved c =
    let s = c.args.days.now in
    let due = c.loop-fresh-test.ensures.due (search rules) in
    let next = c.next_day-day.ensures in
    let step = c.in_ok-least.ensures in
    let i = c.loop-fresh.invariant in
    let day = to_z w32 c.loop-fresh.day-bits in
    let mark = to_z w64 c.loop-fresh.least-bits in
    let next_day = c.next_day-day.result in
    let falls = c.in_ok-least.least in
    let next_fits : SFits w32 next_day = search rules in
    let falls_fits : SFits w64 falls = search rules in
    let next_is = to_z-of_z w32 next_day next_fits in
    let falls_is = to_z-of_z w64 falls falls_fits in
    let day_is = to_z-of_z w32 c.args.day c.ranges.day in
    let since = rw day_is at i.up in
    let from = le_chain first_service_day c.args.day day c.requires.from since in
    let plus = day_after day from due.0 in
    let up : (day +ℤ pos 1) ≤ℤ next_day = rw plus at next.up in
    let skips = rw plus at next.skips in
    let waiting = c.args.queue.now ++ option_to_list c.args.head in
    let more = gathered_more ((known s).lanes) c.args.floor.now s.end waiting c.loop-fresh.fresh.items c.open_day.new.fresh.items day next_day mark falls i.gathered due.1 step.heads step.least up skips in
    let few = rw day_is at i.steps in
    let steps = steps_few_more last_service_day day next_day mark falls service_days (count_of s) _ _ _ c.args.day (least_from s.end waiting) few (day_listed day from due.0) since due.0 up more.1 more.2 step.steps in
    record {
      gathered = rw (next_is, falls_is) more.0;
      up = rw next_is (up_more _ day next_day i.up up);
      to = rw next_is next.within;
      steps = rw (next_is, falls_is, day_is) steps;
    }

pub returns-clause-stopped : goal.returns-clause-stopped
returns-clause-stopped c = c.loop-fresh-test.ensures.stopped refl

pub returns-clause-steps : goal.returns-clause-steps
returns-clause-steps c = rw (to_z-of_z w32 c.args.day c.ranges.day) at c.loop-fresh.invariant.steps

pub returns-in_err-least : goal.returns-in_err-least
returns-in_err-least c =
    let r = c.from_residual.result in
    let refused = c.from_residual.ensures.1 in
    record { gathered = none-made r _ _ refused; stopped = none-made r _ _ refused; range = none-made r _ _ refused; steps = none-made r _ _ refused }
