use Rattle.std.proofs.Common.{rules, ◌++◌, [], w32, w64, SFits, sym, ◌∙◌, None}
use Rattle.std.specs.Option.{option_to_list}
use Rattle.std.proofs.lemmas.Int.{to_z-of_z}
use Rattle.gtfs_days.specs.Service.{first_service_day, last_service_day}
use Rattle.gtfs_runs.proofs.Pushes.{none-made}
use Rattle.gtfs_board.specs.Board.{low_mark}
use Rattle.gtfs_board.specs.UpcomingDays.{count_of}
use Rattle.gtfs_board.specs.upcoming.Candidates.{least_from}
use Rattle.gtfs_board.proofs.Ints.{le_chain}
use Rattle.gtfs_board.proofs.KnownDays.{known}
use Rattle.gtfs_board.proofs.Waiting.{aside_later, joined, queued, stands, steps_opened, still_from}
use Rattle.gtfs_board.proofs.upcoming.Upcoming.open.Goals as goal

pub gather-requires-clause-heads : goal.gather-requires-clause-heads
gather-requires-clause-heads c =
    let fits : SFits w32 c.first_due-day.result = search rules in
    rw (c.new-others.ensures, to_z-of_z w32 c.first_due-day.result fits) c.first_due-day.ensures.heads

pub gather-requires-clause-aside : goal.gather-requires-clause-aside
gather-requires-clause-aside c =
    let fits : SFits w32 c.first_due-day.result = search rules in
    rw (to_z-of_z w32 c.first_due-day.result fits) (aside_later c.args.floor first_service_day c.first_due-day.result (count_of c.args.days) c.first_due-day.ensures.from c.requires.aside)

pub invariant_of-result : goal.invariant_of-result
invariant_of-result c =
    let due = c.first_due-day in
    let got = c.in_ok-gathered.ensures in
    let j = c.in_ok-first.ensures in
    let day = c.in_ok-gathered.gathered.day in
    let day_fits : SFits w32 day = search rules in
    let due_fits : SFits w32 due.result = search rules in
    let instant_fits : SFits w64 c.args.floor.instant = search rules in
    let up = rw (to_z-of_z w32 due.result due_fits) at got.range.0 in
    let r = joined (known c.args.days) c.args.floor (c.new-others.result ++ []) c.in_ok-gathered.gathered.fresh.items c.join.new.self c.in_ok-first.first day c.in_ok-gathered.gathered.least
    got.gathered got.stopped j.counts j.first in
    rw (to_z-of_z w32 day day_fits, to_z-of_z w64 c.args.floor.instant instant_fits) (record {
      waiting = r.0;
      low_in = still_from _ last_service_day due.result day due.ensures.low up;
      from_in = le_chain first_service_day due.result day due.ensures.from up;
      to_in = got.range.1;
    })

pub returns-clause-queued : goal.returns-clause-queued
returns-clause-queued c =
    let got = c.in_ok-gathered.ensures in
    let j = c.in_ok-first.ensures in
    let day = c.in_ok-gathered.gathered.day in
    let r = joined (known c.args.days) c.args.floor (c.new-others.result ++ []) c.in_ok-gathered.gathered.fresh.items c.join.new.self c.in_ok-first.first day c.in_ok-gathered.gathered.least
    got.gathered got.stopped j.counts j.first in
    queued (known c.args.days) c.args.floor c.in_ok-first.first c.join.new.self day _ _ r.0

pub returns-clause-steps : goal.returns-clause-steps
returns-clause-steps c =
    let floor = c.args.floor in
    let due = c.first_due-day in
    let got = c.in_ok-gathered.ensures in
    let j = c.in_ok-first.ensures in
    let day = c.in_ok-gathered.gathered.day in
    let least = c.in_ok-gathered.gathered.least in
    let due_fits : SFits w32 due.result = search rules in
    let instant_fits : SFits w64 floor.instant = search rules in
    let r = joined (known c.args.days) floor (c.new-others.result ++ []) c.in_ok-gathered.gathered.fresh.items c.join.new.self c.in_ok-first.first day least
    got.gathered got.stopped j.counts j.first in
    let at = (stands (known c.args.days) floor c.in_ok-first.first c.join.new.self day r.0).1 ∙ sym r.1 in
    let few = rw (to_z-of_z w32 due.result due_fits) at got.steps in
    let mark = least_from c.args.days.end (c.new-others.result ++ option_to_list None) in
    rw (to_z-of_z w64 floor.instant instant_fits)
    (steps_opened (known c.args.days) (low_mark c.args.days.lanes.greatest floor.instant) least _ due.result mark day _ c.gather.new.steps due.ensures.low few at)

pub returns-in_err-gathered : goal.returns-in_err-gathered
returns-in_err-gathered c =
    let r = c.from_residual.result in
    let refused = c.from_residual.ensures.1 in
    record { rest = none-made r _ _ refused; queued = none-made r _ _ refused; settings = none-made r _ _ refused; steps = none-made r _ _ refused }

pub returns-in_err-first : goal.returns-in_err-first
returns-in_err-first c =
    let r = c.from_residual-in_err-first.result in
    let refused = c.from_residual-in_err-first.ensures.1 in
    record { rest = none-made r _ _ refused; queued = none-made r _ _ refused; settings = none-made r _ _ refused; steps = none-made r _ _ refused }
