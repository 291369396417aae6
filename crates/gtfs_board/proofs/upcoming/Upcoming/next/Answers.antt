use Rattle.std.proofs.Common.{rules, ◌++◌, ◌∷◌, w32, SFits, refl, sym, ◌∙◌, ap, inl, inr}
use Rattle.std.specs.Prelude.{◌≤ℤ◌}
use Rattle.std.specs.Option.{option_to_list}
use Rattle.std.proofs.lemmas.Int.{to_z-of_z}
use Rattle.gtfs_days.specs.Service.{last_service_day}
use Rattle.gtfs_board.specs.Board.{low_mark}
use Rattle.gtfs_board.specs.upcoming.Candidates.{instant_or_end}
use Rattle.gtfs_board.proofs.Ints.{le_chain}
use Rattle.gtfs_board.proofs.KnownDays.{known}
use Rattle.gtfs_board.proofs.Waiting.{first_of_rest, first_opened, head_ends, joined, none_of_rest, queued, stands, steps_taken, still_from, taken}
use Rattle.gtfs_board.proofs.Window.{each_in}
use Rattle.gtfs_board.proofs.upcoming.Upcoming.next.Goals as goal

pub returns-in-None-clause-first : goal.returns-in-None-clause-first
returns-in-None-clause-first c =
    let i = c.self.inside in
    let none = none_of_rest (known i.days) i.floor i.others i.day (rw c.in-None.is at c.self.invariant.waiting) in
    rw (← c.self.view_is) (none, none)

pub returns-in-None-clause-queued : goal.returns-in-None-clause-queued
returns-in-None-clause-queued c =
    let i = c.self.inside in
    rw (← c.self.view_is) (queued (known i.days) i.floor i.first i.others i.day i.start i.steps c.self.invariant.waiting)

pub after-head-requires : goal.after-head-requires
after-head-requires c =
    let i = c.self.inside in
    let w = rw c.in-Some.is at c.self.invariant.waiting in
    (head_ends (known i.days) i.floor (c.in-Some.first ∷ i.others) i.day w.heads c.in-Some.first (inl refl)).0

pub gather-requires-clause-aside : goal.gather-requires-clause-aside
gather-requires-clause-aside c =
    let i = c.self.inside in
    let w = rw c.in-Some.is at c.self.invariant.waiting in
    let fits : SFits w32 i.day = search rules in
    rw (to_z-of_z w32 i.day fits) (inl (first_opened (known i.days) i.floor (c.in-Some.first ∷ i.others) i.day w.heads c.in-Some.first (inl refl)))

pub gather-requires-clause-ended : goal.gather-requires-clause-ended
gather-requires-clause-ended c =
    let i = c.self.inside in
    let w = rw c.in-Some.is at c.self.invariant.waiting in
    each_in (λ x. x.instant ≤ℤ i.days.end) i.others (λ x there. (head_ends (known i.days) i.floor (c.in-Some.first ∷ i.others) i.day w.heads x (inr there)).1)

pub gather-requires-clause-heads : goal.gather-requires-clause-heads
gather-requires-clause-heads c =
    let i = c.self.inside in
    let w = rw c.in-Some.is at c.self.invariant.waiting in
    let fits : SFits w32 i.day = search rules in
    rw (to_z-of_z w32 i.day fits) (taken (known i.days) i.floor c.in-Some.first i.others i.day c.after-head.result w c.after-head.ensures.next).0

pub gather-requires-clause-within : goal.gather-requires-clause-within
gather-requires-clause-within c =
    let i = c.self.inside in
    let w = rw c.in-Some.is at c.self.invariant.waiting in
    (taken (known i.days) i.floor c.in-Some.first i.others i.day c.after-head.result w c.after-head.ensures.next).2

pub returns-in_err-gathered-clause-queued : goal.returns-in_err-gathered-clause-queued
returns-in_err-gathered-clause-queued c =
    let i = c.self.inside in
    queued (known i.days) i.floor i.first i.others i.day i.start _ c.self.invariant.waiting

pub returns-clause-first : goal.returns-clause-first
returns-clause-first c =
    let i = c.self.inside in
    rw (← c.self.view_is) (first_of_rest (known i.days) i.floor c.in-Some.first i.others i.day (rw c.in-Some.is at c.self.invariant.waiting))

pub returns-in_err-self-inside-clause-queued : goal.returns-in_err-self-inside-clause-queued
returns-in_err-self-inside-clause-queued c =
    let i = c.self.inside in
    rw c.in_err-self-inside.ensures.kept (queued (known i.days) i.floor i.first i.others i.day i.start _ c.self.invariant.waiting)

pub invariant_of-self-2 : goal.invariant_of-self-2
invariant_of-self-2 c =
    let i = c.self.inside in
    let old = c.self.invariant in
    let got = c.in_ok-gathered.ensures in
    let j = c.in_ok-self-inside.ensures in
    let day = c.in_ok-gathered.gathered.day in
    let day_fits : SFits w32 day = search rules in
    let old_fits : SFits w32 i.day = search rules in
    let up = rw (to_z-of_z w32 i.day old_fits) at got.range.0 in
    let r = joined (known i.days) c.in-Some.first (i.others ++ option_to_list c.after-head.result) c.in_ok-gathered.gathered.fresh.items c.join.new.self c.in_ok-self-inside.field-0 day c.in_ok-gathered.gathered.least
    got.gathered got.stopped j.counts j.first in
    rw (to_z-of_z w32 day day_fits) (record {
      waiting = r.0;
      low_in = still_from _ last_service_day i.day day old.low_in up;
      from_in = le_chain _ i.day day old.from_in up;
      to_in = got.range.1;
    })

pub returns-clause-queued : goal.returns-clause-queued
returns-clause-queued c =
    let i = c.self.inside in
    let got = c.in_ok-gathered.ensures in
    let j = c.in_ok-self-inside.ensures in
    let day = c.in_ok-gathered.gathered.day in
    let r = joined (known i.days) c.in-Some.first (i.others ++ option_to_list c.after-head.result) c.in_ok-gathered.gathered.fresh.items c.join.new.self c.in_ok-self-inside.field-0 day c.in_ok-gathered.gathered.least
    got.gathered got.stopped j.counts j.first in
    queued (known i.days) c.in-Some.first c.in_ok-self-inside.field-0 c.join.new.self day _ _ r.0

pub returns-clause-steps : goal.returns-clause-steps
returns-clause-steps c =
    let i = c.self.inside in
    let got = c.in_ok-gathered.ensures in
    let j = c.in_ok-self-inside.ensures in
    let first = c.in-Some.first in
    let day = c.in_ok-gathered.gathered.day in
    let least = c.in_ok-gathered.gathered.least in
    let low = low_mark i.days.lanes.greatest i.start in
    let old_fits : SFits w32 i.day = search rules in
    let r = joined (known i.days) first (i.others ++ option_to_list c.after-head.result) c.in_ok-gathered.gathered.fresh.items c.join.new.self c.in_ok-self-inside.field-0 day least
    got.gathered got.stopped j.counts j.first in
    let old_is = (stands (known i.days) i.floor i.first i.others i.day c.self.invariant.waiting).1 ∙ ap (instant_or_end i.days.end) c.in-Some.is in
    let new_is = (stands (known i.days) first c.in_ok-self-inside.field-0 c.join.new.self day r.0).1 ∙ sym r.1 in
    let w = rw c.in-Some.is at c.self.invariant.waiting in
    let t = taken (known i.days) i.floor first i.others i.day c.after-head.result w c.after-head.ensures.next in
    let few = rw (to_z-of_z w32 i.day old_fits) at got.steps in
    rw (← c.self.view_is) (steps_taken (known i.days) low i.day day first.instant least _ _ _ _ c.after-head.new.steps c.gather.new.steps old_is new_is w.stopped t.1 (few low c.self.invariant.low_in) c.after-head.ensures.steps)
