use Rattle.std.proofs.Common.{◌<ℤ◌, ◌+ℤ◌, pos, int_lt, ap, sym, ◌∙◌}
use Rattle.gtfs_field.proofs.NumberFacts.{int_lt-true}
use Rattle.gtfs_days.specs.Service.{is_active}
use Rattle.gtfs_advice.proofs.KnownDays.{goes_on_part, known_near}
use Rattle.gtfs_advice.proofs.served_days.ServedDays.catch_up.Goals as goal

pub returns-then-is_before-clause-known : goal.returns-then-is_before-clause-known
returns-then-is_before-clause-known c served part known =
    let day = c.in-Some.day in
    let after = c.day_after_season-self.result in
    let near : day <ℤ (c.args.self.now.until +ℤ pos 14) =
    int_lt-true day (c.args.self.now.until +ℤ pos 14) (ap (int_lt day) (sym c.days_after.ensures) ∙ sym c.if-is_before.ensures) in
    known_near served day after (goes_on_part (is_active c.args.service.now) served day after part c.day_after_season-self.ensures.goes_on)
    (part day c.in-Some.ensures.passes) c.args.self.now known c.in-Some.ensures.not_before near
