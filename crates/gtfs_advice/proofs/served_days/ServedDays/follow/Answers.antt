use Rattle.std.proofs.Common.{◌≤ℤ◌, refl, sym}
use Rattle.std.proofs.lemmas.Bool.{and_parts}
use Rattle.std.specs.Prelude.{int_le}
use Rattle.gtfs_field.proofs.NumberFacts.{int_le-true, int_lt-false}
use Rattle.gtfs_days.specs.Service.{first_service_day, is_active, last_service_day}
use Rattle.gtfs_advice.specs.declared.served_days.ServedDays.{ServedDays}
use Rattle.gtfs_advice.proofs.KnownDays.{goes_on_part, known_after}
use Rattle.gtfs_advice.proofs.served_days.ServedDays.follow.Goals as goal

pub returns-clause-known : goal.returns-clause-known
returns-clause-known c served services part quiet known =
    let due = c.args.due in
    let until = c.args.self.now.until in
    let after = c.day_after_season-self.result in
    let active = is_active c.args.service.now in
    let runs = part due c.requires.active in
    let service = int_le-true due last_service_day (and_parts (int_le first_service_day due) (int_le due last_service_day) (services due runs)).1 in
    let up : until ≤ℤ due = int_lt-false due until (sym c.if-is_before.ensures) in
    let new : ServedDays = record { until = after; gaps = c.note_gap.new.self.gaps } in
    known_after served due after (goes_on_part active served due after part c.day_after_season-self.ensures.goes_on) runs
    until known.from quiet c.args.self.now new refl known services up service refl c.in_ok-note_gap.ensures.gaps
