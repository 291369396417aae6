use Rattle.std.proofs.Common.{◌∙◌, ℤ, subst}
use Rattle.gtfs_days.specs.Service.{first_service_day, is_active, IsFirstIfAny, ServiceDates}
use Rattle.gtfs_trip_rules.proofs.IdleFacts.{first_moved, idle_is, none_is}
use Rattle.gtfs_trip_rules.proofs.services.idle.is_never_active.Goals as goal

pub returns : goal.returns
returns c =
    let s : ServiceDates = record { week = c.args.week; exceptions = c.args.exceptions.now } in
    none_is c.next_active.result c.is_none.result c.is_none.ensures ∙ idle_is s c.next_active.result
    (first_moved s c.in_ok-service.service first_service_day c.next_active.result c.in_ok-service.ensures.week c.in_ok-service.ensures.exceptions (subst (λ (d : ℤ). IsFirstIfAny (is_active c.in_ok-service.service) d c.next_active.result) c.from_number-first.ensures c.next_active.ensures))
