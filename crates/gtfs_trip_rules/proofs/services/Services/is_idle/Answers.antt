use Rattle.std.proofs.Common.{map}
use Rattle.gtfs_trip_rules.specs.ServiceFields.{exception_in}
use Rattle.gtfs_trip_rules.proofs.DayFacts.{names_once, taken_once}
use Rattle.gtfs_trip_rules.proofs.services.Services.is_idle.Goals as goal

pub is_never_active-requires-clause-once : goal.is_never_active-requires-clause-once
is_never_active-requires-clause-once c = rw c.deref.ensures.value (names_once c.in-Some-2.exceptions.items
    (taken_once (exception_in c.args.self.now.tables.now c.args.self.now.dates) (map (λ r. r.1) c.args.dates.now) c.in-Some-2.exceptions.items (rw c.in-Some-2.is at c.in_ok-exceptions.ensures)))
