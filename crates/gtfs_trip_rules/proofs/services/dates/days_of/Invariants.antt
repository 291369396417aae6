use Rattle.std.proofs.Common.{◌≡◌, map, take}
use Rattle.gtfs_trip_rules.proofs.services.dates.days_of.Given as goal

-- the days so far
abbrev pub invariant-loop-exception : goal.invariant-loop-exception
invariant-loop-exception l = l.days.items ≡ map (λ e. e.0) (take l.exception-index l.exceptions)
