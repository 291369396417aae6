use Rattle.std.proofs.Common.{◌≡◌, ◌++◌, map, take}
use Rattle.gtfs_advice.specs.ServedDays.{gap_said}
use Rattle.gtfs_advice.proofs.days_without_service.tell_gaps.Given as goal

abbrev pub invariant-loop-day : goal.invariant-loop-day
invariant-loop-day l = l.told.items ≡ l.fn.told.items ++ map gap_said (take l.day-index l.day-items)
