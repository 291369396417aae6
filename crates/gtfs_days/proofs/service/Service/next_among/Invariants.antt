use Rattle.std.proofs.Common.{ℤ, drop}
use Rattle.gtfs_days.proofs.ActiveDays.{IsLeft}
use Rattle.gtfs_days.proofs.service.Service.next_among.Given as goal

abbrev pub invariant-loop-day : goal.invariant-loop-day
invariant-loop-day l = (low : ℤ) × IsLeft l.self.week l.exceptions l.from low (drop l.day-index l.exceptions) l.regular
