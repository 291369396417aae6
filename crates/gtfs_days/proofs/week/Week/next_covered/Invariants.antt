use Rattle.std.proofs.Common.{◌≡◌, ℕ, ◌<◌, false, get_or, pos, ◌+ℤ◌}
use Rattle.jiff_core.specs.Calendar.{weekday_number}
use Rattle.gtfs_days.proofs.week.Week.next_covered.Given as goal

abbrev pub invariant-loop-ahead : goal.invariant-loop-ahead
invariant-loop-ahead l = (k : ℕ) → k < l.ahead → get_or l.self.days (weekday_number (l.first +ℤ pos k)) false ≡ false
