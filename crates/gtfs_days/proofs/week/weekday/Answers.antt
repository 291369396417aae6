use Rattle.std.proofs.Common.{arith}
use Rattle.jiff_core.proofs.CalendarLemmas.{weekday_number-parts}
use Rattle.jiff_core.proofs.SignedLemmas.{signed_casts}
use Rattle.gtfs_days.proofs.week.weekday.Goals as goal

pub returns-clause-value : goal.returns-clause-value
returns-clause-value c = omega (arith, signed_casts, weekday_number-parts, c.rem_euclid.ensures.value)
