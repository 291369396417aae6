use Rattle.std.proofs.Common.{arith}
use Rattle.jiff_core.proofs.SignedLemmas.{signed_casts}
use Rattle.jiff.proofs.Family.{same_date}
use Rattle.gtfs_field.specs.Calendar.{date_of_day}
use Rattle.gtfs_days.proofs.Clocks.{epoch_day-date_of_day}
use Rattle.gtfs_days.proofs.zone.date_of.Goals as goal

pub returns : goal.returns
returns c =
    let there = epoch_day-date_of_day c.args.number c.requires.0 c.requires.1 in
    same_date c.from_days_since_min.result (date_of_day c.args.number) (omega (arith, signed_casts, c.requires.0, c.requires.1, c.from_days_since_min.ensures, there))
