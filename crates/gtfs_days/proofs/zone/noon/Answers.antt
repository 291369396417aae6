use Rattle.std.proofs.Common.{ap, refl}
use Rattle.jiff_core.specs.declared.civil.datetime.DateTime.{DateTime}
use Rattle.jiff_core.specs.declared.civil.time.Time.{Time}
use Rattle.jiff.proofs.Family.{same_time}
use Rattle.gtfs_days.specs.Noon.{noon_time}
use Rattle.gtfs_days.proofs.zone.noon.Goals as goal

pub returns : goal.returns
returns c = ap (λ (t : Time). let d : DateTime = record { date = c.args.date; time = t } in d) (same_time _ noon_time refl)
