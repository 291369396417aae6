use Rattle.std.proofs.Common.{◌≡◌, ◌∙◌, ap, to_z-of_z}
use Rattle.jiff_core.specs.Timestamp.{nanos_of_seconds}
use Rattle.gtfs_days.proofs.zone.Zone.civil.Goals as goal

pub returns-clause-value : goal.returns-clause-value
returns-clause-value c =
    c.civil_at.ensures c.args.instant (c.in-Ok.ensures.value ∙ ap nanos_of_seconds (to_z-of_z c.ranges.instant))
