use Rattle.std.proofs.Common.{◌≡◌, ◌∙◌, ap, to_z-of_z}
use Rattle.jiff_core.specs.Timestamp.{nanos_of_seconds}
use Rattle.gtfs_days.proofs.zone.Zone.clock.Goals as goal

pub returns : goal.returns
returns c =
    let value = rw c.unwrap-timestamp.ensures at c.from_second.ensures.value in
    c.civil_at.ensures c.args.instant (value ∙ ap nanos_of_seconds (to_z-of_z c.ranges.instant))
