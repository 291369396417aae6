use Rattle.std.proofs.Common.{◌≡◌, ◌∙◌, ap}
use Rattle.jiff_core.specs.Timestamp.{nanos_of_seconds}
use Rattle.jiff_tz.specs.Tzif as Table
use Rattle.jiff_tz.specs.Zone.{offset_at}
use Rattle.gtfs_days.specs.Zone.{transitions_of}
use Rattle.gtfs_days.proofs.Clocks.{civil_from}
use Rattle.gtfs_days.proofs.zone.Zone.civil_at.Goals as goal

pub returns : goal.returns
unfolding offset_at
returns c = λ x nanos.
    let offset : c.to_offset-offset.result.seconds ≡ (Table.offset_at (transitions_of c.args.self.now) c.args.timestamp.nanosecond).seconds =
    c.to_offset-offset.ensures ∙ ap (λ zone. offset_at zone c.args.timestamp.nanosecond) c.tzif.ensures in
    rw (c.shown.ensures, c.to_plain.ensures) (civil_from c.args.self.now x c.to_datetime.result c.to_offset-offset.result (rw nanos at offset) (rw nanos at c.to_datetime.ensures))
