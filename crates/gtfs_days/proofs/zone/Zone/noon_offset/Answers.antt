use Rattle.jiff_tz.specs.Zone.{ambiguous_at}
use Rattle.gtfs_days.proofs.zone.Zone.noon_offset.Goals as goal

pub returns : goal.returns
unfolding ambiguous_at
returns c = rw (c.compatible.ensures, c.offset-offsets.ensures, c.to_ambiguous_timestamp.ensures.offsets, c.tzif.ensures, c.from_plain.ensures, c.noon.ensures)
