use Rattle.gtfs_days.proofs.SameZones.{zones_one}
use Rattle.gtfs_days.proofs.law.zones_are_one.Goals as goal

pub returns : goal.returns
returns c = zones_one
