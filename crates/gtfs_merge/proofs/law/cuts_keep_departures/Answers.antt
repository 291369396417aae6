use Rattle.gtfs_merge.proofs.law.cuts_keep_departures.Goals as goal
use Rattle.gtfs_merge.proofs.CutDepartures.{departs-in-part}

pub returns : goal.returns
returns c cut f = departs-in-part cut f
