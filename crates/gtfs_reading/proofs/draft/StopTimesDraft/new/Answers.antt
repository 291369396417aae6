use Rattle.gtfs_reading.proofs.Gathers.{each-row-once}
use Rattle.gtfs_reading.proofs.draft.StopTimesDraft.new.Goals as goal

pub into_headsigned-requires : goal.into_headsigned-requires
into_headsigned-requires c = record { once = each-row-once c.args.tables.now c.args.stop_times c.requires.stop_times }
