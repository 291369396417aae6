use Rattle.gtfs_reading.proofs.Gathers.{each-row-once}
use Rattle.gtfs_reading.proofs.stop_times.StopTimes.new.Goals as goal

pub to_headsigned-requires : goal.to_headsigned-requires
to_headsigned-requires c = record { once = each-row-once c.args.passed.now c.stop_times.result.now c.stop_times.ensures }
