use Rattle.std.proofs.Common.{sym, append-nil}
use Rattle.gtfs_stop_times.proofs.stop_lists.push_stops.Goals as goal

pub loop-row-init : goal.loop-row-init
loop-row-init c = sym (append-nil c.args.stops.now.items)
