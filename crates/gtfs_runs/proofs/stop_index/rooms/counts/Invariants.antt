use Rattle.std.proofs.Common.{◌≡◌, length}
use Rattle.gtfs_runs.proofs.stop_index.rooms.counts.Given as goal

abbrev pub invariant-loop-stop : goal.invariant-loop-stop
invariant-loop-stop l = length l.counts.items ≡ length l.feed.stops
