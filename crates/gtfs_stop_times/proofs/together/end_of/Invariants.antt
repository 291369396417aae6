use Rattle.std.proofs.Common.{◌≡◌, drop, length, take, ◌-◌, ◌<◌, ◌≤◌}
use Rattle.std.specs.List.{All}
use Rattle.gtfs_stop_times.specs.KeptLists.{stop_time_at}
use Rattle.gtfs_stop_times.proofs.together.end_of.Given as goal

abbrev pub invariant-loop-end : goal.invariant-loop-end
invariant-loop-end l = (l.start < l.end) × ((l.end ≤ length l.order) × All (λ n. (stop_time_at l.ranks.rows.now l.ranks.notes.now n).trip ≡ l.trip) (take (l.end - l.start) (drop l.start l.order)))

abbrev pub decreases-loop-end : goal.decreases-loop-end
decreases-loop-end l = length l.order - l.end
