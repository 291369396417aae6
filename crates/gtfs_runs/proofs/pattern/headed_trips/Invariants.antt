use Rattle.std.proofs.Common.{◌≡◌, map, filter}
use Rattle.std.specs.List.{range_with_len}
use Rattle.gtfs_runs.specs.Patterns.{entry_of, entry_value, is_of_route}
use Rattle.gtfs_runs.proofs.pattern.headed_trips.Given as goal

-- the trips so far
abbrev pub invariant-loop-number : goal.invariant-loop-number
invariant-loop-number l = map entry_value l.trips.items ≡ map (entry_of l.feed) (filter (is_of_route l.feed l.route.0) (range_with_len 0 l.number))
