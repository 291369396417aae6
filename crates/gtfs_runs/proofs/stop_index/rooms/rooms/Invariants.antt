use Rattle.std.proofs.Common.{◌≡◌, map, take, []}
use Rattle.gtfs_runs.proofs.stop_index.rooms.rooms.Given as goal

-- an empty list for each stop so far
abbrev pub invariant-loop-number : goal.invariant-loop-number
invariant-loop-number l = map (λ x. x.items) l.lists.items ≡ map (λ _. []) (take l.number l.feed.stops)
