use Rattle.std.proofs.Common.{◌≡◌, map, take}
use Rattle.gtfs_writing.proofs.stop_ids.copied.Given as goal

-- the ids so far
abbrev pub invariant-loop-stop : goal.invariant-loop-stop
invariant-loop-stop l = l.ids.items ≡ map (λ s. s.stop_id) (take l.stop-index l.stops)
