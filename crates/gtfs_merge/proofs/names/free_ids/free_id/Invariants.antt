use Rattle.std.proofs.Common.{length, ◌+◌, ◌-◌, ◌++◌}
use Rattle.gtfs_merge.specs.FeedIds.{known_ids}
use Rattle.gtfs_merge.proofs.FreeSearch.{IsSearched}
use Rattle.gtfs_merge.proofs.names.free_ids.free_id.Given as goal

-- all numbers so far are taken
abbrev pub invariant-loop-id : goal.invariant-loop-id
invariant-loop-id l = IsSearched (known_ids l.kind l.sides.a.now ++ known_ids l.kind l.sides.b.now) l.base l.number

abbrev pub decreases-loop-id : goal.decreases-loop-id
decreases-loop-id l = length (known_ids l.kind l.sides.a.now ++ known_ids l.kind l.sides.b.now) + 2 - l.number
