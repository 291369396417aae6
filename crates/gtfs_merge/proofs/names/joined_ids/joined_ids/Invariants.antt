use Rattle.std.proofs.Common.{◌≡◌, filter, take}
use Rattle.gtfs_merge.specs.FeedIds.{known_ids}
use Rattle.gtfs_merge.specs.MergedSides.{is_joined_id}
use Rattle.gtfs_merge.proofs.names.joined_ids.joined_ids.Given as goal

-- the joined ids so far
abbrev pub invariant-loop-number : goal.invariant-loop-number
invariant-loop-number l = l.found.items ≡ filter (is_joined_id l.kind l.sides) (take l.number (known_ids l.kind l.sides.b.now))
