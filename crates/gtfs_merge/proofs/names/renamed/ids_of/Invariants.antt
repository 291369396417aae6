use Rattle.std.proofs.Common.{◌≡◌, take}
use Rattle.gtfs_merge.specs.FeedIds.{known_ids}
use Rattle.gtfs_merge.proofs.names.renamed.ids_of.Given as goal

-- the ids so far
abbrev pub invariant-loop-number : goal.invariant-loop-number
invariant-loop-number l = l.ids.items ≡ take l.number (known_ids l.kind l.feed)
