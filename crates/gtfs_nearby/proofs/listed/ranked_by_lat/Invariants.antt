use Rattle.std.proofs.Common.{◌≡◌, vec_len}
use Rattle.gtfs_nearby.specs.AreaTree.{AreStillListed}
use Rattle.gtfs_nearby.proofs.listed.ranked_by_lat.Given as goal

abbrev pub invariant-loop-rank : goal.invariant-loop-rank
invariant-loop-rank l = record { count : vec_len l.listed ≡ l.rank-end; still : AreStillListed l.initial.listed.items l.listed.items }
