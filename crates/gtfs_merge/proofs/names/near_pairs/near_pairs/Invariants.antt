use Rattle.std.proofs.Common.{◌≡◌, take}
use Rattle.std.specs.Prelude.{filter_map}
use Rattle.gtfs_merge.specs.NearStops.{near_pair}
use Rattle.gtfs_merge.specs.MergedSides.{content_a, content_b, nearness_of}
use Rattle.gtfs_merge.proofs.names.near_pairs.near_pairs.Given as goal

-- the pairs so far
abbrev pub invariant-loop-number : goal.invariant-loop-number
invariant-loop-number l = l.pairs.items ≡ filter_map (near_pair (nearness_of l.sides) (content_a l.sides) (content_b l.sides)) (take l.number (content_b l.sides).stops)
