use Rattle.gtfs_merge.specs.FeedIds.{known_ids}
use Rattle.gtfs_merge.specs.Renaming.{renaming}
use Rattle.gtfs_merge.specs.MergedSides.{side_names}
use Rattle.gtfs_merge.specs.declared.kind.Side.TheVariants as side
use Rattle.gtfs_merge.proofs.RenamedLists.{AreNamed}
use Rattle.gtfs_merge.proofs.names.renamed.names_of_b.Given as goal

-- the other texts of the ids so far
abbrev pub invariant-loop-number : goal.invariant-loop-number
invariant-loop-number l = AreNamed (renaming (side_names side.B l.sides) l.kind) (known_ids l.kind l.sides.b.now) l.number l.names.items
