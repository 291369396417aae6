use Rattle.std.proofs.Common.{◌≡◌, map, take}
use Rattle.gtfs_rows.specs.RowsInMemory.{stop_ids}
use Rattle.gtfs_merge.specs.MergedSides.{is_joined_id}
use Rattle.gtfs_merge.specs.declared.kind.Kind.TheVariants as kind
use Rattle.gtfs_merge.proofs.joining.stops.joined_flags.Given as goal

-- the flags so far
abbrev pub invariant-loop-number : goal.invariant-loop-number
invariant-loop-number l = l.flags.items ≡ map (is_joined_id kind.Stop l.sides) (take l.number (stop_ids l.sides.b.now))
