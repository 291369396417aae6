use Rattle.std.proofs.Common.{◌≡◌, map}
use Rattle.std.specs.List.{range_with_len}
use Rattle.gtfs_merge.specs.MergeEntries.{entry_of, entry_value}
use Rattle.gtfs_merge.specs.declared.kind.Side.TheVariants as side
use Rattle.gtfs_merge.proofs.numbering.sorted_rows.of_a.Given as goal

-- the rows so far
abbrev pub invariant-loop-number : goal.invariant-loop-number
invariant-loop-number l = map entry_value l.rows.items ≡ map (entry_of side.A l.kind l.sides) (range_with_len 0 l.number)
