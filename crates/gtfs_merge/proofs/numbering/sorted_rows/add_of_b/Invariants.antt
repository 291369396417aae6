use Rattle.std.proofs.Common.{◌≡◌, ◌++◌, filter, map}
use Rattle.std.specs.List.{range_with_len}
use Rattle.gtfs_merge.specs.MergeEntries.{entry_of, entry_value, is_apart}
use Rattle.gtfs_merge.specs.declared.kind.Side.TheVariants as side
use Rattle.gtfs_merge.proofs.numbering.sorted_rows.add_of_b.Given as goal

-- the rows so far
abbrev pub invariant-loop-number : goal.invariant-loop-number
invariant-loop-number l = map entry_value l.rows.items ≡ map entry_value l.initial.rows.items ++ map (entry_of side.B l.kind l.sides) (filter (is_apart l.kind l.sides) (range_with_len 0 l.number))
