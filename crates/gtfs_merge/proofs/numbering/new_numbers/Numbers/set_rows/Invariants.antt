use Rattle.std.proofs.Common.{map}
use Rattle.gtfs_merge.specs.MergeEntries.{entry_value}
use Rattle.gtfs_merge.proofs.NumberTables.{AreSet}
use Rattle.gtfs_merge.proofs.numbering.new_numbers.Numbers.set_rows.Given as goal

-- the rows so far have their numbers
abbrev pub invariant-loop-index : goal.invariant-loop-index
invariant-loop-index l = AreSet (map entry_value l.rows) l.fn.self l.self l.index
