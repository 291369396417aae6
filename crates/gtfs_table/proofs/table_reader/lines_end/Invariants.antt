use Rattle.std.proofs.Common.{◌≤◌, length}
use Rattle.gtfs_table.proofs.table_reader.lines_end.Given as goal

abbrev pub invariant-loop-end : goal.invariant-loop-end
invariant-loop-end l = l.end ≤ length l.fn.bytes

abbrev pub decreases-loop-end : goal.decreases-loop-end
decreases-loop-end l = l.end
