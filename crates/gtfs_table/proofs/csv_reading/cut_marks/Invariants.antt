use Rattle.std.proofs.Common.{◌≡◌, length}
use Rattle.gtfs_table.specs.Tables.{without_marks}
use Rattle.gtfs_table.proofs.csv_reading.cut_marks.Given as goal

abbrev pub invariant-loop-rest : goal.invariant-loop-rest
invariant-loop-rest l = without_marks l.left ≡ without_marks l.fn.bytes

abbrev pub decreases-loop-rest : goal.decreases-loop-rest
decreases-loop-rest l = length l.left
