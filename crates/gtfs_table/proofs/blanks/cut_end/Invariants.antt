use Rattle.std.proofs.Common.{◌≡◌, length, reverse}
use Rattle.gtfs_table.specs.Blanks.{without_first_blanks}
use Rattle.gtfs_table.proofs.blanks.cut_end.Given as goal

abbrev pub invariant-loop-left : goal.invariant-loop-left
invariant-loop-left l = without_first_blanks (reverse l.left) ≡ without_first_blanks (reverse l.fn.bytes)

abbrev pub decreases-loop-left : goal.decreases-loop-left
decreases-loop-left l = length l.left
