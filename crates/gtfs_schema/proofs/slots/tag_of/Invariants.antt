use Rattle.std.proofs.Common.{length}
use Rattle.gtfs_schema.proofs.slots.tag_of.Given as goal

abbrev pub decreases-loop-left : goal.decreases-loop-left
decreases-loop-left l = length l.left
