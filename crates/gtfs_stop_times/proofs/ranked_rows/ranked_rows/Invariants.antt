use Rattle.std.proofs.Common.{take}
use Rattle.gtfs_stop_times.specs.RankedRows.{AreRanked}
use Rattle.gtfs_stop_times.proofs.ranked_rows.ranked_rows.Given as goal

abbrev pub invariant-loop-at : goal.invariant-loop-at
invariant-loop-at l = AreRanked l.ranks.rows.now l.ranks.notes.now (take l.at l.order) l.ranked_rows.items
