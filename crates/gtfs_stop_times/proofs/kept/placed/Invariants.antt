use Rattle.std.proofs.Common.{◌≡◌, filter, get_or, take}
use Rattle.gtfs_stop_times.specs.KeptLists.{no_note}
use Rattle.gtfs_stop_times.specs.RowNotes.{noted}
use Rattle.gtfs_stop_times.specs.KeptTimes.{is_placed}
use Rattle.gtfs_stop_times.proofs.kept.placed.Given as goal

abbrev pub invariant-loop-at : goal.invariant-loop-at
invariant-loop-at l = l.rows ≡ filter (λ n. is_placed (noted (get_or l.notes n no_note)).times) (take l.at l.order)
