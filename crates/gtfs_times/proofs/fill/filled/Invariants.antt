use Rattle.std.proofs.Common.{◌≡◌, take}
use Rattle.gtfs_times.specs.Spans.{IsSpanAt}
use Rattle.gtfs_times.specs.TimedRows.{filled_stop_times}
use Rattle.gtfs_times.proofs.fill.filled.Given as goal

abbrev pub invariant-loop-at : goal.invariant-loop-at
invariant-loop-at l = record {
  so_far : l.filled.items ≡ take l.at (filled_stop_times l.rows);
  span : IsSpanAt l.rows l.span l.at;
}
