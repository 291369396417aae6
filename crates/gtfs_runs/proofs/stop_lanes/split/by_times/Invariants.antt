use Rattle.std.proofs.Common.{map}
use Rattle.gtfs_rows.specs.RowsInMemory.{content_of_parts}
use Rattle.gtfs_runs.specs.StopLanes.{filled_value, list_value}
use Rattle.gtfs_runs.specs.steps.FilledApart.{AreApart}
use Rattle.gtfs_runs.proofs.stop_lanes.split.by_times.Given as goal

-- the lists so far stand apart
abbrev pub invariant-loop-list : goal.invariant-loop-list
invariant-loop-list l = AreApart (content_of_parts l.feed) (map list_value l.yielded) (map list_value l.given.items) (map filled_value l.filled.items)
