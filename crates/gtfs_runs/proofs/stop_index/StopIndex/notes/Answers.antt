use Rattle.std.proofs.Common.{subst}
use Rattle.std.specs.List.{All}
use Rattle.gtfs_times.specs.TimedRows.{timed_parts}
use Rattle.gtfs_runs.specs.StopIndex.{StopIndexValue}
use Rattle.gtfs_runs.specs.steps.NotedRows.{IsNoted}
use Rattle.gtfs_runs.proofs.stop_index.StopIndex.notes.Goals as goal

pub returns : goal.returns
returns c = subst (λ (v : StopIndexValue). All (All (IsNoted (timed_parts v.times v.feed))) v.rows) c.self.view_is c.self.invariant.noted
