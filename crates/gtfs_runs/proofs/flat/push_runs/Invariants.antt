use Rattle.std.proofs.Common.{◌≡◌, ◌++◌, List, map, take, get_or}
use Rattle.gtfs_rows.specs.declared.frequency.Frequency.{Frequency}
use Rattle.gtfs_rows.specs.declared.parts.Parts.{Parts}
use Rattle.gtfs_stop_times.specs.declared.stop_row.StopRow.{StopRow}
use Rattle.gtfs_rows.specs.declared.trip.Trip.{Trip}
use Rattle.gtfs_runs.specs.FlatEvents.{served_at}
use Rattle.gtfs_runs.proofs.flat.push_runs.Given as goal

-- those of the runs so far
abbrev pub invariant-loop-run : goal.invariant-loop-run
invariant-loop-run l = (p : Parts) (t : Trip) (fs : List Frequency) (d : StopRow) → t.service_id ≡ l.service
    → l.events.items ≡ l.fn.events.items ++ map (served_at p t l.rows fs l.trip.0 l.position (get_or l.rows l.position d)) (take l.run-index l.runs)
