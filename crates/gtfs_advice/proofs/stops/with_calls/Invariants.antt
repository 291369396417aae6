use Rattle.std.proofs.Common.{length, take}
use Rattle.std.specs.Prelude.{◌==◌}
use Rattle.std.specs.List.{list_any}
use Rattle.gtfs_rows.specs.Trips.{stop_rows_by_trip}
use Rattle.gtfs_advice.specs.NumberMarks.{AreMarks}
use Rattle.gtfs_advice.proofs.stops.with_calls.Given as goal

-- the trips so far marked their stops
abbrev pub invariant-loop-trip : goal.invariant-loop-trip
invariant-loop-trip l = AreMarks (length l.parts.stops) (λ k. list_any (list_any (λ r. r.stop_id.0 == k)) (take l.trip (stop_rows_by_trip l.parts))) l.marks.items
