use Rattle.std.proofs.Common.{◌≡◌, List, map}
use Rattle.std.specs.Prelude.{option_and_then}
use Rattle.std.specs.List.{range_with_len}
use Rattle.gtfs_rows.specs.RowsInMemory.{trip_of}
use Rattle.gtfs_rows.specs.declared.frequency.Frequency.{Frequency}
use Rattle.gtfs_rows.specs.declared.parts.Parts.{Parts}
use Rattle.gtfs_rows.specs.declared.trip.Trip.{Trip}
use Rattle.gtfs_board.specs.Timetable.{row_at, time_passed}
use Rattle.gtfs_board.proofs.sheet.by_run.times_along.Given as goal

-- the times at the positions so far
abbrev pub invariant-loop-position : goal.invariant-loop-position
invariant-loop-position l = (p : Parts) (t : Trip) (fs : List Frequency) → l.times.items
    ≡ map (λ i. option_and_then (time_passed (trip_of p t l.rows fs) l.start) (row_at (trip_of p t l.rows fs) i)) (range_with_len 0 l.position)
