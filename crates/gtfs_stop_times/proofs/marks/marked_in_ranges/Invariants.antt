use Rattle.std.proofs.Common.{◌≡◌, map, take}
use Rattle.std.specs.List.{list_any}
use Rattle.gtfs_stop_times.specs.StopTimesByTrip.{items_in}
use Rattle.gtfs_stop_times.proofs.marks.marked_in_ranges.Given as goal

-- the ranges so far were asked
abbrev pub invariant-loop-range : goal.invariant-loop-range
invariant-loop-range l = l.trips.items ≡ map (λ range. list_any (λ mark. mark) (items_in l.marks range)) (take l.range-index l.ranges)
