use Rattle.std.proofs.Common.{◌≡◌, map, take}
use Rattle.std.specs.List.{list_any}
use Rattle.gtfs_table.specs.FieldOffsets.{parts}
use Rattle.gtfs_stop_times.proofs.marks.marked_in_turn.Given as goal

-- the trips so far were asked
abbrev pub invariant-loop-trip : goal.invariant-loop-trip
invariant-loop-trip l = l.trips.items ≡ map (list_any (λ mark. mark)) (take l.trip (parts l.starts l.marks))
