use Rattle.std.proofs.Common.{◌≡◌, map, option_map, take}
use Rattle.gtfs_rows.specs.RowsInMemory.{trip_ids}
use Rattle.gtfs_merge.specs.JoinedNumbers.{joined_number}
use Rattle.gtfs_merge.specs.declared.kind.Kind.TheVariants as kind
use Rattle.gtfs_merge.proofs.joining.trips.joined_trips.Given as goal

-- the trips so far
abbrev pub invariant-loop-number : goal.invariant-loop-number
invariant-loop-number l = map (option_map (λ n. n.0)) l.joined.items ≡ map (joined_number kind.Trip l.sides) (take l.number (trip_ids l.sides.b.now))
