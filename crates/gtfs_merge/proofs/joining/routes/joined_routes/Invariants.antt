use Rattle.std.proofs.Common.{◌≡◌, map, option_map, take}
use Rattle.gtfs_rows.specs.RowsInMemory.{route_ids}
use Rattle.gtfs_merge.specs.JoinedNumbers.{joined_number}
use Rattle.gtfs_merge.specs.declared.kind.Kind.TheVariants as kind
use Rattle.gtfs_merge.proofs.joining.routes.joined_routes.Given as goal

-- the routes so far
abbrev pub invariant-loop-number : goal.invariant-loop-number
invariant-loop-number l = map (option_map (λ n. n.0)) l.joined.items ≡ map (joined_number kind.Route l.sides) (take l.number (route_ids l.sides.b.now))
