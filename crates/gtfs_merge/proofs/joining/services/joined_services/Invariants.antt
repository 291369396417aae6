use Rattle.std.proofs.Common.{◌≡◌, map, option_map, take}
use Rattle.gtfs_rows.specs.RowsInMemory.{service_ids}
use Rattle.gtfs_merge.specs.JoinedNumbers.{joined_number}
use Rattle.gtfs_merge.specs.declared.kind.Kind.TheVariants as kind
use Rattle.gtfs_merge.proofs.joining.services.joined_services.Given as goal

-- the services so far
abbrev pub invariant-loop-number : goal.invariant-loop-number
invariant-loop-number l = map (option_map (λ n. n.0)) l.joined.items ≡ map (joined_number kind.Service l.sides) (take l.number (service_ids l.sides.b.now))
