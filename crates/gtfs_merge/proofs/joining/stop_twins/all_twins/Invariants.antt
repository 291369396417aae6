use Rattle.std.proofs.Common.{◌≡◌, map, option_map, take}
use Rattle.gtfs_rows.specs.RowsInMemory.{stop_ids}
use Rattle.gtfs_merge.specs.Twins.{twin_number}
use Rattle.gtfs_merge.specs.declared.kind.Kind.TheVariants as kind
use Rattle.gtfs_merge.proofs.joining.stop_twins.all_twins.Given as goal

-- the stops so far
abbrev pub invariant-loop-number : goal.invariant-loop-number
invariant-loop-number l = map (option_map (λ n. n.0)) l.twins.items ≡ map (twin_number kind.Stop l.sides) (take l.number (stop_ids l.sides.b.now))
