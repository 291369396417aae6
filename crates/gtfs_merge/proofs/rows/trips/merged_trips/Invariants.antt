use Rattle.std.proofs.Common.{◌≡◌, Some, map, option_map, take, true}
use Rattle.std.specs.List.{list_all}
use Rattle.gtfs_rows.specs.NamedRows.{names_route_and_service, trip_named, without_rows}
use Rattle.gtfs_merge.specs.MergeEntries.{entry_value}
use Rattle.gtfs_merge.specs.EntryRows.{trip_from}
use Rattle.gtfs_merge.specs.MergedSides.{merged_ids}
use Rattle.gtfs_merge.specs.declared.kind.Kind.TheVariants as kind
use Rattle.gtfs_merge.proofs.rows.trips.merged_trips.Given as goal

-- the trips so far
abbrev pub invariant-loop-row : goal.invariant-loop-row
invariant-loop-row l = record {
  listed : map (λ r. Some (trip_named (merged_ids kind.Route l.sides) (merged_ids kind.Service l.sides) r)) l.list.items ≡ map (λ e. option_map without_rows (trip_from l.sides e)) (take l.row-index (map entry_value l.rows));
  within : list_all (names_route_and_service (merged_ids kind.Route l.sides) (merged_ids kind.Service l.sides)) l.list.items ≡ true;
}
