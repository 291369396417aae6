use Rattle.std.proofs.Common.{◌≡◌, Some, map, take, true}
use Rattle.std.specs.List.{list_all}
use Rattle.gtfs_rows.specs.NamedRows.{names_agency, route_named}
use Rattle.gtfs_merge.specs.MergeEntries.{entry_value}
use Rattle.gtfs_merge.specs.EntryRows.{route_from}
use Rattle.gtfs_merge.specs.MergedSides.{merged_ids}
use Rattle.gtfs_merge.specs.declared.kind.Kind.TheVariants as kind
use Rattle.gtfs_merge.proofs.rows.routes.merged_routes.Given as goal

-- the routes so far
abbrev pub invariant-loop-row : goal.invariant-loop-row
invariant-loop-row l = record {
  listed : map (λ r. Some (route_named (merged_ids kind.Agency l.sides) r)) l.list.items ≡ map (route_from l.sides) (take l.row-index (map entry_value l.rows));
  within : list_all (names_agency (merged_ids kind.Agency l.sides)) l.list.items ≡ true;
}
