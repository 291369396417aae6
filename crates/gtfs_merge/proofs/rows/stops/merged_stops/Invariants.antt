use Rattle.std.proofs.Common.{◌≡◌, Some, map, take, true}
use Rattle.std.specs.List.{list_all}
use Rattle.gtfs_rows.specs.NamedRows.{names_parent, stop_named}
use Rattle.gtfs_merge.specs.MergeEntries.{entry_value}
use Rattle.gtfs_merge.specs.EntryRows.{stop_from}
use Rattle.gtfs_merge.specs.MergedSides.{merged_ids}
use Rattle.gtfs_merge.specs.declared.kind.Kind.TheVariants as kind
use Rattle.gtfs_merge.proofs.rows.stops.merged_stops.Given as goal

-- the stops so far
abbrev pub invariant-loop-row : goal.invariant-loop-row
invariant-loop-row l = record {
  listed : map (λ r. Some (stop_named (merged_ids kind.Stop l.sides) r)) l.list.items ≡ map (stop_from l.sides) (take l.row-index (map entry_value l.rows));
  within : list_all (names_parent (merged_ids kind.Stop l.sides)) l.list.items ≡ true;
}
