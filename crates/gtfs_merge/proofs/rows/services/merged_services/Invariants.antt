use Rattle.std.proofs.Common.{◌≡◌, Some, map, take}
use Rattle.gtfs_rows.specs.RowsInMemory.{service_of}
use Rattle.gtfs_merge.specs.MergeEntries.{entry_value}
use Rattle.gtfs_merge.specs.EntryRows.{service_from}
use Rattle.gtfs_merge.proofs.rows.services.merged_services.Given as goal

-- the services so far
abbrev pub invariant-loop-row : goal.invariant-loop-row
invariant-loop-row l = map (λ r. Some (service_of r)) l.list.items ≡ map (service_from l.sides) (take l.row-index (map entry_value l.rows))
