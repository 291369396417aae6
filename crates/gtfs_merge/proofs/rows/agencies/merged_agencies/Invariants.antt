use Rattle.std.proofs.Common.{◌≡◌, Some, map, take}
use Rattle.gtfs_rows.specs.RowsInMemory.{agency_of}
use Rattle.gtfs_merge.specs.MergeEntries.{entry_value}
use Rattle.gtfs_merge.specs.EntryRows.{agency_from}
use Rattle.gtfs_merge.proofs.rows.agencies.merged_agencies.Given as goal

-- the agencies so far
abbrev pub invariant-loop-row : goal.invariant-loop-row
invariant-loop-row l = map (λ r. Some (agency_of r)) l.list.items ≡ map (agency_from l.sides) (take l.row-index (map entry_value l.rows))
