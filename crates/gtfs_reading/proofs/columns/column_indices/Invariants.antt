use Rattle.std.proofs.Common.{◌≡◌, length, map, take}
use Rattle.gtfs_table.specs.Rows.{records_in}
use Rattle.gtfs_table.specs.Tables.{column_of}
use Rattle.gtfs_reading.proofs.columns.column_indices.Given as goal

-- the indices so far
abbrev pub invariant-loop-place : goal.invariant-loop-place
invariant-loop-place g l = record {
  found : take l.place l.indices ≡ map (λ c. column_of (records_in l.tables l.file) c.name.now) (take l.place l.kept);
  count : length l.indices ≡ l.place-end;
}
