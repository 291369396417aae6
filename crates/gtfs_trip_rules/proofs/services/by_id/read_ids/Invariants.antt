use Rattle.std.proofs.Common.{◌≡◌, map}
use Rattle.gtfs_table.specs.Rows.{numbers}
use Rattle.gtfs_trip_rules.specs.RowsById.{row_with_id, text_under}
use Rattle.gtfs_trip_rules.proofs.services.by_id.read_ids.Given as goal

-- the rows so far
abbrev pub invariant-loop-row : goal.invariant-loop-row
invariant-loop-row l = map row_with_id l.found.items ≡ map (λ n. (text_under l.tables l.fn.file l.id n, n)) (numbers l.yielded)
