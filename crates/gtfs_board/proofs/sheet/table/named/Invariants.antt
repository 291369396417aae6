use Rattle.std.proofs.Common.{◌≡◌, map, take}
use Rattle.gtfs_board.specs.TimetableColumns.{named_column}
use Rattle.gtfs_board.proofs.sheet.table.named.Given as goal

-- the runs so far
abbrev pub invariant-loop-column : goal.invariant-loop-column
invariant-loop-column l = map (λ run. (run.0, run.1.now)) l.runs.items ≡ map (named_column l.feed) (take l.column-index l.columns)
