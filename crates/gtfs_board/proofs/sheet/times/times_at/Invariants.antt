use Rattle.std.proofs.Common.{◌≡◌, map, take}
use Rattle.gtfs_rows.specs.RowsInMemory.{content_of_parts}
use Rattle.gtfs_board.specs.TimetableColumns.{time_of_column}
use Rattle.gtfs_board.proofs.sheet.times.times_at.Given as goal

-- the times of the columns so far
abbrev pub invariant-loop-column : goal.invariant-loop-column
invariant-loop-column l = l.times.items ≡ map (time_of_column (content_of_parts l.feed) l.position) (take l.column-index l.columns)
