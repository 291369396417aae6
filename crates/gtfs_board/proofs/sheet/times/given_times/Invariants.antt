use Rattle.std.proofs.Common.{◌≡◌}
use Rattle.gtfs_rows.specs.RowsInMemory.{content_of_parts}
use Rattle.gtfs_board.specs.TimetableColumns.{column_times}
use Rattle.gtfs_board.proofs.sheet.times.given_times.Given as goal

-- the times at the positions so far
abbrev pub invariant-loop-position : goal.invariant-loop-position
invariant-loop-position l = l.lines.items ≡ column_times (content_of_parts l.feed) l.position l.columns
