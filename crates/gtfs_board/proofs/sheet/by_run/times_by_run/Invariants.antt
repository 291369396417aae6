use Rattle.std.proofs.Common.{◌≡◌, map, take}
use Rattle.gtfs_rows.specs.RowsInMemory.{content_of_parts}
use Rattle.gtfs_times.specs.TimedRows.{timed_parts}
use Rattle.gtfs_times.specs.declared.times.Times.TheVariants.{Interpolated}
use Rattle.gtfs_board.specs.TimetableColumns.{times_of_column}
use Rattle.gtfs_board.proofs.sheet.by_run.times_by_run.Given as goal

-- the times of the runs so far
abbrev pub invariant-loop-column : goal.invariant-loop-column
invariant-loop-column l = map (λ run. run.items) l.runs.items ≡ map (times_of_column (content_of_parts (timed_parts Interpolated l.feed)) l.stop_count) (take l.column-index l.columns)
