use Rattle.std.proofs.Common.{◌≡◌, take}
use Rattle.gtfs_runs.specs.Tallies.{tally}
use Rattle.gtfs_board.specs.TimetableColumns.{is_column_of, is_same_column}
use Rattle.gtfs_board.specs.declared.sheet.columns.RunColumn.{RunColumn}
use Rattle.gtfs_board.proofs.sheet.columns.columns.Given as goal

-- the runs of the trips so far
abbrev pub invariant-loop-trip : goal.invariant-loop-trip
invariant-loop-trip l = (c : RunColumn) → tally (is_same_column c) l.found.items ≡ tally (is_column_of l.feed l.day c) (take l.trip-index l.trips)
