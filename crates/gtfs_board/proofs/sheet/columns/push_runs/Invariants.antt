use Rattle.std.proofs.Common.{◌≡◌, ◌+◌, ◌==◌, cond, take}
use Rattle.gtfs_runs.specs.Tallies.{tally}
use Rattle.gtfs_runs.proofs.RunStarts.{starts}
use Rattle.gtfs_board.specs.TimetableColumns.{is_same_column}
use Rattle.gtfs_board.specs.declared.sheet.columns.RunColumn.{RunColumn}
use Rattle.gtfs_board.proofs.sheet.columns.push_runs.Given as goal

-- the runs of the periods so far
abbrev pub invariant-loop-period : goal.invariant-loop-period
invariant-loop-period l = (c : RunColumn) → tally (is_same_column c) l.found.items
    ≡ tally (is_same_column c) l.fn.found.items + cond (c.trip.0 == l.trip.0) (tally (starts c.start) (take l.period-index l.periods)) 0
