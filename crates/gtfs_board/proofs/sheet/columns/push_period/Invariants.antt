use Rattle.std.proofs.Common.{◌≡◌, ◌-◌, ◌+◌, ◌==◌, ◌&&◌, cond}
use Rattle.gtfs_rows.specs.RowsInMemory.{frequency_of}
use Rattle.gtfs_runs.specs.Tallies.{tally}
use Rattle.gtfs_rows.specs.Runs.{starts_run}
use Rattle.gtfs_board.specs.TimetableColumns.{is_same_column}
use Rattle.gtfs_board.specs.declared.sheet.columns.RunColumn.{RunColumn}
use Rattle.gtfs_board.proofs.SheetStarts.{starts_from}
use Rattle.gtfs_board.proofs.sheet.columns.push_period.Given as goal

-- the runs so far, and those from the next start on
abbrev pub invariant-loop-start : goal.invariant-loop-start
invariant-loop-start l = (c : RunColumn) → tally (is_same_column c) l.found.items + cond ((c.trip.0 == l.trip.0) && starts_from l.start l.end l.period.headway_secs c.start) 1 0
    ≡ tally (is_same_column c) l.fn.found.items + cond ((c.trip.0 == l.trip.0) && starts_run (frequency_of l.period) c.start) 1 0

abbrev pub decreases-loop-start : goal.decreases-loop-start
decreases-loop-start l = l.end - l.start
