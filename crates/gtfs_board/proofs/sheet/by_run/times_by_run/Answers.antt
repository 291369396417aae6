use Rattle.std.proofs.Common.{get_or}
use Rattle.gtfs_rows.specs.RowsInMemory.{content_of_parts}
use Rattle.gtfs_runs.proofs.Pushes.{mapped-all}
use Rattle.gtfs_times.specs.TimedRows.{timed_parts}
use Rattle.gtfs_times.specs.declared.times.Times.TheVariants.{Interpolated}
use Rattle.gtfs_board.specs.TimetableColumns.{times_of_column}
use Rattle.gtfs_board.specs.declared.sheet.columns.RunColumn.{RunColumn}
use Rattle.gtfs_board.proofs.SheetLists.{item-at, mapped-more}
use Rattle.gtfs_board.proofs.sheet.by_run.times_by_run.Goals as goal

pub loop-column-preserved : goal.loop-column-preserved
loop-column-preserved c =
    let cs = c.args.columns.now in
    let n = c.loop-column.column-index in
    let first : RunColumn = record { start = 0; trip = record { 0 = 0 } } in
    mapped-more (λ run. run.items) (times_of_column (content_of_parts (timed_parts Interpolated c.args.feed.now)) c.args.stop_count) cs n (get_or cs n first) _ _ _
    c.loop-column-test.true (item-at cs n first c.loop-column-test.true) c.loop-column.invariant c.in_ok-push.ensures.items c.in_ok-times_of_run.ensures

pub returns : goal.returns
returns c =
    mapped-all (times_of_column (content_of_parts (timed_parts Interpolated c.args.feed.now)) c.args.stop_count) c.args.columns.now c.loop-column.column-index _
    c.loop-column-test.false c.loop-column.invariant
