use Rattle.std.proofs.Common.{◌∙◌, get_or}
use Rattle.gtfs_rows.specs.RowsInMemory.{content_of_parts}
use Rattle.gtfs_runs.proofs.Pushes.{mapped-all, pushed-more}
use Rattle.gtfs_board.specs.TimetableColumns.{time_of_column}
use Rattle.gtfs_board.specs.declared.sheet.columns.RunColumn.{RunColumn}
use Rattle.gtfs_board.proofs.SheetLists.{item-at}
use Rattle.gtfs_board.proofs.sheet.times.times_at.Goals as goal

pub loop-column-preserved : goal.loop-column-preserved
loop-column-preserved c =
    let cs = c.args.columns.now in
    let n = c.loop-column.column-index in
    let first : RunColumn = record { start = 0; trip = record { 0 = 0 } } in
    pushed-more (time_of_column (content_of_parts c.args.feed.now) c.args.position) cs n (get_or cs n first) _ _ _
    c.loop-column-test.true (item-at cs n first c.loop-column-test.true) c.loop-column.invariant c.in_ok-push.ensures.items c.time_at.ensures

pub returns : goal.returns
returns c = c.new.ensures ∙ mapped-all (time_of_column (content_of_parts c.args.feed.now) c.args.position) c.args.columns.now c.loop-column.column-index _ c.loop-column-test.false c.loop-column.invariant
