use Rattle.std.proofs.Common.{get_or, ap}
use Rattle.gtfs_runs.proofs.Pushes.{mapped-all}
use Rattle.gtfs_board.specs.TimetableColumns.{named_column}
use Rattle.gtfs_board.specs.declared.sheet.columns.RunColumn.{RunColumn}
use Rattle.gtfs_board.proofs.SheetLists.{item-at, mapped-more}
use Rattle.gtfs_board.proofs.sheet.table.named.Goals as goal

pub loop-column-preserved : goal.loop-column-preserved
loop-column-preserved c =
    let cs = c.args.columns.now in
    let n = c.loop-column.column-index in
    let first : RunColumn = record { start = 0; trip = record { 0 = 0 } } in
    mapped-more (λ run. (run.0, run.1.now)) (named_column c.args.feed.now) cs n (get_or cs n first) _ _ _
    c.loop-column-test.true (item-at cs n first c.loop-column-test.true) c.loop-column.invariant c.in_ok-push.ensures.items
    (ap (λ id. ((get_or cs n first).start, id)) c.trip_id.ensures)

pub returns : goal.returns
returns c = mapped-all (named_column c.args.feed.now) c.args.columns.now c.loop-column.column-index _ c.loop-column-test.false c.loop-column.invariant
