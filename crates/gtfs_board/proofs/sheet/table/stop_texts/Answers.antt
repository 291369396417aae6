use Rattle.std.proofs.Common.{get_or}
use Rattle.gtfs_rows.specs.RowsInMemory.{stop_ids, text_of_number}
use Rattle.gtfs_stop_times.specs.declared.numbers.StopNo.{StopNo}
use Rattle.gtfs_runs.proofs.Pushes.{mapped-all}
use Rattle.gtfs_board.proofs.SheetLists.{item-at, mapped-more}
use Rattle.gtfs_board.proofs.sheet.table.stop_texts.Goals as goal

pub loop-stop-preserved : goal.loop-stop-preserved
loop-stop-preserved c =
    let ss = c.args.stops.now in
    let n = c.loop-stop.stop-index in
    let first : StopNo = record { 0 = 0 } in
    mapped-more (λ id. id.now) (λ s. text_of_number (stop_ids c.args.feed.now) s.0) ss n (get_or ss n first) _ _ _
    c.loop-stop-test.true (item-at ss n first c.loop-stop-test.true) c.loop-stop.invariant c.in_ok-push.ensures.items c.stop_id.ensures

pub returns : goal.returns
returns c = mapped-all (λ s. text_of_number (stop_ids c.args.feed.now) s.0) c.args.stops.now c.loop-stop.stop-index _ c.loop-stop-test.false c.loop-stop.invariant
