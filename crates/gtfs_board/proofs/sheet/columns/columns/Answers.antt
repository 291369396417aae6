use Rattle.std.proofs.Common.{get_or}
use Rattle.gtfs_rows.specs.declared.numbers.TripNo.{TripNo}
use Rattle.gtfs_board.specs.TimetableColumns.{is_column_of, is_same_column}
use Rattle.gtfs_board.proofs.SheetLists.{item-at}
use Rattle.gtfs_board.proofs.SheetRuns.{counted-more, counted-sorted}
use Rattle.gtfs_board.proofs.sheet.columns.columns.Goals as goal

pub loop-trip-preserved : goal.loop-trip-preserved
loop-trip-preserved c = λ x.
    let ns = c.args.trips.now in
    let n = c.loop-trip.trip-index in
    let first : TripNo = record { 0 = 0 } in
    counted-more (is_column_of c.args.feed.now c.args.day x) ns n (get_or ns n first) _ _ c.loop-trip-test.true (item-at ns n first c.loop-trip-test.true)
    (c.loop-trip.invariant x) (c.in_ok-push_trip.ensures x)

pub returns-clause-told : goal.returns-clause-told
returns-clause-told c = λ x.
    counted-sorted (is_same_column x) (is_column_of c.args.feed.now c.args.day x) c.args.trips.now c.loop-trip.trip-index _ _
    c.loop-trip-test.false (c.loop-trip.invariant x) c.sort_unstable.ensures.permutation
