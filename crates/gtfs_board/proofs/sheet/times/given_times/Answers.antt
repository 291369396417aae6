use Rattle.std.proofs.Common.{◌≡◌, ◌∙◌, map, ap, arith}
use Rattle.gtfs_rows.specs.RowsInMemory.{content_of_parts}
use Rattle.gtfs_board.specs.TimetableColumns.{column_times, time_of_column}
use Rattle.gtfs_board.proofs.SheetColumns.{shown-upto}
use Rattle.gtfs_board.proofs.SheetLists.{ranged-pushed}
use Rattle.gtfs_board.proofs.sheet.times.given_times.Goals as goal

pub times_at-requires : goal.times_at-requires
times_at-requires c = λ k d h. shown-upto c.args.feed.now c.args.stop_count c.loop-position.position _ (c.requires k d h) c.loop-position-test.true

pub loop-position-preserved : goal.loop-position-preserved
loop-position-preserved c =
    ranged-pushed (λ i. map (time_of_column (content_of_parts c.args.feed.now) i) c.args.columns.now) c.loop-position.position _ _ c.in_ok-times_at.field-0
    c.loop-position.invariant c.in_ok-push.ensures.items c.in_ok-times_at.ensures

pub returns : goal.returns
returns c =
    let all : c.loop-position.position ≡ c.args.stop_count = omega (arith, c.loop-position-test.false, c.loop-position.auto.position-end) in
    c.loop-position.invariant ∙ ap (λ m. column_times (content_of_parts c.args.feed.now) m c.args.columns.now) all
