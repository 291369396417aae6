use Rattle.std.proofs.Common.{◌≡◌, ◌∙◌, sym, ap}
use Rattle.gtfs_rows.specs.RowsInMemory.{content_of_parts}
use Rattle.gtfs_times.specs.TimedRows.{timed_parts}
use Rattle.gtfs_times.specs.declared.times.Times.TheVariants as times
use Rattle.gtfs_times.proofs.TimedContent.{content-timed}
use Rattle.gtfs_board.specs.TimetableColumns.{column_times}
use Rattle.gtfs_board.proofs.Results.{if_ok}
use Rattle.gtfs_board.proofs.TimedRows.{content-given}
use Rattle.gtfs_board.proofs.sheet.times.sheet_times.Goals as goal

pub returns-in-Given : goal.returns-in-Given
returns-in-Given c =
    let p = c.args.feed.now in
    let same : content_of_parts (timed_parts c.args.times p) ≡ content_of_parts p =
    ap (λ t. content_of_parts (timed_parts t p)) c.in-Given.is ∙ content-timed times.Given p c.soundness.ensures ∙ content-given (content_of_parts p) in
    if_ok c.given_times.result _ _ c.given_times.ensures (λ lines are. are ∙ ap (λ f. column_times f c.args.stop_count c.args.columns.now) (sym same))

pub returns-in-Interpolated : goal.returns-in-Interpolated
returns-in-Interpolated c =
    if_ok c.filled_times.result _ _ c.filled_times.ensures
    (λ lines are. are ∙ ap (λ t. column_times (content_of_parts (timed_parts t c.args.feed.now)) c.args.stop_count c.args.columns.now) (sym c.in-Interpolated.is))
