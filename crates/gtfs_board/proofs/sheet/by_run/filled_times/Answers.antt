use Rattle.std.proofs.Common.{◌≡◌, ◌∙◌, None, length, map, get_or, sym, ap, subst}
use Rattle.std.specs.Prelude.{All}
use Rattle.std.specs.List.{range_with_len}
use Rattle.gtfs_rows.specs.RowsInMemory.{content_of_parts}
use Rattle.gtfs_times.specs.TimedRows.{timed_parts}
use Rattle.gtfs_times.specs.declared.times.Times.TheVariants.{Interpolated}
use Rattle.gtfs_board.proofs.Results.{if_ok}
use Rattle.gtfs_board.proofs.TimedSheets.{times-wide, turned-times}
use Rattle.gtfs_board.proofs.sheet.by_run.filled_times.Goals as goal

pub turned-requires : goal.turned-requires
turned-requires c =
    subst (All (λ line. length line.items ≡ c.args.stop_count)) (sym c.as_slice.ensures.value)
    (times-wide (λ line. line.items) c.in_ok-runs.runs.items (content_of_parts (timed_parts Interpolated c.args.feed.now)) c.args.stop_count c.args.columns.now c.in_ok-runs.ensures)

pub returns : goal.returns
returns c =
    if_ok c.turned.result _ _ c.turned.ensures
    (λ table are. are ∙ ap (λ lines. map (λ i. map (λ line. get_or line.items i None) lines) (range_with_len 0 c.args.stop_count)) c.as_slice.ensures.value
    ∙ turned-times (λ line. line.items) c.in_ok-runs.runs.items (content_of_parts (timed_parts Interpolated c.args.feed.now)) c.args.stop_count c.args.columns.now c.in_ok-runs.ensures)
