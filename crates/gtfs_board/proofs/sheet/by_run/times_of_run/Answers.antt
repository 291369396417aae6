use Rattle.std.proofs.Common.{◌≡◌, ◌∙◌, Some, length, sym, ap, subst, arith}
use Rattle.std.specs.List.{slice_get}
use Rattle.gtfs_rows.specs.Trips.{stop_rows_by_trip}
use Rattle.gtfs_runs.specs.Patterns.{rows_of_number}
use Rattle.gtfs_times.specs.TimedRows.{filled_stop_times, timed_parts}
use Rattle.gtfs_times.specs.declared.times.Times.TheVariants.{Interpolated}
use Rattle.gtfs_times.proofs.FillValue.{filled-length}
use Rattle.gtfs_times.proofs.FilledContent.{sound-timed}
use Rattle.gtfs_board.specs.TimetableColumns.{KeepTimes}
use Rattle.gtfs_board.proofs.Results.{if_ok}
use Rattle.gtfs_board.proofs.SheetColumns.{rows-are}
use Rattle.gtfs_board.proofs.TimedRows.{keep-times, rows-there}
use Rattle.gtfs_board.proofs.TimedSheets.{column-times}
use Rattle.gtfs_board.proofs.sheet.by_run.times_of_run.Goals as goal

pub times_along-requires-clause-keep : goal.times_along-requires-clause-keep
times_along-requires-clause-keep c =
    subst KeepTimes (c.is_to_fill.ensures.kept c.if-not-is_to_fill.true)
    (keep-times Interpolated c.args.feed.now c.soundness.ensures c.args.column.trip.0 c.trip_rows-rows.result.now c.trip_rows-rows.ensures)

pub returns-then-not-is_to_fill : goal.returns-then-not-is_to_fill
returns-then-not-is_to_fill c =
    let p = c.args.feed.now in
    let rows = c.trip_rows-rows.result.now in
    let there : slice_get (stop_rows_by_trip (timed_parts Interpolated p)) c.args.column.trip.0 ≡ Some rows =
    rows-there Interpolated p c.soundness.ensures c.args.column.trip.0 rows c.trip_rows-rows.ensures ∙ ap Some (c.is_to_fill.ensures.kept c.if-not-is_to_fill.true) in
    if_ok c.times_along.result _ _ c.times_along.ensures
    (λ times are. column-times (timed_parts Interpolated p) (sound-timed p c.soundness.ensures Interpolated) c.args.column c.args.stop_count rows times.items there
    (λ row fs. are (timed_parts Interpolated p) row fs))

pub times_along-requires-2-clause-within : goal.times_along-requires-2-clause-within
times_along-requires-2-clause-within c =
    let p = c.args.feed.now in
    let rows = c.trip_rows-rows.result.now in
    let many : length c.as_slice.result.now ≡ length rows = ap length (c.as_slice.ensures.value ∙ c.in_ok-rows.ensures) ∙ filled-length rows in
    let long : length (rows_of_number p c.args.column.trip.0) ≡ length rows = ap length (rows-are p c.args.column.trip.0 rows c.trip_rows-rows.ensures) in
    omega (arith, c.requires.reaches, many, long)

pub times_along-requires-2-clause-keep : goal.times_along-requires-2-clause-keep
times_along-requires-2-clause-keep c =
    subst KeepTimes (sym (c.as_slice.ensures.value ∙ c.in_ok-rows.ensures))
    (keep-times Interpolated c.args.feed.now c.soundness.ensures c.args.column.trip.0 c.trip_rows-rows.result.now c.trip_rows-rows.ensures)

pub returns : goal.returns
returns c =
    let p = c.args.feed.now in
    let own = c.as_slice.result.now in
    let is : own ≡ filled_stop_times c.trip_rows-rows.result.now = c.as_slice.ensures.value ∙ c.in_ok-rows.ensures in
    let there : slice_get (stop_rows_by_trip (timed_parts Interpolated p)) c.args.column.trip.0 ≡ Some own =
    rows-there Interpolated p c.soundness.ensures c.args.column.trip.0 c.trip_rows-rows.result.now c.trip_rows-rows.ensures ∙ ap Some (sym is) in
    if_ok c.times_along-2.result _ _ c.times_along-2.ensures
    (λ times are. column-times (timed_parts Interpolated p) (sound-timed p c.soundness.ensures Interpolated) c.args.column c.args.stop_count own times.items there
    (λ row fs. are (timed_parts Interpolated p) row fs))
