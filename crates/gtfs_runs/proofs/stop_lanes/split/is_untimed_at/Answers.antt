use Rattle.std.proofs.Common.{◌≡◌, ◌∙◌, ◌≤◌, List, Some, length, refl, sym, ap, arith}
use Rattle.std.specs.List.{slice_get}
use Rattle.std.specs.Prelude.{not}
use Rattle.std.proofs.lemmas.Bool.{le-ltb}
use Rattle.std.proofs.lemmas.Option.{slice_get_past, slice_get_read}
use Rattle.gtfs_schema.specs.FieldValues.{if_there}
use Rattle.gtfs_stop_times.specs.declared.stop_row.StopRow.{StopRow}
use Rattle.gtfs_times.specs.TimedRows.{lacks_time}
use Rattle.gtfs_runs.proofs.UntimedEvents.{untimed_past, untimed_row}
use Rattle.gtfs_runs.proofs.stop_lanes.split.is_untimed_at.Goals as goal

pub returns-then-event-trip_count : goal.returns-then-event-trip_count
returns-then-event-trip_count c = sym (untimed_past c.args.feed.now c.args.event.now (omega (arith, c.if-event-trip_count.true, c.trip_count.ensures)))

pub returns-then-event-rows : goal.returns-then-event-rows
returns-then-event-rows c =
    let p = c.args.feed.now in
    let e = c.args.event.now in
    let rows : List StopRow = c.trip_rows-rows.result.now in
    let at : slice_get rows e.row ≡ Some c.index-rows-event.result = slice_get_read rows (length rows) e.row c.index-rows-event.result refl c.if-event-rows.true c.index-rows-event.is in
    ap not c.is_timed.ensures ∙ sym (untimed_row p c.soundness.ensures e rows (omega (arith, c.if-event-trip_count.false, c.trip_count.ensures)) c.trip_rows-rows.ensures
    ∙ ap (λ o. if_there o lacks_time) at)

pub returns-else-event-rows : goal.returns-else-event-rows
returns-else-event-rows c =
    let p = c.args.feed.now in
    let e = c.args.event.now in
    let rows : List StopRow = c.trip_rows-rows.result.now in
    let past : length rows ≤ e.row = omega (arith, c.if-event-rows.false) in
    le-ltb e.row (length rows) past ∙ sym (untimed_row p c.soundness.ensures e rows (omega (arith, c.if-event-trip_count.false, c.trip_count.ensures)) c.trip_rows-rows.ensures
    ∙ ap (λ o. if_there o lacks_time) (slice_get_past rows e.row past))
