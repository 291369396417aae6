use Rattle.std.proofs.Common.{◌∙◌, sym}
use Rattle.std.proofs.lemmas.Result.{on_ok_weaker}
use Rattle.gtfs_runs.proofs.TimedTrips.{filled_under, rows_timed, times_of}
use Rattle.gtfs_runs.proofs.flat.push_trip.Goals as goal

pub push_rows-requires-clause-times : goal.push_rows-requires-clause-times
push_rows-requires-clause-times c =
    times_of c.args.times c.args.feed.now c.soundness.ensures c.args.trip.0 _ c.trip_rows-rows.result.now _ c.trip_rows-rows.ensures
    (c.deref.ensures.value ∙ c.in_ok-filled.ensures ∙ filled_under c.args.times c.trip_rows-rows.result.now (sym c.is_to_fill.ensures.value ∙ c.if-is_to_fill.true)) c.requires.place

pub push_rows-requires-2-clause-times : goal.push_rows-requires-2-clause-times
push_rows-requires-2-clause-times c =
    times_of c.args.times c.args.feed.now c.soundness.ensures c.args.trip.0 _ c.trip_rows-rows.result.now _ c.trip_rows-rows.ensures
    (sym (c.is_to_fill.ensures.kept c.if-is_to_fill.false)) c.requires.place

pub returns-then-is_to_fill : goal.returns-then-is_to_fill
returns-then-is_to_fill c =
    let rows = c.trip_rows-rows.result.now in
    let is = c.deref.ensures.value ∙ c.in_ok-filled.ensures ∙ filled_under c.args.times rows (sym c.is_to_fill.ensures.value ∙ c.if-is_to_fill.true) in
    on_ok_weaker c.push_rows.result
    (λ told s service e place. told c.args.times s service e place (rows_timed c.args.times c.args.feed.now c.soundness.ensures c.args.trip.0 rows _ c.trip_rows-rows.ensures is))
    c.push_rows.ensures

pub returns : goal.returns
returns c =
    let rows = c.trip_rows-rows.result.now in
    let is = sym (c.is_to_fill.ensures.kept c.if-is_to_fill.false) in
    on_ok_weaker c.push_rows-2.result
    (λ told s service e place. told c.args.times s service e place (rows_timed c.args.times c.args.feed.now c.soundness.ensures c.args.trip.0 rows _ c.trip_rows-rows.ensures is))
    c.push_rows-2.ensures
