use Rattle.std.proofs.Common.{◌∙◌, length, refl, sym}
use Rattle.std.proofs.lemmas.Result.{on_ok_weaker}
use Rattle.gtfs_times.specs.TimedRows.{timed_parts}
use Rattle.gtfs_runs.proofs.AtStopFacts.{trip_added}
use Rattle.gtfs_runs.proofs.TimedTrips.{filled_under, rows_timed, times_of}
use Rattle.gtfs_runs.proofs.stop_index.at_stops.add_trip.Goals as goal

pub add_rows-requires-clause-ascend : goal.add_rows-requires-clause-ascend
add_rows-requires-clause-ascend c =
    (times_of c.args.times c.args.feed.now c.soundness.ensures c.args.trip.0 (length c.args.feed.now.stops) c.trip_rows-rows.result.now _ c.trip_rows-rows.ensures
    (c.deref.ensures.value ∙ c.in_ok-filled.ensures ∙ filled_under c.args.times c.trip_rows-rows.result.now (sym c.is_to_fill.ensures.value ∙ c.if-is_to_fill.true)) refl).ascend

pub add_rows-requires-clause-stops : goal.add_rows-requires-clause-stops
add_rows-requires-clause-stops c =
    (times_of c.args.times c.args.feed.now c.soundness.ensures c.args.trip.0 (length c.args.found.now.items) c.trip_rows-rows.result.now _ c.trip_rows-rows.ensures
    (c.deref.ensures.value ∙ c.in_ok-filled.ensures ∙ filled_under c.args.times c.trip_rows-rows.result.now (sym c.is_to_fill.ensures.value ∙ c.if-is_to_fill.true)) c.requires.stops).stops

pub add_rows-requires-2-clause-ascend : goal.add_rows-requires-2-clause-ascend
add_rows-requires-2-clause-ascend c =
    (times_of c.args.times c.args.feed.now c.soundness.ensures c.args.trip.0 (length c.args.feed.now.stops) c.trip_rows-rows.result.now _ c.trip_rows-rows.ensures
    (sym (c.is_to_fill.ensures.kept c.if-is_to_fill.false)) refl).ascend

pub add_rows-requires-2-clause-stops : goal.add_rows-requires-2-clause-stops
add_rows-requires-2-clause-stops c =
    (times_of c.args.times c.args.feed.now c.soundness.ensures c.args.trip.0 (length c.args.found.now.items) c.trip_rows-rows.result.now _ c.trip_rows-rows.ensures
    (sym (c.is_to_fill.ensures.kept c.if-is_to_fill.false)) c.requires.stops).stops

pub returns-then-is_to_fill : goal.returns-then-is_to_fill
returns-then-is_to_fill c =
    let q = timed_parts c.args.times c.args.feed.now in
    let rows = c.trip_rows-rows.result.now in
    let is = c.deref.ensures.value ∙ c.in_ok-filled.ensures ∙ filled_under c.args.times rows (sym c.is_to_fill.ensures.value ∙ c.if-is_to_fill.true) in
    record {
      length = c.add_rows.ensures.length;
      told = on_ok_weaker c.add_rows.result
          (λ added. trip_added c.args.times c.args.feed.now c.soundness.ensures c.args.trip.0 rows _ _ _ c.trip_rows-rows.ensures is added)
          c.add_rows.ensures.told;
      order = on_ok_weaker c.add_rows.result (λ later was k d within. (later c.args.feed.now was k d within).in_order) c.add_rows.ensures.order;
      noted = on_ok_weaker c.add_rows.result (λ more. more q (rows_timed c.args.times c.args.feed.now c.soundness.ensures c.args.trip.0 rows _ c.trip_rows-rows.ensures is)) c.add_rows.ensures.noted;
      ranked = c.add_rows.ensures.ranked;
    }

pub returns : goal.returns
returns c =
    let q = timed_parts c.args.times c.args.feed.now in
    let rows = c.trip_rows-rows.result.now in
    let is = sym (c.is_to_fill.ensures.kept c.if-is_to_fill.false) in
    record {
      length = c.add_rows-2.ensures.length;
      told = on_ok_weaker c.add_rows-2.result
          (λ added. trip_added c.args.times c.args.feed.now c.soundness.ensures c.args.trip.0 rows _ _ _ c.trip_rows-rows.ensures is added)
          c.add_rows-2.ensures.told;
      order = on_ok_weaker c.add_rows-2.result (λ later was k d within. (later c.args.feed.now was k d within).in_order) c.add_rows-2.ensures.order;
      noted = on_ok_weaker c.add_rows-2.result (λ more. more q (rows_timed c.args.times c.args.feed.now c.soundness.ensures c.args.trip.0 rows _ c.trip_rows-rows.ensures is)) c.add_rows-2.ensures.noted;
      ranked = c.add_rows-2.ensures.ranked;
    }
