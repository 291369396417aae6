use Rattle.std.proofs.Common.{◌∙◌, sym}
use Rattle.std.proofs.lemmas.Result.{on_ok_weaker}
use Rattle.gtfs_times.specs.TimedRows.{timed_parts}
use Rattle.gtfs_runs.proofs.TimedTrips.{filled_under, rows_timed, times_of}
use Rattle.gtfs_runs.proofs.TripsElsewhere.{place_added}
use Rattle.gtfs_runs.proofs.stop_lanes.place_rows.add_trip.Goals as goal

pub add_stop_times-requires : goal.add_stop_times-requires
add_stop_times-requires c =
    times_of c.args.times c.args.feed.now c.soundness.ensures c.args.trip.0 _ c.trip_rows-rows.result.now _ c.trip_rows-rows.ensures
    (c.deref.ensures.value ∙ c.in_ok-filled.ensures ∙ filled_under c.args.times c.trip_rows-rows.result.now (sym c.is_to_fill.ensures.value ∙ c.if-is_to_fill.true)) c.requires.stops

pub add_stop_times-requires-2 : goal.add_stop_times-requires-2
add_stop_times-requires-2 c =
    times_of c.args.times c.args.feed.now c.soundness.ensures c.args.trip.0 _ c.trip_rows-rows.result.now _ c.trip_rows-rows.ensures
    (sym (c.is_to_fill.ensures.kept c.if-is_to_fill.false)) c.requires.stops

pub returns-then-is_to_fill : goal.returns-then-is_to_fill
returns-then-is_to_fill c =
    let p = c.args.feed.now in
    let q = timed_parts c.args.times p in
    let rows = c.trip_rows-rows.result.now in
    let t = c.args.trip.0 in
    let is = c.deref.ensures.value ∙ c.in_ok-filled.ensures ∙ filled_under c.args.times rows (sym c.is_to_fill.ensures.value ∙ c.if-is_to_fill.true) in
    record {
      told = on_ok_weaker c.add_stop_times.result
          (λ added s v r place. place_added c.args.times p c.soundness.ensures s t c.requires.trip rows c.trip_rows-rows.ensures c.args.place.now place _ _ _ is added v r)
          c.add_stop_times.ensures.told;
      noted = on_ok_weaker c.add_stop_times.result (λ more. more q (rows_timed c.args.times p c.soundness.ensures t rows _ c.trip_rows-rows.ensures is)) c.add_stop_times.ensures.noted;
      inside = on_ok_weaker c.add_stop_times.result (λ more. more p c.requires.trip) c.add_stop_times.ensures.inside;
    }

pub returns : goal.returns
returns c =
    let p = c.args.feed.now in
    let q = timed_parts c.args.times p in
    let rows = c.trip_rows-rows.result.now in
    let t = c.args.trip.0 in
    let is = sym (c.is_to_fill.ensures.kept c.if-is_to_fill.false) in
    record {
      told = on_ok_weaker c.add_stop_times-2.result
          (λ added s v r place. place_added c.args.times p c.soundness.ensures s t c.requires.trip rows c.trip_rows-rows.ensures c.args.place.now place _ _ _ is added v r)
          c.add_stop_times-2.ensures.told;
      noted = on_ok_weaker c.add_stop_times-2.result (λ more. more q (rows_timed c.args.times p c.soundness.ensures t rows _ c.trip_rows-rows.ensures is)) c.add_stop_times-2.ensures.noted;
      inside = on_ok_weaker c.add_stop_times-2.result (λ more. more p c.requires.trip) c.add_stop_times-2.ensures.inside;
    }
