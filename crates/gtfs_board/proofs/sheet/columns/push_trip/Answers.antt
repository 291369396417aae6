use Rattle.std.proofs.Common.{◌<◌, length, subst}
use Rattle.gtfs_rows.proofs.NumberFacts.{trip_service}
use Rattle.gtfs_rows.proofs.TripFacts.{periods}
use Rattle.gtfs_runs.proofs.Bounds.{periods_within}
use Rattle.gtfs_board.proofs.SheetColumns.{rows-are, trip-idle, trip-pushed}
use Rattle.gtfs_board.proofs.sheet.columns.push_trip.Goals as goal

pub service_by_number-service-requires : goal.service_by_number-service-requires
service_by_number-service-requires c = trip_service c.args.feed.now c.soundness.ensures c.args.trip.0 c.trip_by_number-row.result.now c.trip_by_number-row.ensures

pub push_runs-requires-clause-filled : goal.push_runs-requires-clause-filled
push_runs-requires-clause-filled c = subst (λ rs. 0 < length rs) (rows-are c.args.feed.now c.args.trip.0 c.trip_rows-rows.result.now c.trip_rows-rows.ensures) c.requires.1

pub push_runs-requires-clause-moves : goal.push_runs-requires-clause-moves
push_runs-requires-clause-moves c = λ k d h.
    (periods_within c.args.feed.now c.soundness.ensures c.args.trip.0 c.trip_by_number-row.result.now c.trip_rows-rows.result.now c.trip_frequencies-periods.result.now
    c.trip_by_number-row.ensures c.trip_rows-rows.ensures c.trip_frequencies-periods.ensures k d h).moves

pub push_runs-requires-clause-apart : goal.push_runs-requires-clause-apart
push_runs-requires-clause-apart c = periods c.args.feed.now c.soundness.ensures c.args.trip.0 c.trip_frequencies-periods.result.now c.trip_frequencies-periods.ensures

pub returns-then-not-active : goal.returns-then-not-active
returns-then-not-active c = λ x.
    trip-idle c.args.feed.now c.soundness.ensures c.args.trip.0 c.trip_by_number-row.result.now c.trip_rows-rows.result.now c.trip_frequencies-periods.result.now
    c.service_by_number-service.result.now c.args.day x c.active.result _ c.trip_by_number-row.ensures c.trip_rows-rows.ensures c.trip_frequencies-periods.ensures
    c.service_by_number-service.ensures c.active.ensures c.if-not-active.true

pub returns : goal.returns
returns c = λ x.
    let row = c.trip_by_number-row.result.now in
    trip-pushed c.args.feed.now c.soundness.ensures c.args.trip.0 row c.trip_rows-rows.result.now c.trip_frequencies-periods.result.now
    c.service_by_number-service.result.now c.args.day x c.active.result _ _ c.trip_by_number-row.ensures c.trip_rows-rows.ensures c.trip_frequencies-periods.ensures
    c.service_by_number-service.ensures c.active.ensures c.if-not-active.false (c.in_ok-push_runs.ensures c.args.feed.now row x)
