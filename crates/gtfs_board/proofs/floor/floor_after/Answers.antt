use Rattle.std.proofs.Common.{rules, ◌≡◌, ◌<◌, sym, ap, ◌∙◌, arith, Some, None, length, w32, w64, SFits}
use Rattle.std.specs.Prelude.{bytes_eq, option_map, position}
use Rattle.std.proofs.lemmas.Int.{to_z-of_z}
use Rattle.std.proofs.lemmas.List.{length-map}
use Rattle.gtfs_schema.proofs.SiteFacts.{text_is}
use Rattle.gtfs_rows.specs.RowsInMemory.{text_of_number, trip_ids}
use Rattle.gtfs_board.specs.CandidateKeys.{key_among}
use Rattle.gtfs_board.specs.LentKeys.{plain_key}
use Rattle.gtfs_board.specs.declared.upcoming.candidate.Candidate.{Candidate}
use Rattle.gtfs_runs.proofs.TripIds.{position_at, position_none, trip_ids_ascend}
use Rattle.gtfs_board.proofs.Floors.{absent_lt, after_lt}
use Rattle.gtfs_board.proofs.floor.floor_after.Goals as goal

pub returns-in-Some-clause-value : goal.returns-in-Some-clause-value
returns-in-Some-clause-value c x known =
    let p = c.args.feed.now in
    let k = plain_key c.args.key.now in
    let day_fits : SFits w32 c.number.result = search rules in
    let instant_fits : SFits w64 c.args.key.now.instant = search rules in
    let day = to_z-of_z w32 c.number.result day_fits ∙ c.number.ensures.value in
    let found : position (bytes_eq k.trip) (trip_ids p) ≡ Some c.in-Some.trip.0 = sym c.trip.ensures ∙ ap (option_map (λ n. n.0)) c.in-Some.is in
    let there = position_at (bytes_eq k.trip) (trip_ids p) c.in-Some.trip.0 found in
    let id : text_of_number (trip_ids p) c.in-Some.trip.0 ≡ k.trip = sym (text_is k.trip (text_of_number (trip_ids p) c.in-Some.trip.0) there.1) in
    let floor : Candidate = record { instant = k.instant; trip = c.in-Some.trip.0; lane = c.args.lanes; row = 0; run = k.run; sequence = k.sequence; day = k.day; at = 0 } in
    let same : key_among (trip_ids p) floor ≡ k = λ i. record { instant = k.instant; trip = id i; run = k.run; sequence = k.sequence; day = k.day } in
    rw (to_z-of_z w64 c.args.key.now.instant instant_fits, day)
    (after_lt (trip_ids p) floor x k (trip_ids_ascend p c.soundness.ensures) there.0 (omega (arith, known.trip, length-map p.trips (λ t. t.trip_id))) same known.lane)

pub returns-in-None-clause-value : goal.returns-in-None-clause-value
returns-in-None-clause-value c x known =
    let p = c.args.feed.now in
    let k = plain_key c.args.key.now in
    let instant_fits : SFits w64 c.args.key.now.instant = search rules in
    let value = rw (to_z-of_z w64 c.args.key.now.instant instant_fits) at c.floor_before.ensures.value in
    let found : position (bytes_eq k.trip) (trip_ids p) ≡ None = sym c.trip.ensures ∙ ap (option_map (λ n. n.0)) c.in-None.is in
    let in_ids : x.trip < length (trip_ids p) = omega (arith, known.trip, length-map p.trips (λ t. t.trip_id)) in
    absent_lt (trip_ids p) x k c.trips_below.result _ (value x known.day) (c.trips_below.ensures x.trip known.trip)
    (position_none (bytes_eq k.trip) (trip_ids p) found x.trip in_ids)
