use Rattle.std.proofs.Common.{rules, ◌<◌, ◌∙◌, sym, ap, arith, length, w64, SFits, pos}
use Rattle.std.specs.Prelude.{option_map}
use Rattle.std.specs.Ordering.{int_cmp, nat_cmp, ordering_then}
use Rattle.std.proofs.lemmas.Int.{to_z-of_z}
use Rattle.std.proofs.lemmas.List.{length-map}
use Rattle.gtfs_rows.specs.RowsInMemory.{trip_ids}
use Rattle.gtfs_runs.proofs.SeekOrder.{known-trip, unknown-trip}
use Rattle.gtfs_runs.proofs.TripIds.{trip_ids_ascend}
use Rattle.gtfs_runs.proofs.seek.Seek.moment.Goals as goal

pub returns-in-Some : goal.returns-in-Some
returns-in-Some c = λ e within.
    let p = c.args.feed.now in
    let s = c.args.self.now in
    let at_fits : SFits w64 s.at = search rules in
    let seq_fits : SFits w64 s.seq = search rules in
    let inside : e.trip.0 < length (trip_ids p) = omega (arith, within, length-map p.trips (λ t. t.trip_id)) in
    rw (to_z-of_z w64 s.at at_fits, to_z-of_z w64 s.seq seq_fits)
    (known-trip (trip_ids p) s.trip.now c.in-Some.trip.0 e.trip.0 (int_cmp s.at (pos e.at)) (ordering_then (nat_cmp s.run e.run) (int_cmp s.seq (pos e.seq)))
    (trip_ids_ascend p c.soundness.ensures) (sym c.trip.ensures ∙ ap (option_map (λ n. n.0)) c.in-Some.is) inside)

pub returns-in-None : goal.returns-in-None
returns-in-None c = λ e within.
    let p = c.args.feed.now in
    let s = c.args.self.now in
    let at_fits : SFits w64 s.at = search rules in
    let inside : e.trip.0 < length (trip_ids p) = omega (arith, within, length-map p.trips (λ t. t.trip_id)) in
    rw (to_z-of_z w64 s.at at_fits)
    (unknown-trip (trip_ids p) s.trip.now c.trips_below.result e.trip.0 e.run e.seq (int_cmp s.at (pos e.at)) (ordering_then (nat_cmp s.run e.run) (int_cmp s.seq (pos e.seq)))
    (sym c.trip.ensures ∙ ap (option_map (λ n. n.0)) c.in-None.is) inside (c.trips_below.ensures e.trip.0 within))
