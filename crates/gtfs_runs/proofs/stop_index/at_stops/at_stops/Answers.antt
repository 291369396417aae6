use Rattle.std.proofs.Common.{◌≡◌, ◌≤◌, ◌<◌, ◌+◌, ◌∙◌, ◌==◌, [], length, map, cond, get_or, true, sym, ap, subst, arith}
use Rattle.std.specs.List.{All}
use Rattle.std.proofs.lemmas.List.{length-map}
use Rattle.std.proofs.lemmas.Option.{slice_get-get_or}
use Rattle.gtfs_field.proofs.NumberFacts.{number_itself as itself}
use Rattle.gtfs_schema.specs.FieldValues.{if_there}
use Rattle.gtfs_rows.specs.TransferOrder.{Ascends}
use Rattle.gtfs_times.specs.TimedRows.{timed_parts}
use Rattle.gtfs_runs.specs.Tallies.{tally}
use Rattle.gtfs_runs.specs.StopIndex.{departure_row_cmp, is_this_row}
use Rattle.gtfs_runs.specs.steps.TripGroups.{GroupedTripValue}
use Rattle.gtfs_runs.specs.steps.AtStops.{StandBefore, at_stop, departs_of}
use Rattle.gtfs_runs.specs.steps.NotedRows.{IsNoted}
use Rattle.gtfs_runs.specs.steps.IndexedTrips.{IsOfRank, has_rank}
use Rattle.gtfs_runs.proofs.AtStopFacts.{done, done_more, known_trip, none_done, none_yet, nothing_ascends, nothing_at, rows_all, rows_more, stand_before, trip_within}
use Rattle.gtfs_runs.proofs.stop_index.at_stops.at_stops.Goals as goal

pub add_trip-requires-clause-trip : goal.add_trip-requires-clause-trip
add_trip-requires-clause-trip c =
    subst (λ t. t.0 < length c.args.feed.now.trips) (sym c.trip-trip.ensures)
    (known_trip c.args.feed.now c.args.trips.now c.requires.trips c.loop-rank.rank c.index-trips-rank.result c.loop-rank-test.true c.index-trips-rank.is)

pub loop-rank-init : goal.loop-rank-init
loop-rank-init c =
    let stops = c.args.feed.now.stops in
    let empty = c.in_ok-found.ensures in
    let q = timed_parts c.args.times c.args.feed.now in
    record {
      length = sym (length-map c.in_ok-found.found.items (λ x. x.items)) ∙ ap length empty ∙ length-map stops (λ _. []);
      told = λ s t r. ap (λ l. tally (is_this_row t r) (at_stop l s)) empty ∙ ap (tally (is_this_row t r)) (nothing_at stops s) ∙ none_done (departs_of q s t r) c.args.trips.now t;
      order = subst (All (Ascends (departure_row_cmp c.args.feed.now))) (sym empty) (nothing_ascends c.args.feed.now stops);
      noted = subst (All (All (IsNoted q))) (sym empty) (none_yet (IsNoted q) stops);
      ranked = subst (All (All (IsOfRank c.args.trips.now))) (sym empty) (none_yet (IsOfRank c.args.trips.now) stops);
    }

pub loop-rank-preserved : goal.loop-rank-preserved
loop-rank-preserved c =
    let p = c.args.feed.now in
    let q = timed_parts c.args.times p in
    let trips = c.args.trips.now in
    let n = c.loop-rank.rank in
    let within : n < length trips = c.loop-rank-test.true in
    let x : GroupedTripValue = c.index-trips-rank.result in
    let t = c.trip-trip.result.0 in
    let same : (get_or trips n x).trip.0 ≡ t = ap (λ z. z.trip.0) (sym c.index-trips-rank.is) ∙ ap (λ z. z.0) (sym c.trip-trip.ensures) in
    let own : has_rank trips t c.in_ok-small_number.field-0 ≡ true =
    ap (has_rank trips t) c.in_ok-small_number.ensures ∙ ap (λ o. if_there o (λ z. z.trip.0 == t)) (slice_get-get_or trips n x within) ∙ ap (λ m. m == t) same ∙ itself t in
    let inv = c.loop-rank.invariant in
    let lists = map (λ x. x.items) c.loop-rank.found.items in
    record {
      length = c.in_ok-add_trip.ensures.length ∙ inv.length;
      told = λ s v r.
          rows_more (departs_of q s v r) _ _ _ _ (v == t) (inv.told s v r) (c.in_ok-add_trip.ensures.told s v r) (done_more trips n v x within ∙ ap (λ m. done trips n v + cond (v == m) 1 0) same);
      order = c.in_ok-add_trip.ensures.order
          (subst (λ m. All (StandBefore p m 0) lists) same (stand_before p trips c.requires.trips c.requires.in_order n within lists (departs_of q) x inv.order inv.told));
      noted = c.in_ok-add_trip.ensures.noted inv.noted;
      ranked = c.in_ok-add_trip.ensures.ranked (has_rank trips) own inv.ranked;
    }

pub returns : goal.returns
returns c =
    let p = c.args.feed.now in
    let q = timed_parts c.args.times p in
    let trips = c.args.trips.now in
    let n = c.loop-rank.rank in
    let past : length trips ≤ n = omega (arith, c.loop-rank-test.false) in
    record {
      length = c.loop-rank.invariant.length;
      told = λ s t r. c.loop-rank.invariant.told s t r ∙ rows_all p trips c.requires.trips n past t (departs_of q s t r) (trip_within q s t r);
      order = c.loop-rank.invariant.order;
      noted = c.loop-rank.invariant.noted;
      ranked = c.loop-rank.invariant.ranked;
    }
