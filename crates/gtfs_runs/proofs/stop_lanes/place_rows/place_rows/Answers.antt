use Rattle.std.proofs.Common.{◌≡◌, ◌≤◌, ◌<◌, ◌∙◌, [], false, cond, ap, arith, get_or, length, map, subst, sym}
use Rattle.std.specs.List.{All, list_any}
use Rattle.std.proofs.lemmas.Bool.{eqb-true}
use Rattle.std.proofs.lemmas.List.{get_or-map, length-map}
use Rattle.gtfs_table.proofs.PartFacts.{length-parts}
use Rattle.gtfs_rows.specs.Trips.{stop_rows_by_trip}
use Rattle.gtfs_stop_times.specs.StopTimesByTrip.{is_at}
use Rattle.gtfs_times.specs.TimedRows.{timed_parts}
use Rattle.gtfs_runs.specs.Tallies.{tally}
use Rattle.gtfs_runs.specs.StopIndex.{is_this_row}
use Rattle.gtfs_runs.specs.steps.NotedRows.{IsNoted}
use Rattle.gtfs_runs.specs.steps.PlaceRows.{departs_in_place}
use Rattle.gtfs_runs.specs.steps.FoundAtRow.{IsInside}
use Rattle.gtfs_runs.proofs.PlaceRows.{place_within}
use Rattle.gtfs_runs.proofs.Tallies.{all_trips, more_trips, no_trips}
use Rattle.gtfs_runs.proofs.TripTimes.{rows_at}
use Rattle.gtfs_runs.proofs.TripsElsewhere.{no_more_there, none-departs}
use Rattle.gtfs_runs.proofs.stop_lanes.place_rows.place_rows.Goals.{then-index+in_ok-add_trip, else-index}
use Rattle.gtfs_runs.proofs.stop_lanes.place_rows.place_rows.Goals as goal

pub index-requires : goal.index-requires
index-requires c =
    let p = c.args.feed.now in
    let all = stop_rows_by_trip p in
    let are : c.in_ok-there.there.items ≡ map (list_any (is_at c.args.place.now)) all =
    c.in_ok-there.ensures ∙ ap (λ m. map (list_any (is_at m)) (stop_rows_by_trip c.parts-parts.result.now)) c.members.ensures
    ∙ ap (λ r. map (list_any (is_at c.args.place.now)) (stop_rows_by_trip r)) c.parts-parts.ensures.value in
    let size = ap length are ∙ length-map all (list_any (is_at c.args.place.now)) ∙ length-parts p.stop_times.starts p.stop_times.rows ∙ c.parts-parts.ensures.sound.stop_rows.0 in
    omega (arith, c.loop-number-test.true, c.trip_count-number-end.ensures, size, c.in_ok-there.there.ok.0)

pub loop-number-init : goal.loop-number-init
loop-number-init c = record {
  told = λ s t r place.
      ap (tally (is_this_row t r)) c.new-rows.ensures.items ∙ no_trips t (departs_in_place (timed_parts c.args.times c.args.feed.now) s t r);
  noted = subst (All (IsNoted (timed_parts c.args.times c.args.feed.now))) (sym c.new-rows.ensures.items) (λ k d within. absurd (omega (arith, within)));
  inside = subst (All (IsInside c.args.feed.now)) (sym c.new-rows.ensures.items) (λ k d within. absurd (omega (arith, within)));
}

pub loop-number-preserved : goal.loop-number-preserved
loop-number-preserved c =
    let p = c.args.feed.now in
    let q = timed_parts c.args.times p in
    let n = c.loop-number.number in
    let inv = c.loop-number.invariant in
    elim c.if-index.branch [
      | then-index+in_ok-add_trip w ↦
          let is = ap (λ v. v.items) w.rows-is in
          record {
            told = λ s t r place.
                more_trips t n (departs_in_place q s t r) _ _ (inv.told s t r place) (ap (tally (is_this_row t r)) is ∙ w.in_ok-add_trip.ensures.told s t r place);
            noted = subst (All (IsNoted q)) (sym is) (w.in_ok-add_trip.ensures.noted inv.noted);
            inside = subst (All (IsInside p)) (sym is) (w.in_ok-add_trip.ensures.inside inv.inside);
          }
      | else-index w ↦
          let is = ap (λ v. v.items) w.rows-is in
          let within : n < length p.trips = omega (arith, c.loop-number-test.true, c.trip_count-number-end.ensures) in
          let sound = c.parts-parts.ensures.sound in
          let all = stop_rows_by_trip p in
          let counted : n < length all = omega (arith, within, length-parts p.stop_times.starts p.stop_times.rows, sound.stop_rows.0) in
          let are : c.in_ok-there.there.items ≡ map (list_any (is_at c.args.place.now)) all =
          c.in_ok-there.ensures ∙ ap (λ m. map (list_any (is_at m)) (stop_rows_by_trip c.parts-parts.result.now)) c.members.ensures
          ∙ ap (λ r. map (list_any (is_at c.args.place.now)) (stop_rows_by_trip r)) c.parts-parts.ensures.value in
          let none : list_any (is_at c.args.place.now) (get_or all n []) ≡ false =
          sym (get_or-map (list_any (is_at c.args.place.now)) all n [] c.index.result.now counted) ∙ ap (λ bs. get_or bs n c.index.result.now) (sym are)
          ∙ sym c.index.ensures ∙ w.if-index.false in
          record {
            told = λ s t r place.
                more_trips t n (departs_in_place q s t r) _ _ (inv.told s t r place)
                (no_more_there n t _ _ (departs_in_place q s t r) (ap (tally (is_this_row t r)) is)
                (λ here. ap (λ m. departs_in_place q s m r) (eqb-true t n here) ∙ none-departs c.args.times p sound s n within (get_or all n []) (rows_at p sound n within) c.args.place.now place none r));
            noted = subst (All (IsNoted q)) (sym is) inv.noted;
            inside = subst (All (IsInside p)) (sym is) inv.inside;
          }
    ]

pub returns-clause-rows : goal.returns-clause-rows
returns-clause-rows c = λ s place t r.
    let q = timed_parts c.args.times c.args.feed.now in
    let n = c.loop-number.number in
    let past : length c.args.feed.now.trips ≤ n = omega (arith, c.trip_count-number-end.ensures, c.loop-number-test.false) in
    c.loop-number.invariant.told s t r place
    ∙ ap (λ b. cond b 1 0) (all_trips t n (departs_in_place q s t r) (λ holds. let known : t < length q.trips = place_within q s t r holds in omega (arith, known, past)))
