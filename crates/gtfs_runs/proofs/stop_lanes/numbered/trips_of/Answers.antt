use Rattle.std.proofs.Common.{◌≡◌, ◌<◌, ◌++◌, ◌∙◌, ◌∷◌, [], get_or, length, map, sym, ap, subst, arith}
use Rattle.std.specs.List.{All}
use Rattle.std.proofs.lemmas.List.{get_or_default, map-append}
use Rattle.std.proofs.lemmas.List.Elements.{All-push}
use Rattle.std.proofs.lemmas.Option.{get_or_from_slice_get}
use Rattle.gtfs_rows.specs.Trips.{stop_rows_by_trip}
use Rattle.gtfs_runs.specs.steps.TripGroups.{trip_group}
use Rattle.gtfs_stop_times.specs.StopLists.{stops_in}
use Rattle.gtfs_runs.specs.declared.stop_lanes.listed.ListedEvent.{ListedEvent}
use Rattle.gtfs_runs.proofs.Chunks.{no_event}
use Rattle.gtfs_runs.proofs.Numbers.{trips_kept, trips_more}
use Rattle.gtfs_runs.proofs.stop_lanes.numbered.trips_of.Goals.{then-not-goes_on+in_ok-push+in_ok-push-2, else-not-goes_on}
use Rattle.gtfs_runs.proofs.stop_lanes.numbered.trips_of.Goals as goal

pub loop-n-preserved : goal.loop-n-preserved
loop-n-preserved c =
    let p = c.args.feed.now in
    let xs = c.args.listed.now in
    let n = c.loop-n.n in
    let old = c.loop-n.trips.items in
    let new = c.if-not-goes_on.trips.items in
    let inv = c.loop-n.invariant in
    elim c.if-not-goes_on.branch [
      | then-not-goes_on+in_ok-push+in_ok-push-2 w ↦
          let t = w.trip-trip.result in
          let pushed = ap (λ v. v.items) w.trips-is ∙ w.in_ok-push.ensures.items in
          let is : (d : ListedEvent) → (get_or xs n d).trip ≡ t.0 = λ d. sym (w.trip-trip.ensures ∙ ap (λ x. x.trip) (get_or_default xs n _ d c.loop-n-test.true)) in
          let known : t.0 < length p.trips = subst (λ m. m < length p.trips) (is no_event) (c.requires n no_event c.loop-n-test.true) in
          record {
            known = subst (All (λ u. u.0 < length p.trips)) (sym pushed) (All-push (λ u. u.0 < length p.trips) old t inv.known known);
            all = trips_more xs old new n t is pushed inv.all;
            stops = w.lists-is ∙ w.in_ok-push-2.ensures
                ∙ (λ i. inv.stops i ++ stops_in (sym (get_or_from_slice_get (stop_rows_by_trip p) t.0 w.trip_rows.result.now [] w.trip_rows.ensures) i) ∷ [])
                ∙ sym (ap (map (λ u. (trip_group p u.0).1)) pushed ∙ map-append (λ u. (trip_group p u.0).1) old (t ∷ []));
          }
      | else-not-goes_on w ↦
          let kept = ap (λ v. v.items) w.trips-is in
          record {
            known = subst (All (λ u. u.0 < length p.trips)) (sym kept) inv.known;
            all = trips_kept xs old new n (c.goes_on.ensures.before w.if-not-goes_on.false) (λ d. c.goes_on.ensures.trip d w.if-not-goes_on.false) kept inv.all;
            stops = w.lists-is ∙ inv.stops ∙ ap (map (λ u. (trip_group p u.0).1)) (sym kept);
          }
    ]

pub returns-clause-all : goal.returns-clause-all
returns-clause-all c = λ k d within. c.loop-n.invariant.all k d (omega (arith, within, c.loop-n-test.false))
