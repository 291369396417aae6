use Rattle.std.proofs.Common.{length, sym, subst}
use Rattle.std.specs.List.Sorted.{IsSorted}
use Rattle.csv.specs.Records.{Rising}
use Rattle.gtfs_rows.specs.declared.parts.Parts.{Parts}
use Rattle.gtfs_runs.specs.steps.TripGroups.{AreOfTrips, grouped_cmp}
use Rattle.gtfs_runs.specs.steps.IndexedTrips.{AreIndexedTrips, IsOfRank}
use Rattle.std.specs.List.{All}
use Rattle.gtfs_runs.proofs.GroupFacts.{all_ranked, trips_moved}
use Rattle.gtfs_runs.proofs.Numbers.{by_groups}
use Rattle.gtfs_runs.proofs.stop_index.StopIndex.build.Goals as goal

pub stop_lists-requires : goal.stop_lists-requires
stop_lists-requires c =
    subst (λ (p : Parts). Rising 0 p.stop_times.starts (length p.stop_times.rows)) (sym c.parts.ensures.value) c.parts.ensures.sound.stop_rows.1

pub build-requires-clause-trips : goal.build-requires-clause-trips
build-requires-clause-trips c =
    let p = c.args.feed.now in
    subst (AreOfTrips p (length p.trips)) (sym c.deref.ensures.value) (trips_moved p (length p.trips) _ _ c.by_group-trips.ensures.same c.in_ok-grouped_trips.ensures)

pub build-requires-clause-in_order : goal.build-requires-clause-in_order
build-requires-clause-in_order c = subst (IsSorted grouped_cmp) (sym c.deref.ensures.value) c.by_group-trips.ensures.in_order

pub indexed_trips-requires-clause-trips : goal.indexed_trips-requires-clause-trips
indexed_trips-requires-clause-trips c =
    let p = c.args.feed.now in
    subst (AreOfTrips p (length p.trips)) (sym c.deref-2.ensures.value) (trips_moved p (length p.trips) _ _ c.by_group-trips.ensures.same c.in_ok-grouped_trips.ensures)

pub indexed_trips-requires-clause-in_order : goal.indexed_trips-requires-clause-in_order
indexed_trips-requires-clause-in_order c = by_groups _ (subst (IsSorted grouped_cmp) (sym c.deref-2.ensures.value) c.by_group-trips.ensures.in_order)

pub invariant_of-result : goal.invariant_of-result
invariant_of-result c =
    let p = c.args.feed.now in
    let sorted = c.by_group-trips.result.items in
    record {
      rows = c.in_ok-rows.ensures.rows;
      noted = c.in_ok-rows.ensures.noted;
      children = c.in_ok-children.ensures;
      trips = all_ranked p sorted c.in_ok-trips.trips.items (subst (λ l. AreIndexedTrips p l c.in_ok-trips.trips.items) c.deref-2.ensures.value c.in_ok-trips.ensures) _
          (subst (λ l. All (All (IsOfRank l)) c.in_ok-rows.rows) c.deref.ensures.value c.in_ok-rows.ensures.ranked);
    }
