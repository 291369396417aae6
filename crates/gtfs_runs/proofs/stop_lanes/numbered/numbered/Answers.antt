use Rattle.std.proofs.Common.{◌≡◌, ◌≤◌, ◌∙◌, ◌==◌, get_or, map, sym, ap, subst}
use Rattle.std.specs.List.{All}
use Rattle.std.specs.List.Sorted.{IsSorted}
use Rattle.gtfs_runs.specs.Tallies.{tally}
use Rattle.gtfs_runs.specs.steps.TripGroups.{below, grouped_cmp, sharing, trip_group}
use Rattle.gtfs_runs.proofs.Numbers.{are_numbered, both_made, by_groups, shared, shared_by}
use Rattle.gtfs_runs.proofs.stop_lanes.numbered.numbered.Goals as goal

pub with_groups-requires-clause-in_order : goal.with_groups-requires-clause-in_order
with_groups-requires-clause-in_order c = by_groups _ (subst (IsSorted grouped_cmp) (sym c.deref-3.ensures.value) c.by_group-trips.ensures.in_order)

pub returns-clause-numbers : goal.returns-clause-numbers
returns-clause-numbers c =
    let p = c.args.feed.now in
    let trips = c.in_ok-trips.trips.items in
    let grouped = c.in_ok-grouped_trips.field-0.items in
    let sorted = c.by_group-trips.result.items in
    let listed = c.args.listed.items in
    let all = subst (All (λ x. 1 ≤ tally (λ t. x.trip == t.0) trips)) c.deref.ensures.value c.in_ok-trips.ensures.all in
    let same = c.in_ok-grouped_trips.ensures ∙ ap (map (λ t. trip_group p t.0)) c.deref-2.ensures.value in
    let sharing_all : All (λ x. 1 ≤ sharing grouped (trip_group p x.trip)) listed = λ k d within. shared p trips grouped (get_or listed k d).trip same (all k d within) in
    both_made c.with_groups.result _ _ _
    (λ found same numbers.
    are_numbered p grouped sorted found.items c.by_group-trips.ensures.same (shared_by p grouped listed found.items (λ q. sym (same q)) sharing_all)
    (subst (λ l. All (λ x. x.group ≡ below l (trip_group p x.trip)) found.items) c.deref-3.ensures.value numbers))
    c.with_groups.ensures.same c.with_groups.ensures.numbers
