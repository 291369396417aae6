use Rattle.std.proofs.Common.{◌≡◌, ◌<◌, ◌++◌, [], List, length, map, sym, ap, subst, arith}
use Rattle.std.specs.List.{All}
use Rattle.std.proofs.lemmas.Option.{get_or_from_slice_get}
use Rattle.gtfs_rows.specs.RowsInMemory.{IsSoundParts}
use Rattle.gtfs_rows.specs.declared.parts.Parts.{Parts}
use Rattle.gtfs_times.specs.TimedRows.{timed_parts}
use Rattle.gtfs_runs.specs.StopLanes.{LaneValue, period_value}
use Rattle.gtfs_runs.specs.declared.departure_row.DepartureRow.{DepartureRow}
use Rattle.gtfs_runs.specs.declared.stop_lanes.listed.ListedEvent.{ListedEvent}
use Rattle.gtfs_runs.specs.steps.AtStops.{at_stop}
use Rattle.gtfs_runs.specs.steps.Courses.{AreServed}
use Rattle.gtfs_runs.specs.steps.IndexedTrips.{IsRanked, group_number}
use Rattle.gtfs_runs.specs.steps.FoundAtRow.{AreAdded, IsInside}
use Rattle.gtfs_runs.proofs.ChildFacts.{children_within}
use Rattle.gtfs_runs.proofs.GroupFacts.{nothing_numbered, numbers_of, trips_listed}
use Rattle.gtfs_runs.proofs.IndexRows.{children_rows, first_all, inside_rows, last_all, noted_rows, of_all, of_place}
use Rattle.gtfs_runs.proofs.RowFinds.{all_found}
use Rattle.gtfs_runs.proofs.RowSteps.{more_added}
use Rattle.gtfs_runs.proofs.stop_lanes.indexed.found_in_index.Goals as goal

pub add_rows-requires-clause-ranked : goal.add_rows-requires-clause-ranked
add_rows-requires-clause-ranked c =
    let i = c.args.index.now in
    let s = c.args.stop.0 in
    let sound = subst IsSoundParts c.feed-feed.ensures c.soundness-2.ensures in
    let children = c.children-children.result.now in
    let P = IsRanked i.feed c.trips-trips.result.now in
    let all = of_all i.times i.feed sound i.rows c.soundness.ensures c.notes.ensures s c.requires children c.children-children.ensures P c.trips-trips.ensures in
    subst (λ p. All (IsRanked p c.trips-trips.result.now) c.rows-rows.result.now) (sym c.feed-feed.ensures)
    (subst (All P) (get_or_from_slice_get i.rows s c.rows-rows.result.now [] c.rows-rows.ensures) (first_all P (at_stop i.rows s) (children_rows i.rows children) all))

pub add_children-requires-clause-ranked : goal.add_children-requires-clause-ranked
add_children-requires-clause-ranked c =
    let i = c.args.index.now in
    let s = c.args.stop.0 in
    let sound = subst IsSoundParts c.feed-feed.ensures c.soundness-2.ensures in
    let children = c.children-children.result.now in
    let P = IsRanked i.feed c.trips-trips.result.now in
    last_all P (at_stop i.rows s) (children_rows i.rows children)
    (of_all i.times i.feed sound i.rows c.soundness.ensures c.notes.ensures s c.requires children c.children-children.ensures P c.trips-trips.ensures)

pub add_rows-requires-clause-rows : goal.add_rows-requires-clause-rows
add_rows-requires-clause-rows c =
    let i = c.args.index.now in
    let s = c.args.stop.0 in
    let sound = subst IsSoundParts c.feed-feed.ensures c.soundness-2.ensures in
    let children = c.children-children.result.now in
    let inside = inside_rows i.times i.feed sound i.rows c.soundness.ensures c.notes.ensures s c.requires children c.children-children.ensures in
    subst (λ p. All (IsInside p) c.rows-rows.result.now) (sym c.feed-feed.ensures)
    (subst (All (IsInside i.feed)) (get_or_from_slice_get i.rows s c.rows-rows.result.now [] c.rows-rows.ensures) (first_all (IsInside i.feed) (at_stop i.rows s) (children_rows i.rows children) inside))

pub add_children-requires-clause-stops : goal.add_children-requires-clause-stops
add_children-requires-clause-stops c = children_within c.args.index.now.feed c.children-children.result.now c.args.stop.0 c.children-children.ensures

pub add_children-requires-clause-rows : goal.add_children-requires-clause-rows
add_children-requires-clause-rows c =
    let i = c.args.index.now in
    let s = c.args.stop.0 in
    let sound = subst IsSoundParts c.feed-feed.ensures c.soundness-2.ensures in
    let children = c.children-children.result.now in
    last_all (IsInside i.feed) (at_stop i.rows s) (children_rows i.rows children)
    (inside_rows i.times i.feed sound i.rows c.soundness.ensures c.notes.ensures s c.requires children c.children-children.ensures)

pub returns-clause-found : goal.returns-clause-found
returns-clause-found c =
    let i = c.args.index.now in
    let p = i.feed in
    let s = c.args.stop.0 in
    let sound = subst IsSoundParts c.feed-feed.ensures c.soundness-2.ensures in
    let children = c.children-children.result.now in
    let own = at_stop i.rows s in
    let rest = children_rows i.rows children in
    let mid = c.add_rows.new.found in
    let new = c.add_children.new.found in
    let listed = c.in_ok-with_capacity.field-0.items in
    let first : AreAdded p own [] mid.listed.items [] (map period_value mid.periods.items) =
    subst (λ (v : (Parts × List DepartureRow) × (List ListedEvent × List LaneValue)). AreAdded v.0.0 v.0.1 v.1.0 mid.listed.items v.1.1 (map period_value mid.periods.items))
    (λ j. ((c.feed-feed.ensures j, sym (get_or_from_slice_get i.rows s c.rows-rows.result.now [] c.rows-rows.ensures) j), (c.in_ok-with_capacity.ensures.items j, ap (map period_value) c.new.ensures.items j)))
    c.in_ok-add_rows.ensures.added in
    all_found i.times p sound s (own ++ rest) new.listed.items (map period_value new.periods.items)
    (of_place i.times p sound i.rows c.soundness.ensures c.notes.ensures s c.requires children c.children-children.ensures)
    (noted_rows i.times p sound i.rows c.soundness.ensures c.notes.ensures s c.requires children c.children-children.ensures)
    (more_added p own rest [] mid.listed.items new.listed.items [] (map period_value mid.periods.items) (map period_value new.periods.items) first c.in_ok-add_children.ensures.added)

pub returns-clause-numbers : goal.returns-clause-numbers
returns-clause-numbers c =
    let i = c.args.index.now in
    let p = i.feed in
    let xs = c.add_children.new.found.listed.items in
    let known : All (λ x. x.trip < length p.trips) xs = trips_listed p (timed_parts i.times p) xs (returns-clause-found c).told.own in
    let none = nothing_numbered c.feed-feed.result.now c.in_ok-with_capacity.field-0.items c.in_ok-with_capacity.ensures.items in
    let mid = subst (λ q. All (λ x. group_number q x.trip ≡ x.group) c.add_rows.new.found.listed.items) c.feed-feed.ensures (c.in_ok-add_rows.ensures.groups none) in
    numbers_of p xs known (c.in_ok-add_children.ensures.groups mid)

pub returns-clause-services : goal.returns-clause-services
returns-clause-services c =
    let none = subst (AreServed c.feed-feed.result.now) (sym c.in_ok-with_capacity.ensures.items) (λ k d within. absurd (omega (arith, within))) in
    c.in_ok-add_children.ensures.added.services (subst (λ p. AreServed p c.add_rows.new.found.listed.items) c.feed-feed.ensures (c.in_ok-add_rows.ensures.added.services none))
