use Rattle.std.proofs.Common.{◌≡◌, ◌≤◌, ◌<◌, ◌+◌, ◌∙◌, ◌++◌, length, map, take, sym, ap, subst, arith}
use Rattle.std.specs.List.{All}
use Rattle.std.proofs.lemmas.List.{take_all}
use Rattle.std.proofs.lemmas.Option.{get_or_from_slice_get}
use Rattle.gtfs_runs.specs.StopLanes.{period_value}
use Rattle.gtfs_runs.specs.declared.stop_index.children.Child.{Child}
use Rattle.gtfs_runs.specs.steps.AtStops.{at_stop}
use Rattle.gtfs_runs.specs.steps.IndexedTrips.{IsRanked, group_number}
use Rattle.gtfs_runs.specs.steps.FoundAtRow.{AreAdded, IsInside}
use Rattle.gtfs_runs.proofs.IndexRows.{child_rows, children_rows, more_children}
use Rattle.gtfs_runs.proofs.RowSteps.{more_added, none_added}
use Rattle.gtfs_runs.proofs.stop_lanes.indexed.add_children.Goals as goal

pub rows-requires : goal.rows-requires
rows-requires c =
    let none : Child = record { parent = 0; stop = 0 } in
    subst (λ n. n < length c.args.index.now.feed.stops) (sym c.stop.ensures) (c.requires.stops c.loop-child.child-index none c.loop-child-test.true)

pub add_rows-requires-clause-ranked : goal.add_rows-requires-clause-ranked
add_rows-requires-clause-ranked c =
    let index = c.args.index.now in
    let none : Child = record { parent = 0; stop = 0 } in
    let is : at_stop index.rows c.stop.result.0 ≡ c.rows.result.now = get_or_from_slice_get index.rows c.stop.result.0 c.rows.result.now _ c.rows.ensures in
    subst (λ p. All (IsRanked p c.args.trips.now) c.rows.result.now) (sym c.feed.ensures)
    (subst (All (IsRanked index.feed c.args.trips.now)) (ap (at_stop index.rows) (sym c.stop.ensures) ∙ is)
    (child_rows (IsRanked index.feed c.args.trips.now) index.rows c.args.children.now c.requires.ranked c.loop-child.child-index none c.loop-child-test.true))

pub add_rows-requires-clause-rows : goal.add_rows-requires-clause-rows
add_rows-requires-clause-rows c =
    let index = c.args.index.now in
    let none : Child = record { parent = 0; stop = 0 } in
    let is : at_stop index.rows c.stop.result.0 ≡ c.rows.result.now = get_or_from_slice_get index.rows c.stop.result.0 c.rows.result.now _ c.rows.ensures in
    subst (λ p. All (IsInside p) c.rows.result.now) (sym c.feed.ensures)
    (subst (All (IsInside index.feed)) (ap (at_stop index.rows) (sym c.stop.ensures) ∙ is)
    (child_rows (IsInside index.feed) index.rows c.args.children.now c.requires.rows c.loop-child.child-index none c.loop-child-test.true))

pub loop-child-init : goal.loop-child-init
loop-child-init c = record {
  added = none_added c.args.index.now.feed c.args.found.now.listed.items (map period_value c.args.found.now.periods.items);
  groups = λ were. were;
}

pub loop-child-preserved : goal.loop-child-preserved
loop-child-preserved c =
    let index = c.args.index.now in
    let children = c.args.children.now in
    let n = c.loop-child.child-index in
    let none : Child = record { parent = 0; stop = 0 } in
    let before = c.args.found.now in
    let mid = c.loop-child.found in
    let new = c.add_rows.new.found in
    let rows = c.rows.result.now in
    let is : at_stop index.rows c.stop.result.0 ≡ rows = get_or_from_slice_get index.rows c.stop.result.0 rows _ c.rows.ensures in
    let more : children_rows index.rows (take n children) ++ rows ≡ children_rows index.rows (take (n + 1) children) =
    ap (λ l. children_rows index.rows (take n children) ++ l) (sym is ∙ ap (at_stop index.rows) c.stop.ensures) ∙ sym (more_children index.rows children n none c.loop-child-test.true) in
    record {
      added = subst (λ l. AreAdded index.feed l before.listed.items new.listed.items (map period_value before.periods.items) (map period_value new.periods.items)) more
          (more_added index.feed (children_rows index.rows (take n children)) rows before.listed.items mid.listed.items new.listed.items
          (map period_value before.periods.items) (map period_value mid.periods.items) (map period_value new.periods.items) c.loop-child.invariant.added
          (subst (λ p. AreAdded p rows mid.listed.items new.listed.items (map period_value mid.periods.items) (map period_value new.periods.items)) c.feed.ensures c.in_ok-add_rows.ensures.added));
      groups = λ were. subst (λ p. All (λ x. group_number p x.trip ≡ x.group) new.listed.items) c.feed.ensures
          (c.in_ok-add_rows.ensures.groups (subst (λ p. All (λ x. group_number p x.trip ≡ x.group) mid.listed.items) (sym c.feed.ensures) (c.loop-child.invariant.groups were)));
    }

pub returns : goal.returns
returns c =
    let children = c.args.children.now in
    let past : length children ≤ c.loop-child.child-index = omega (arith, c.loop-child-test.false) in
    let before = c.args.found.now in
    let new = c.loop-child.found in
    record {
      added = subst (λ l. AreAdded c.args.index.now.feed (children_rows c.args.index.now.rows l) before.listed.items new.listed.items (map period_value before.periods.items) (map period_value new.periods.items))
          (take_all c.loop-child.child-index children past) c.loop-child.invariant.added;
      groups = c.loop-child.invariant.groups;
    }
