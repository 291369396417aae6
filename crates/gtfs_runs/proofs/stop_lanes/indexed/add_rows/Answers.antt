use Rattle.std.proofs.Common.{◌≡◌, ◌<◌, ◌≤◌, ◌+◌, ◌∙◌, ◌++◌, [], ◌∷◌, get_or, length, map, take, sym, ap, subst, arith}
use Rattle.std.proofs.lemmas.List.{take_all, take_more}
use Rattle.gtfs_runs.specs.StopLanes.{period_value}
use Rattle.gtfs_runs.specs.steps.FoundAtRow.{AreAdded}
use Rattle.gtfs_runs.specs.steps.IndexedTrips.{group_number}
use Rattle.gtfs_runs.proofs.GroupFacts.{no_trip}
use Rattle.gtfs_runs.proofs.RowSteps.{more_added, no_row, none_added}
use Rattle.gtfs_runs.proofs.stop_lanes.indexed.add_rows.Goals as goal

pub trip_at-requires : goal.trip_at-requires
trip_at-requires c = subst (λ k. k < length c.args.trips.now) (sym c.rank.ensures) (c.requires.ranked c.loop-row.row-index no_row c.loop-row-test.true).0

pub add_row-requires-clause-row : goal.add_row-requires-clause-row
add_row-requires-clause-row c = c.requires.rows c.loop-row.row-index no_row c.loop-row-test.true

pub add_row-requires-clause-service : goal.add_row-requires-clause-service
add_row-requires-clause-service c =
    let own = (c.requires.ranked c.loop-row.row-index no_row c.loop-row-test.true).1 no_trip in
    ap (λ z. z.service) (c.trip_at.ensures no_trip ∙ ap (λ k. get_or c.args.trips.now k no_trip) c.rank.ensures) ∙ own.service

pub add_row-requires-clause-start : goal.add_row-requires-clause-start
add_row-requires-clause-start c =
    let own = (c.requires.ranked c.loop-row.row-index no_row c.loop-row-test.true).1 no_trip in
    ap (λ z. z.start) (c.trip_at.ensures no_trip ∙ ap (λ k. get_or c.args.trips.now k no_trip) c.rank.ensures) ∙ own.start

pub add_row-requires-clause-marked : goal.add_row-requires-clause-marked
add_row-requires-clause-marked c = λ fs at.
    let own = (c.requires.ranked c.loop-row.row-index no_row c.loop-row-test.true).1 no_trip in
    ap (λ z. z.has_frequencies) (c.trip_at.ensures no_trip ∙ ap (λ k. get_or c.args.trips.now k no_trip) c.rank.ensures) ∙ own.marked fs at

pub loop-row-init : goal.loop-row-init
loop-row-init c = record {
  added = none_added c.args.feed.now c.args.found.now.listed.items (map period_value c.args.found.now.periods.items);
  groups = λ were. were;
}

pub loop-row-preserved : goal.loop-row-preserved
loop-row-preserved c =
    let rows = c.args.rows.now in
    let n = c.loop-row.row-index in
    let x = get_or rows n no_row in
    let before = c.args.found.now in
    let mid = c.loop-row.found in
    let new = c.add_row.new.found in
    let taken : take n rows ++ x ∷ [] ≡ take (n + 1) rows = sym (take_more rows n no_row c.loop-row-test.true) in
    record {
      added = subst (λ l. AreAdded c.args.feed.now l before.listed.items new.listed.items (map period_value before.periods.items) (map period_value new.periods.items)) taken
          (more_added c.args.feed.now (take n rows) (x ∷ []) before.listed.items mid.listed.items new.listed.items (map period_value before.periods.items) (map period_value mid.periods.items) (map period_value new.periods.items)
          c.loop-row.invariant.added c.in_ok-add_row.ensures.added);
      groups = λ were. c.in_ok-add_row.ensures.groups (group_number c.args.feed.now)
          (sym (ap (λ z. z.group) (c.trip_at.ensures no_trip ∙ ap (λ k. get_or c.args.trips.now k no_trip) c.rank.ensures) ∙ ((c.requires.ranked n no_row c.loop-row-test.true).1 no_trip).group))
          (c.loop-row.invariant.groups were);
    }

pub returns : goal.returns
returns c =
    let rows = c.args.rows.now in
    let past : length rows ≤ c.loop-row.row-index = omega (arith, c.loop-row-test.false) in
    let before = c.args.found.now in
    let new = c.loop-row.found in
    record {
      added = subst (λ l. AreAdded c.args.feed.now l before.listed.items new.listed.items (map period_value before.periods.items) (map period_value new.periods.items))
          (take_all c.loop-row.row-index rows past) c.loop-row.invariant.added;
      groups = c.loop-row.invariant.groups;
    }
