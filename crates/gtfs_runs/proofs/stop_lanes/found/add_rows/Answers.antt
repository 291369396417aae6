use Rattle.std.proofs.Common.{◌≡◌, ◌≤◌, ◌+◌, ◌++◌, [], ◌∷◌, get_or, length, map, take, sym, subst, arith}
use Rattle.std.proofs.lemmas.List.{take_all, take_more}
use Rattle.gtfs_runs.specs.StopLanes.{period_value}
use Rattle.gtfs_runs.specs.steps.FoundAtRow.{AreAdded}
use Rattle.gtfs_runs.proofs.RowSteps.{more_added, no_row, none_added}
use Rattle.gtfs_runs.proofs.stop_lanes.found.add_rows.Goals as goal

pub of-requires : goal.of-requires
of-requires c =
    let inside = (c.requires c.loop-row.row-index no_row c.loop-row-test.true).0 in
    omega (arith, c.trip.ensures, inside)

pub add_row-requires-clause-row : goal.add_row-requires-clause-row
add_row-requires-clause-row c = c.requires c.loop-row.row-index no_row c.loop-row-test.true

pub loop-row-init : goal.loop-row-init
loop-row-init c = none_added c.args.feed.now c.args.found.now.listed.items (map period_value c.args.found.now.periods.items)

pub loop-row-preserved : goal.loop-row-preserved
loop-row-preserved c =
    let rows = c.args.rows.now in
    let n = c.loop-row.row-index in
    let x = get_or rows n no_row in
    let before = c.args.found.now in
    let mid = c.loop-row.found in
    let new = c.add_row.new.found in
    let taken : take n rows ++ x ∷ [] ≡ take (n + 1) rows = sym (take_more rows n no_row c.loop-row-test.true) in
    subst (λ l. AreAdded c.args.feed.now l before.listed.items new.listed.items (map period_value before.periods.items) (map period_value new.periods.items)) taken
    (more_added c.args.feed.now (take n rows) (x ∷ []) before.listed.items mid.listed.items new.listed.items (map period_value before.periods.items) (map period_value mid.periods.items) (map period_value new.periods.items)
    c.loop-row.invariant c.in_ok-add_row.ensures.added)

pub returns : goal.returns
returns c =
    let rows = c.args.rows.now in
    let past : length rows ≤ c.loop-row.row-index = omega (arith, c.loop-row-test.false) in
    let before = c.args.found.now in
    let new = c.loop-row.found in
    subst (λ l. AreAdded c.args.feed.now l before.listed.items new.listed.items (map period_value before.periods.items) (map period_value new.periods.items))
    (take_all c.loop-row.row-index rows past) c.loop-row.invariant
