use Rattle.std.proofs.Common.{◌≡◌, ◌<◌, ◌+◌, ◌∙◌, ◌==◌, [], ◌∷◌, Bool, true, false, not, Some, cond, get_or, length, map, refl, sym, ap, subst, arith}
use Rattle.std.specs.List.{slice_get}
use Rattle.std.proofs.lemmas.List.{length-map}
use Rattle.std.proofs.lemmas.Option.{slice_get-get_or}
use Rattle.gtfs_rows.specs.Trips.{frequencies_by_trip, stop_rows_by_trip}
use Rattle.gtfs_table.proofs.PartFacts.{length-parts}
use Rattle.gtfs_runs.specs.StopLanes.{period_value}
use Rattle.gtfs_runs.specs.steps.FoundEvents.{times_passed_in, times_told}
use Rattle.gtfs_runs.specs.steps.NotedRows.{noted_passing}
use Rattle.gtfs_runs.specs.steps.Passings.{passing_event}
use Rattle.gtfs_runs.specs.steps.FoundAtRow.{row_passing, row_periods}
use Rattle.gtfs_runs.proofs.RowSteps.{event_added, periods_added}
use Rattle.gtfs_runs.proofs.TripTimes.{periods_run, rows_at, starts_within}
use Rattle.gtfs_runs.proofs.stop_lanes.found.add_row.Goals as goal

pub of-requires-clause-start : goal.of-requires-clause-start
of-requires-clause-start c =
    let p = c.args.feed.now in
    let t = c.args.row.now.trip in
    let bound = starts_within p c.soundness.ensures t (get_or (stop_rows_by_trip p) t []) (rows_at p c.soundness.ensures t c.requires.row.0) in
    omega (arith, c.requires.start, bound)

pub add_periods-requires-clause-runs : goal.add_periods-requires-clause-runs
add_periods-requires-clause-runs c = periods_run c.args.feed.now c.soundness.ensures c.trip-trip.result.0 c.trip_frequencies-frequencies.result.now c.trip_frequencies-frequencies.ensures

pub returns-then-not-indexed-clause-added : goal.returns-then-not-indexed-clause-added
returns-then-not-indexed-clause-added c =
    let p = c.args.feed.now in
    let row = c.args.row.now in
    let t = row.trip in
    let passing : c.of-passing.result ≡ row_passing p row = c.of-passing.ensures ∙ ap (λ n. noted_passing n row) c.requires.start in
    let here : t < length (frequencies_by_trip p) = omega (arith, c.requires.row.0, length-parts p.frequency_starts p.frequencies, c.soundness.ensures.frequencies.0) in
    let at : slice_get (frequencies_by_trip p) t ≡ Some (row_periods p row) = slice_get-get_or (frequencies_by_trip p) t [] here in
    event_added p row c.in_ok-of.field-0 c.args.found.now.listed.items c.push.new.self.items (map period_value c.args.found.now.periods.items)
    (is_none (length (row_periods p row) == 0) (sym (c.requires.marked (row_periods p row) at) ∙ c.if-not-indexed.true))
    (c.in_ok-of.ensures.event ∙ (λ i. passing_event (c.trip-trip.ensures i) (c.requires.start i) (passing i)))
    (c.in_ok-of.ensures.service ∙ c.requires.service)
    c.in_ok-push.ensures.items
  where
    is_none : (b : Bool) → not b ≡ false → b ≡ true
    is_none true h = refl
    is_none false h = sym h

pub returns-clause-added : goal.returns-clause-added
returns-clause-added c =
    let p = c.args.feed.now in
    let row = c.args.row.now in
    let t = row.trip in
    let trip : c.trip-trip.result.0 ≡ t = c.trip-trip.ensures in
    let passing : c.of-passing.result ≡ row_passing p row = c.of-passing.ensures ∙ ap (λ n. noted_passing n row) c.requires.start in
    let fs = c.trip_frequencies-frequencies.result.now in
    let at : slice_get (frequencies_by_trip p) t ≡ Some fs = subst (λ n. slice_get (frequencies_by_trip p) n ≡ Some fs) trip c.trip_frequencies-frequencies.ensures in
    let service = c.args.indexed.service in
    let before = c.args.found.now.periods.items in
    let after = c.add_periods.new.periods.items in
    let told = c.in_ok-add_periods.ensures in
    periods_added p c.soundness.ensures row service fs c.args.found.now.listed.items (map period_value before) (map period_value after) c.requires.row.0
    c.requires.service at
    (is_some (length fs == 0) (sym (c.requires.marked fs at) ∙ c.if-not-indexed.false))
    (λ k e. told.told k e ∙ (λ i. times_told k e (map period_value before) + cond (service == k) (times_passed_in (trip i) e (passing i ∷ []) fs) 0))
    (length-map after period_value ∙ told.counted ∙ ap (λ n. n + length fs) (sym (length-map before period_value)))
    told.within
    (λ k v there. told.kind k v (subst (λ n. slice_get k.trips n ≡ Some v) (sym trip) there))
  where
    is_some : (b : Bool) → not b ≡ true → b ≡ false
    is_some true h = sym h
    is_some false h = refl
