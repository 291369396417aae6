use Rattle.std.proofs.Common.{◌≡◌, ◌∙◌, [], get_or, length, sym, ap, subst, arith}
use Rattle.std.proofs.lemmas.Option.{get_or_from_slice_get}
use Rattle.std.proofs.lemmas.List.{length-map}
use Rattle.gtfs_table.proofs.PartFacts.{length-parts}
use Rattle.gtfs_rows.specs.Trips.{stop_rows_by_trip}
use Rattle.gtfs_runs.specs.steps.TripGroups.{AreOfTrips, group_of, trip_group}
use Rattle.gtfs_stop_times.specs.StopLists.{stops_in}
use Rattle.gtfs_runs.specs.steps.Passings.{first_left}
use Rattle.gtfs_runs.proofs.GroupFacts.{listed_stops, none_of_trips, one_trip_more}
use Rattle.gtfs_runs.proofs.stop_index.indexed_trips.grouped_trips.Goals as goal

pub loop-number-init : goal.loop-number-init
loop-number-init c = subst (AreOfTrips c.args.feed.now 0) (sym c.in_ok-trips.ensures.items) (none_of_trips c.args.feed.now)

pub loop-number-preserved : goal.loop-number-preserved
loop-number-preserved c =
    let p = c.args.feed.now in
    let rows = stop_rows_by_trip p in
    let n = c.loop-number.number in
    let stops = listed_stops p n c.args.lists.now c.get.result.now c.requires c.get.ensures in
    let start = c.trip_start-start.ensures.value ∙ ap first_left (sym (get_or_from_slice_get rows n c.trip_rows.result.now [] c.trip_rows.ensures)) in
    one_trip_more p n c.loop-number.trips.items _ c.in_ok-of.field-0 (ap (λ x. x.trip.0) c.in_ok-of.ensures)
    (ap group_of c.in_ok-of.ensures ∙ ap (λ l. ((trip_group p n).0, l)) stops) (ap (λ x. x.start) c.in_ok-of.ensures ∙ start) c.in_ok-push.ensures.items c.loop-number.invariant

pub get-requires : goal.get-requires
get-requires c =
    let p = c.args.feed.now in
    let rows = stop_rows_by_trip p in
    omega (arith, c.loop-number-test.true, c.trip_count-number-end.ensures, length-parts p.stop_times.starts p.stop_times.rows, c.soundness.ensures.stop_rows.0, ap length c.requires, length-map rows stops_in)

pub returns : goal.returns
returns c = subst (λ n. AreOfTrips c.args.feed.now n c.loop-number.trips.items) (omega (arith, c.trip_count-number-end.ensures, c.loop-number-test.false)) c.loop-number.invariant
