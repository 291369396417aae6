use Rattle.std.proofs.Common.{◌∙◌, ◌∷◌, [], get_or, length, map, ap, arith}
use Rattle.std.proofs.lemmas.List.{get_or_default, length-map, map-append}
use Rattle.gtfs_rows.specs.declared.numbers.TripNo.{TripNo}
use Rattle.gtfs_runs.specs.steps.TripGroups.{group_of, trip_group}
use Rattle.gtfs_runs.proofs.Numbers.{named}
use Rattle.gtfs_runs.proofs.Pushes.{mapped-all, pushed-more}
use Rattle.gtfs_runs.proofs.stop_lanes.numbered.grouped_trips.Goals as goal

pub get-requires : goal.get-requires
get-requires c = omega (arith, ap length c.requires.stops, length-map c.args.trips.now (λ t. (trip_group c.args.feed.now t.0).1), c.loop-n-test.true)

pub loop-n-preserved : goal.loop-n-preserved
loop-n-preserved c =
    let p = c.args.feed.now in
    let trips = c.args.trips.now in
    let n = c.loop-n.n in
    let first : TripNo = record { 0 = 0 } in
    let t = get_or trips n first in
    let grouped = c.in_ok-of.field-0 in
    let stops = named p trips c.args.lists.now n t c.get.result.now c.requires.stops c.get.ensures (get_or_default trips n first t c.loop-n-test.true) c.loop-n-test.true in
    pushed-more (λ u. trip_group p u.0) trips n t _ _ (group_of grouped) c.loop-n-test.true (get_or_default trips n first t c.loop-n-test.true) c.loop-n.invariant
    (ap (map group_of) c.in_ok-push.ensures.items ∙ map-append group_of c.loop-n.grouped.items (grouped ∷ [])) (ap group_of c.in_ok-of.ensures ∙ ap (λ l. ((trip_group p t.0).0, l)) stops)

pub returns : goal.returns
returns c = mapped-all (λ t. trip_group c.args.feed.now t.0) c.args.trips.now c.loop-n.n _ c.loop-n-test.false c.loop-n.invariant
