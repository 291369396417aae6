use Rattle.std.proofs.Common.{◌<◌, ◌≤◌, ◌∙◌, [], ap, length, map, option_map, arith}
use Rattle.std.proofs.lemmas.List.{length-map, take_all}
use Rattle.gtfs_rows.specs.RowsInMemory.{trip_ids}
use Rattle.gtfs_merge.specs.JoinedNumbers.{joined_number}
use Rattle.gtfs_merge.specs.declared.kind.Kind.TheVariants as kind
use Rattle.gtfs_merge.proofs.JoinedRows.{numbered_more}
use Rattle.gtfs_merge.proofs.joining.trips.joined_trips.Goals as goal

pub loop-number-init : goal.loop-number-init
loop-number-init c = ap (map (option_map (λ n. n.0))) c.in_ok-joined.ensures.items

pub loop-number-preserved : goal.loop-number-preserved
loop-number-preserved c =
    let ids = trip_ids c.args.sides.now.b.now in
    let within : c.loop-number.number < length ids = omega (arith, c.trip_count-number-end.ensures, length-map c.args.sides.now.b.now.trips (λ x. x.trip_id)) in
    numbered_more (λ n. n.0) (joined_number kind.Trip c.args.sides.now) ids [] c.loop-number.number _ _ c.joined_trip.result within
    c.loop-number.invariant c.in_ok-push.ensures.items c.joined_trip.ensures

pub returns : goal.returns
returns c =
    let ids = trip_ids c.args.sides.now.b.now in
    let past : length ids ≤ c.loop-number.number = omega (arith, c.trip_count-number-end.ensures, length-map c.args.sides.now.b.now.trips (λ x. x.trip_id)) in
    c.loop-number.invariant ∙ ap (map (joined_number kind.Trip c.args.sides.now)) (take_all c.loop-number.number ids past)
