use Rattle.std.proofs.Common.{◌<◌, ◌≤◌, ◌∙◌, [], ap, length, map, arith}
use Rattle.std.proofs.lemmas.List.{length-map, take_all}
use Rattle.gtfs_rows.specs.RowsInMemory.{stop_ids}
use Rattle.gtfs_merge.specs.MergedSides.{is_joined_id}
use Rattle.gtfs_merge.specs.declared.kind.Kind.TheVariants as kind
use Rattle.gtfs_merge.proofs.StopTwins.{flags-more}
use Rattle.gtfs_merge.proofs.joining.stops.joined_flags.Goals as goal

pub loop-number-preserved : goal.loop-number-preserved
loop-number-preserved c =
    let ids = stop_ids c.args.sides.now.b.now in
    let within : c.loop-number.number < length ids = omega (arith, c.stop_count-number-end.ensures, length-map c.args.sides.now.b.now.stops (λ x. x.stop_id)) in
    flags-more (is_joined_id kind.Stop c.args.sides.now) ids [] c.loop-number.number _ _ c.is_joined_stop.result within c.loop-number.invariant c.in_ok-push.ensures.items c.is_joined_stop.ensures

pub returns : goal.returns
returns c =
    let ids = stop_ids c.args.sides.now.b.now in
    let past : length ids ≤ c.loop-number.number = omega (arith, c.stop_count-number-end.ensures, length-map c.args.sides.now.b.now.stops (λ x. x.stop_id)) in
    c.loop-number.invariant ∙ ap (map (is_joined_id kind.Stop c.args.sides.now)) (take_all c.loop-number.number ids past)
