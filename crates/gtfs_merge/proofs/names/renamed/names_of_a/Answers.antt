use Rattle.std.proofs.Common.{◌<◌, ◌≤◌, arith, length}
use Rattle.gtfs_merge.specs.FeedIds.{known_ids}
use Rattle.gtfs_merge.specs.Renaming.{renaming}
use Rattle.gtfs_merge.specs.MergedSides.{side_names}
use Rattle.gtfs_merge.specs.declared.kind.Side.TheVariants as side
use Rattle.gtfs_merge.proofs.RenamedLists.{all-named, none-named, one-named}
use Rattle.gtfs_merge.proofs.names.renamed.names_of_a.Goals as goal

pub loop-number-init : goal.loop-number-init
loop-number-init c = none-named (renaming (side_names side.A c.args.sides.now) c.args.kind) (known_ids c.args.kind c.args.sides.now.a.now) _ c.in_ok-names.ensures.items

pub loop-number-preserved : goal.loop-number-preserved
loop-number-preserved c =
    let ids = known_ids c.args.kind c.args.sides.now.a.now in
    let rename = renaming (side_names side.A c.args.sides.now) c.args.kind in
    let within : c.loop-number.number < length ids = omega (arith, c.count_of-number-end.ensures) in
    one-named rename ids c.loop-number.number _ _ c.id_of-id.result.now _ within c.loop-number.invariant c.in_ok-push.ensures.items c.id_of-id.ensures c.in_ok-new_id_of_a.ensures

pub returns-clause-count : goal.returns-clause-count
returns-clause-count c =
    let ids = known_ids c.args.kind c.args.sides.now.a.now in
    let rename = renaming (side_names side.A c.args.sides.now) c.args.kind in
    let past : length ids ≤ c.loop-number.number = omega (arith, c.count_of-number-end.ensures) in
    (all-named rename ids c.loop-number.number c.loop-number.names.items past c.loop-number.invariant).0

pub returns-clause-names : goal.returns-clause-names
returns-clause-names c =
    let ids = known_ids c.args.kind c.args.sides.now.a.now in
    let rename = renaming (side_names side.A c.args.sides.now) c.args.kind in
    let past : length ids ≤ c.loop-number.number = omega (arith, c.count_of-number-end.ensures) in
    (all-named rename ids c.loop-number.number c.loop-number.names.items past c.loop-number.invariant).1
