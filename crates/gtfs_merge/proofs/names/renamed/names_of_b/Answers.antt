use Rattle.std.proofs.Common.{◌<◌, ◌≤◌, ◌∙◌, None, ap, arith, get_or, length, sym}
use Rattle.gtfs_merge.specs.FeedIds.{known_ids}
use Rattle.gtfs_merge.specs.Renaming.{lists_id, renaming}
use Rattle.gtfs_merge.specs.MergedSides.{side_names}
use Rattle.gtfs_merge.specs.Twins.{of_kind, twin_number}
use Rattle.gtfs_merge.specs.declared.kind.Side.TheVariants as side
use Rattle.gtfs_merge.proofs.JoinedIds.{of-kind-length, twin-at}
use Rattle.gtfs_merge.proofs.JoinedNames.{has-at}
use Rattle.gtfs_merge.proofs.RenamedLists.{all-named, none-named, one-named}
use Rattle.gtfs_merge.proofs.names.renamed.names_of_b.Goals as goal

pub new_id_of_b-requires-clause-there : goal.new_id_of_b-requires-clause-there
new_id_of_b-requires-clause-there c =
    let within : c.loop-number.number < length (known_ids c.args.kind c.args.sides.now.b.now) = omega (arith, c.count_of-number-end.ensures) in
    ap (lists_id (known_ids c.args.kind c.args.sides.now.b.now)) c.id_of-id.ensures ∙ has-at (known_ids c.args.kind c.args.sides.now.b.now) c.loop-number.number within

pub of-twin-requires : goal.of-twin-requires
of-twin-requires c =
    let within : c.loop-number.number < length (known_ids c.args.kind c.args.sides.now.b.now) = omega (arith, c.count_of-number-end.ensures) in
    let count = ap (λ t. length (of_kind t c.args.kind)) c.requires ∙ of-kind-length c.args.sides.now c.args.kind in
    omega (arith, count, within)

pub new_id_of_b-requires-clause-twin : goal.new_id_of_b-requires-clause-twin
new_id_of_b-requires-clause-twin c =
    let within : c.loop-number.number < length (known_ids c.args.kind c.args.sides.now.b.now) = omega (arith, c.count_of-number-end.ensures) in
    c.of-twin.ensures ∙ ap (λ t. get_or (of_kind t c.args.kind) c.loop-number.number None) c.requires ∙ twin-at c.args.sides.now c.args.kind c.loop-number.number within
    ∙ ap (twin_number c.args.kind c.args.sides.now) (sym c.id_of-id.ensures)

pub loop-number-init : goal.loop-number-init
loop-number-init c = none-named (renaming (side_names side.B c.args.sides.now) c.args.kind) (known_ids c.args.kind c.args.sides.now.b.now) _ c.in_ok-names.ensures.items

pub loop-number-preserved : goal.loop-number-preserved
loop-number-preserved c =
    let ids = known_ids c.args.kind c.args.sides.now.b.now in
    let rename = renaming (side_names side.B c.args.sides.now) c.args.kind in
    let within : c.loop-number.number < length ids = omega (arith, c.count_of-number-end.ensures) in
    one-named rename ids c.loop-number.number _ _ c.id_of-id.result.now _ within c.loop-number.invariant c.in_ok-push.ensures.items c.id_of-id.ensures c.in_ok-new_id_of_b.ensures

pub returns-clause-count : goal.returns-clause-count
returns-clause-count c =
    let ids = known_ids c.args.kind c.args.sides.now.b.now in
    let rename = renaming (side_names side.B c.args.sides.now) c.args.kind in
    let past : length ids ≤ c.loop-number.number = omega (arith, c.count_of-number-end.ensures) in
    (all-named rename ids c.loop-number.number c.loop-number.names.items past c.loop-number.invariant).0

pub returns-clause-names : goal.returns-clause-names
returns-clause-names c =
    let ids = known_ids c.args.kind c.args.sides.now.b.now in
    let rename = renaming (side_names side.B c.args.sides.now) c.args.kind in
    let past : length ids ≤ c.loop-number.number = omega (arith, c.count_of-number-end.ensures) in
    (all-named rename ids c.loop-number.number c.loop-number.names.items past c.loop-number.invariant).1
