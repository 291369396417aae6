use Rattle.std.proofs.Common.{◌<◌, ◌≤◌, ◌∙◌, ap, arith, filter, length, refl, sym}
use Rattle.std.proofs.lemmas.List.{take_all}
use Rattle.gtfs_merge.specs.FeedIds.{known_ids}
use Rattle.gtfs_merge.specs.MergedSides.{is_joined_id}
use Rattle.gtfs_merge.proofs.JoinedKinds.{ids-known}
use Rattle.gtfs_merge.proofs.NamesFacts.{joined-alike, joined-further}
use Rattle.gtfs_merge.proofs.names.joined_ids.joined_ids.Goals as goal

pub push_if_joined-requires-clause-within : goal.push_if_joined-requires-clause-within
push_if_joined-requires-clause-within c = omega (arith, c.count_of-number-end.ensures)

pub loop-number-preserved : goal.loop-number-preserved
loop-number-preserved c =
    let ids = known_ids c.args.kind c.args.sides.now.b.now in
    let within : c.loop-number.number < length ids = omega (arith, c.count_of-number-end.ensures) in
    joined-further (is_joined_id c.args.kind c.args.sides.now) ids c.loop-number.number _ _ _ within
    c.loop-number.invariant c.in_ok-push_if_joined.ensures refl

pub returns : goal.returns
returns c =
    let ids = known_ids c.args.kind c.args.sides.now.b.now in
    let past : length ids ≤ c.loop-number.number = omega (arith, c.count_of-number-end.ensures) in
    c.loop-number.invariant ∙ ap (filter (is_joined_id c.args.kind c.args.sides.now)) (take_all c.loop-number.number ids past)
    ∙ joined-alike c.args.kind c.args.sides.now c.soundness.ensures.a c.soundness.ensures.b
    ∙ ap (filter (is_joined_id c.args.kind c.args.sides.now)) (sym (ids-known c.args.kind c.args.sides.now.a.now c.soundness.ensures.a))
