use Rattle.std.proofs.Common.{◌<◌, ◌≤◌, ◌++◌, ◌∷◌, [], ◌∙◌, arith, length, sym}
use Rattle.std.proofs.lemmas.List.{take_all, take_more}
use Rattle.gtfs_merge.specs.FeedIds.{known_ids}
use Rattle.gtfs_merge.proofs.names.renamed.ids_of.Goals as goal

pub loop-number-preserved : goal.loop-number-preserved
loop-number-preserved c =
    let ids = known_ids c.args.kind c.args.feed.now in
    let within : c.loop-number.number < length ids = omega (arith, c.count_of-number-end.ensures) in
    c.in_ok-push.ensures.items ∙ (λ i. c.loop-number.invariant i ++ (c.in_ok-copy_of.ensures ∙ c.id_of.ensures) i ∷ [])
    ∙ sym (take_more ids c.loop-number.number [] within)

pub returns : goal.returns
returns c =
    let ids = known_ids c.args.kind c.args.feed.now in
    let past : length ids ≤ c.loop-number.number = omega (arith, c.count_of-number-end.ensures) in
    c.loop-number.invariant ∙ take_all c.loop-number.number ids past
