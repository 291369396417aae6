use Rattle.std.proofs.Common.{◌++◌, ◌∷◌, [], ◌∙◌}
use Rattle.gtfs_merge.proofs.names.near_pairs.push_pair.Goals as goal

pub returns : goal.returns
returns c =
    let old = c.args.pairs.now.items in
    c.in_ok-push.ensures.items
    ∙ (λ i. old ++ ((c.in_ok-own.ensures ∙ c.id_of.ensures) i, (c.in_ok-other.ensures ∙ c.id_of-2.ensures) i) ∷ [])
