use Rattle.std.proofs.Common.{◌∙◌, ap, length, subst, sym}
use Rattle.gtfs_field.specs.TextOrder.{text_cmp}
use Rattle.gtfs_rows.specs.TransferOrder.{Ascends}
use Rattle.gtfs_merge.specs.FeedIds.{known_ids}
use Rattle.gtfs_merge.specs.Names.{names_or}
use Rattle.gtfs_merge.proofs.RenamedLists.{ascend}
use Rattle.gtfs_merge.proofs.names.renamed.Renamed.of_a.Goals as goal

pub invariant_of-result : goal.invariant_of-result
invariant_of-result c =
    let own = c.in_ok-ids.ensures in
    (c.in_ok-names.ensures.count ∙ ap length (sym own), subst (Ascends text_cmp) (sym own) (ascend c.args.kind c.args.sides.now.a.now c.soundness.ensures.a))

pub returns : goal.returns
returns c =
    let own = c.in_ok-ids.ensures in
    (λ i. record { ids = own i; names = names_or (own i) c.in_ok-names.names.items })
    ∙ (λ i. record { ids = known_ids c.args.kind c.args.sides.now.a.now; names = c.in_ok-names.ensures.names i })
