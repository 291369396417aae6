use Rattle.std.proofs.Common.{◌∙◌, ◌++◌, ◌∷◌, [], ap, map}
use Rattle.std.proofs.lemmas.List.{map-append}
use Rattle.gtfs_merge.specs.MergeEntries.{entry_of, entry_value}
use Rattle.gtfs_merge.specs.declared.kind.Side.TheVariants as side
use Rattle.gtfs_merge.proofs.Ordering.{rows-more}
use Rattle.gtfs_merge.proofs.numbering.sorted_rows.of_a.Goals as goal

pub loop-number-preserved : goal.loop-number-preserved
loop-number-preserved c =
    let so_far = c.loop-number.rows.items in
    rows-more (entry_of side.A c.args.kind c.args.sides.now) c.loop-number.number (map entry_value so_far) _ c.loop-number.invariant
    (ap (map entry_value) c.in_ok-push.ensures.items ∙ map-append entry_value so_far (c.row_of.result ∷ [])
    ∙ (λ i. map entry_value so_far ++ c.row_of.ensures i ∷ []))
