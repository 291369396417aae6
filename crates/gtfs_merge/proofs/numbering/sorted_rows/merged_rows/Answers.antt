use Rattle.std.proofs.Common.{◌++◌, ◌∙◌, ap, map, subst}
use Rattle.std.specs.List.Sorted.{IsPermutation}
use Rattle.gtfs_merge.specs.MergeEntries.{entry_value, rows_of_b}
use Rattle.gtfs_merge.proofs.MergesOfKinds.{merged-rows}
use Rattle.gtfs_merge.proofs.numbering.sorted_rows.merged_rows.Goals as goal

pub returns : goal.returns
returns c =
    let sides = c.args.sides.now in
    let es = map entry_value c.in_ok-sorted.field-0.items in
    merged-rows sides c.soundness.ensures.a c.soundness.ensures.b c.soundness.ensures.few c.args.kind es
    (subst (λ xs. IsPermutation xs es) (c.in_ok-add_of_b.ensures ∙ ap (λ xs. xs ++ rows_of_b c.args.kind sides) c.in_ok-rows.ensures) c.in_ok-sorted.ensures.same)
    c.in_ok-sorted.ensures.in_order
