use Rattle.std.proofs.Common.{◌++◌, ◌∷◌, ◌∙◌, [], add-one, ap, take}
use Rattle.std.proofs.Math.Seq.{take-suc}
use Rattle.std.proofs.lemmas.List.{take_all}
use Rattle.gtfs_feed.proofs.copied.copied_rows.Goals as goal

pub loop-row-preserved : goal.loop-row-preserved
loop-row-preserved g c =
    let rows = c.args.rows.now in
    let index = c.loop-row.row-index in
    rw (add-one, take-suc rows index c.row-item.result c.loop-row-test.true) (c.in_ok-push.ensures.items ∙ ap (λ items. items ++ c.in_ok-again.field-0 ∷ []) c.loop-row.invariant
    ∙ ap (λ row. take index rows ++ row ∷ []) (c.in_ok-again.ensures ∙ c.row-item.is))

pub returns : goal.returns
returns g c = c.new.ensures ∙ c.loop-row.invariant ∙ take_all c.loop-row.row-index c.args.rows.now c.loop-row-test.false
