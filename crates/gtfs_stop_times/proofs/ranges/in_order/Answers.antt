use Rattle.std.proofs.Common.{◌<◌, ◌∙◌, ◌++◌, ◌∷◌, [], ℕ, ap, arith, get_or, length, map, subst, sym, take}
use Rattle.std.proofs.lemmas.List.{get_or_default, map_push, take_more}
use Rattle.std.proofs.lemmas.Option.{get_or_from_slice_get}
use Rattle.gtfs_stop_times.specs.declared.stop_row.StopRow.{StopRow}
use Rattle.gtfs_stop_times.specs.KeptLists.{no_row}
use Rattle.gtfs_stop_times.proofs.ranges.in_order.Goals as goal

pub loop-at-preserved : goal.loop-at-preserved
loop-at-preserved c =
    let rows = c.args.rows.now in
    let order = c.args.order.now in
    let l = c.loop-at in
    let f : ℕ → StopRow = λ n. get_or rows n no_row in
    let within : l.at < length order = omega (arith, c.loop-at-test.true, c.len-at-end.ensures) in
    let here = get_or_from_slice_get order l.at c.get.result 0 c.get.ensures in
    let there : c.get.result < length rows = subst (λ n. n < length rows) here (c.requires l.at 0 within) in
    let row = c.index-rows-get.is ∙ get_or_default rows c.get.result c.index-rows-get.result no_row there ∙ ap f (sym here) in
    c.in_ok-push.ensures.items ∙ (λ i. l.invariant i ++ row i ∷ [])
    ∙ sym (ap (map f) (take_more order l.at 0 within) ∙ map_push f (take l.at order) (get_or order l.at 0))
