use Rattle.std.proofs.Common.{◌<◌, ◌∙◌, ◌++◌, ◌∷◌, [], ap, arith, length, map, subst, sym}
use Rattle.std.specs.List.{All}
use Rattle.std.proofs.lemmas.List.{map_push, take_more}
use Rattle.std.proofs.lemmas.List.Elements.{All-push}
use Rattle.std.proofs.lemmas.Option.{get_or_from_slice_get}
use Rattle.gtfs_stop_times.specs.RankedRows.{IsRanked}
use Rattle.gtfs_stop_times.specs.declared.ranked_rows.RankedRow.{RankedRow}
use Rattle.gtfs_stop_times.proofs.ranked_rows.ranked_rows.Goals as goal

pub loop-at-preserved : goal.loop-at-preserved
loop-at-preserved c =
    let order = c.args.order.now in
    let l = c.loop-at in
    let items = c.in_ok-push.ensures.items in
    let within : l.at < length order = omega (arith, c.loop-at-test.true, c.len-at-end.ensures) in
    let here = get_or_from_slice_get order l.at c.get.result 0 c.get.ensures in
    let P : RankedRow → Type 0 = IsRanked c.args.ranks.now.rows.now c.args.ranks.now.notes.now in
    record {
      same = ap (map (λ p. p.row)) items ∙ map_push (λ p. p.row) l.ranked_rows.items c.ranked_row.result
          ∙ (λ i. l.invariant.same i ++ (c.ranked_row.ensures.row ∙ sym here) i ∷ []) ∙ sym (take_more order l.at 0 within);
      each = subst (All P) (sym items) (All-push P l.ranked_rows.items c.ranked_row.result l.invariant.each c.ranked_row.ensures.ranked);
    }
