use Rattle.std.proofs.Common.{◌<◌, ◌-◌, ◌++◌, ◌∷◌, ◌∙◌, [], ap, arith, drop, length, sym, take}
use Rattle.std.proofs.lemmas.List.{append_assoc}
use Rattle.std.proofs.lemmas.Option.{get_or_from_slice_get}
use Rattle.gtfs_stop_times.proofs.RowNumberFacts.{part-next}
use Rattle.gtfs_stop_times.proofs.together.push_numbers.Goals as goal

pub loop-at-preserved : goal.loop-at-preserved
loop-at-preserved c =
    let order = c.args.order.now in
    let start = c.args.stretch.now.start in
    let l = c.loop-at in
    let within : l.at < length order = omega (arith, c.loop-at-test.true, c.requires.1) in
    let here = get_or_from_slice_get order l.at c.get.result 0 c.get.ensures in
    record {
      low = omega (arith, l.invariant.low);
      numbers = c.in_ok-push.ensures.items ∙ ap (λ ns. ns ++ c.get.result ∷ []) l.invariant.numbers
          ∙ append_assoc c.args.rows.now.items (take (l.at - start) (drop start order)) (c.get.result ∷ [])
          ∙ ap (λ ns. c.args.rows.now.items ++ ns) (sym (part-next order start l.at c.get.result l.invariant.low within here));
    }
