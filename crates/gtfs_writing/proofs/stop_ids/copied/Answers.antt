use Rattle.std.proofs.Common.{◌∷◌, ◌++◌, ◌∙◌, [], ap, map, sym, take}
use Rattle.std.proofs.lemmas.List.{map_push, take_all, take_more}
use Rattle.gtfs_writing.proofs.stop_ids.copied.Goals as goal

pub loop-stop-preserved : goal.loop-stop-preserved
loop-stop-preserved c =
    let so_far = take c.loop-stop.stop-index c.args.stops.now in
    c.in_ok-push.ensures.items
    ∙ (λ i. c.loop-stop.invariant i ++ (c.in_ok-copy_of.ensures ∙ c.as_str.ensures ∙ ap (λ s. s.stop_id) c.stop-item.is) i ∷ [])
    ∙ sym (ap (map (λ s. s.stop_id)) (take_more c.args.stops.now c.loop-stop.stop-index _ c.loop-stop-test.true) ∙ map_push (λ s. s.stop_id) so_far _)

pub returns : goal.returns
returns c = c.loop-stop.invariant ∙ ap (map (λ s. s.stop_id)) (take_all c.loop-stop.stop-index c.args.stops.now c.loop-stop-test.false)
