use Rattle.std.proofs.Common.{◌<◌, ◌++◌, ◌∷◌, ◌∙◌, [], ap, arith, get_or, length, map, sym, take}
use Rattle.std.specs.List.{list_any}
use Rattle.std.proofs.lemmas.List.{map_push, take_all, take_more}
use Rattle.std.proofs.lemmas.Option.{get_or_from_slice_get, slice_get_within}
use Rattle.gtfs_table.specs.FieldOffsets.{parts}
use Rattle.gtfs_table.proofs.PartFacts.{length-parts}
use Rattle.gtfs_stop_times.proofs.marks.marked_in_turn.Goals as goal

pub loop-trip-preserved : goal.loop-trip-preserved
loop-trip-preserved c =
    let all = parts c.args.starts.now c.args.marks.now in
    let t = c.loop-trip.trip in
    let within : t < length all = slice_get_within all t c.stretch.result.now c.stretch.ensures in
    let here = c.is_marked.ensures ∙ ap (list_any (λ mark. mark)) (sym (get_or_from_slice_get all t c.stretch.result.now [] c.stretch.ensures)) in
    c.in_ok-push.ensures.items ∙ (λ i. c.loop-trip.invariant i ++ here i ∷ [])
    ∙ sym (ap (map (list_any (λ mark. mark))) (take_more all t [] within) ∙ map_push (list_any (λ mark. mark)) (take t all) (get_or all t []))

pub returns : goal.returns
returns c =
    let all = parts c.args.starts.now c.args.marks.now in
    c.loop-trip.invariant
    ∙ ap (map (list_any (λ mark. mark))) (take_all c.loop-trip.trip all (omega (arith, c.loop-trip-test.false, length-parts c.args.starts.now c.args.marks.now)))
