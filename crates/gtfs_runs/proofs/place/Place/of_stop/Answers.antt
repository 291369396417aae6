use Rattle.std.proofs.Common.{◌<◌, ◌≤◌, ◌∙◌, Bool, length, map, sym, ap, arith}
use Rattle.std.proofs.lemmas.Simd.{map-map}
use Rattle.std.proofs.lemmas.List.{take_all}
use Rattle.gtfs_field.proofs.ListFacts.{some_of}
use Rattle.gtfs_rows.specs.declared.stop.Stop.{Stop}
use Rattle.gtfs_rows.specs.RowsInMemory.{content_of_parts, stop_ids, stop_of, text_of_number}
use Rattle.gtfs_rows.specs.Places.{is_in_place}
use Rattle.gtfs_runs.proofs.PlaceFacts.{id_at, one_more}
use Rattle.gtfs_runs.proofs.place.Place.of_stop.Goals as goal

pub loop-number-init : goal.loop-number-init
loop-number-init c = c.in_ok-members.ensures.items

pub loop-number-preserved : goal.loop-number-preserved
loop-number-preserved c =
    let p = c.args.feed.now in
    let n = c.loop-number.number in
    let s = text_of_number (stop_ids p) c.args.stop.0 in
    let within : n < length p.stops = omega (arith, c.stop_count-number-end.ensures) in
    let d : Stop = some_of p.stops n within in
    let test : Stop → Bool = λ stop. is_in_place (content_of_parts p) s stop.stop_id in
    one_more test p.stops d n c.loop-number.members.items _ c.is_in_place.result within c.loop-number.invariant c.in_ok-push.ensures.items
    (c.is_in_place.ensures ∙ ap (is_in_place (content_of_parts p) s) (id_at p d n within))

pub returns : goal.returns
returns c =
    let p = c.args.feed.now in
    let n = c.loop-number.number in
    let s = text_of_number (stop_ids p) c.args.stop.0 in
    let past : length p.stops ≤ n = omega (arith, c.stop_count-number-end.ensures) in
    let test : Stop → Bool = λ stop. is_in_place (content_of_parts p) s stop.stop_id in
    c.loop-number.invariant ∙ ap (map test) (take_all n p.stops past) ∙ sym (map-map (λ stop. is_in_place (content_of_parts p) s stop.stop_id) (stop_of p) p.stops)
