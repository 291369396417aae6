use Rattle.std.proofs.Common.{◌++◌, ◌∷◌, [], ℕ, List, ◌∙◌, ap, append_assoc, codes, map, sym}
use Rattle.std.proofs.lemmas.List.{map-append}
use Rattle.gtfs_table.proofs.RowFacts.{all_taken, numbers_more, turn, value_is}
use Rattle.gtfs_table.specs.Rows.{numbers, records_in}
use Rattle.gtfs_schema.specs.RowConditions.{text_in}
use Rattle.gtfs_reading.proofs.service_ids.push_ids.Goals as goal

pub loop-record-preserved : goal.loop-record-preserved
loop-record-preserved c =
    let d = c.args.tables.now in
    let from = c.into_iter-record-iterator.ensures.into_iter_gives ∙ c.rows-record-items.ensures in
    let n = c.in-Some.field-0-0 in
    let t = turn d c.args.file _ c.loop-record.yielded _ from c.loop-record.yielded_by n c.in-Some.record _ c.in-Some.ensures.steps in
    let id = c.value-id.ensures ∙ value_is (records_in d c.args.file) n c.in-Some.record (codes "service_id") c.column-column.result t.record_is c.column-column.ensures in
    let f : ℕ → List ℕ = λ m. text_in d c.args.file m (codes "service_id") in
    let ns = numbers c.loop-record.yielded in
    ap (map (λ id. id.now)) c.in_ok-push.ensures.items ∙ map-append (λ id. id.now) c.loop-record.ids.items _
    ∙ ap (λ ts. ts ++ c.value-id.result.now ∷ []) c.loop-record.invariant
    ∙ append_assoc (map (λ id. id.now) c.args.ids.now.items) (map f ns) (c.value-id.result.now ∷ [])
    ∙ ap (λ t. map (λ id. id.now) c.args.ids.now.items ++ (map f ns ++ t ∷ [])) id
    ∙ ap (λ ts. map (λ id. id.now) c.args.ids.now.items ++ ts) (sym (ap (map f) (numbers_more c.loop-record.yielded n c.in-Some.record) ∙ map-append f ns (n ∷ [])))

pub returns : goal.returns
returns c =
    let d = c.args.tables.now in
    let from = c.into_iter-record-iterator.ensures.into_iter_gives ∙ c.rows-record-items.ensures in
    let all = all_taken d c.args.file _ c.loop-record.yielded _ from c.loop-record.yielded_by c.in-None.ensures.steps.0 in
    rw all at c.loop-record.invariant
