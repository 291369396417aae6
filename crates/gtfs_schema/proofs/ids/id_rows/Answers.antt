use Rattle.std.proofs.Common.{◌∙◌, ap, map}
use Rattle.gtfs_table.proofs.RowFacts.{all_taken, listed_more, turn, value_is}
use Rattle.gtfs_table.specs.Rows.{records_in}
use Rattle.gtfs_schema.specs.RowConditions.{text_in}
use Rattle.gtfs_schema.specs.steps.IdRows.{id_and_row}
use Rattle.gtfs_schema.proofs.IdFacts.{lists_first}
use Rattle.gtfs_schema.proofs.ids.id_rows.Goals as goal

pub loop-row-init : goal.loop-row-init
loop-row-init c = ap (map id_and_row) c.in_ok-rows.ensures.items

pub loop-row-preserved : goal.loop-row-preserved
loop-row-preserved c =
    let d = c.args.tables.now in
    let t = turn d c.args.file _ c.loop-row.yielded _ (c.into_iter-row-iterator.ensures.into_iter_gives ∙ c.rows-row-items.ensures) c.loop-row.yielded_by c.in-Some.row c.in-Some.record _ c.in-Some.ensures.steps in
    let id = c.value-id.ensures ∙ value_is (records_in d c.args.file) c.in-Some.row c.in-Some.record c.args.column.now c.column-index.result t.record_is c.column-index.ensures in
    ap (map id_and_row) c.in_ok-push.ensures.items
    ∙ listed_more c.loop-row.yielded c.in-Some.row c.in-Some.record id_and_row (λ n. (text_in d c.args.file n c.args.column.now, n)) c.loop-row.rows.items _ c.loop-row.invariant (ap (λ text. (text, c.new.result.row)) (c.new.ensures.id ∙ id) ∙ ap (λ n. (text_in d c.args.file c.in-Some.row c.args.column.now, n)) c.new.ensures.row)

pub returns : goal.returns
returns c =
    let d = c.args.tables.now in
    let all = all_taken d c.args.file _ c.loop-row.yielded _ (c.into_iter-row-iterator.ensures.into_iter_gives ∙ c.rows-row-items.ensures) c.loop-row.yielded_by c.in-None.ensures.steps.0 in
    lists_first d c.args.file c.args.column.now c.loop-row.rows.items (rw all at c.loop-row.invariant)
