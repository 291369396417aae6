use Rattle.std.proofs.Common.{◌∙◌, ap, map}
use Rattle.gtfs_table.specs.Tables.{field_under}
use Rattle.gtfs_table.proofs.RowFacts.{all_taken, listed_more, turn}
use Rattle.gtfs_trip_rules.specs.RowsById.{row_with_id, text_under}
use Rattle.gtfs_trip_rules.proofs.services.by_id.read_ids.Goals as goal

pub loop-row-init : goal.loop-row-init
loop-row-init c = ap (map row_with_id) c.new-found.ensures.items

pub loop-row-preserved : goal.loop-row-preserved
loop-row-preserved c =
    let d = c.args.tables.now in
    let x = c.args.file in
    let t = turn d x _ c.loop-row.yielded _ (c.into_iter-row-iterator.ensures.into_iter_gives ∙ c.rows-row-items.ensures) c.loop-row.yielded_by c.in-Some.row c.in-Some.record _ c.in-Some.ensures.steps in
    let id = c.value.ensures ∙ ap (λ r. field_under r c.args.id) t.record_is in
    ap (map row_with_id) c.in_ok-push.ensures.items
    ∙ listed_more c.loop-row.yielded c.in-Some.row c.in-Some.record row_with_id (λ n. (text_under d x c.args.id n, n)) c.loop-row.found.items _ c.loop-row.invariant
    (ap (λ text. (text, c.in-Some.row)) id)

pub returns : goal.returns
returns c =
    let all = all_taken c.args.tables.now c.args.file _ c.loop-row.yielded _ (c.into_iter-row-iterator.ensures.into_iter_gives ∙ c.rows-row-items.ensures) c.loop-row.yielded_by c.in-None.ensures.steps.0 in
    rw all at c.loop-row.invariant
