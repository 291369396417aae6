use Rattle.gtfs_advice.proofs.RouteFacts.{told}
use Rattle.gtfs_advice.proofs.Telling.{item_at}
use Rattle.gtfs_rows.specs.RowsInMemory.{agency_ids, content_of_parts}
use Rattle.gtfs_advice.proofs.routes.tell_each.Goals as goal

pub loop-number-preserved : goal.loop-number-preserved
loop-number-preserved c =
    let p = c.args.parts.now in
    let n = c.loop-number.number in
    let r = c.route-item.result in
    let there = item_at p.routes c.as_slice-route-items.result.now n r c.as_slice-route-items.ensures c.loop-number-test.true c.route-item.is in
    told p c.requires.sound n r there c.args.directed.now c.args.undirected.now c.args.repeated.now c.requires.directed c.requires.undirected c.requires.repeated c.answers-answers.result
    (c.answers-answers.ensures (agency_ids p) (content_of_parts p)) c.args.told.now.items c.loop-number.told.items c.tell.new.told.items c.in_ok-tell.ensures c.loop-number.invariant
