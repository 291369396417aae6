use Rattle.gtfs_advice.proofs.StopFacts.{told}
use Rattle.gtfs_advice.proofs.Telling.{item_at}
use Rattle.gtfs_advice.proofs.stops.tell_each.Goals as goal

pub loop-number-preserved : goal.loop-number-preserved
loop-number-preserved c =
    let p = c.args.parts.now in
    let n = c.loop-number.number in
    let s = c.stop-item.result in
    let there = item_at p.stops c.as_slice-stop-items.result.now n s c.as_slice-stop-items.ensures c.loop-number-test.true c.stop-item.is in
    told p c.requires.sound n s there c.args.called.now c.args.peopled.now c.requires.called c.requires.peopled c.answers-answers.result c.answers-answers.ensures
    c.args.told.now.items c.loop-number.told.items c.tell.new.told.items c.in_ok-tell.ensures c.loop-number.invariant
