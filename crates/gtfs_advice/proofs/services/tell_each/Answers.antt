use Rattle.gtfs_advice.proofs.UsedFacts.{told}
use Rattle.gtfs_advice.proofs.Telling.{item_at}
use Rattle.gtfs_advice.proofs.services.tell_each.Goals as goal

pub loop-number-preserved : goal.loop-number-preserved
loop-number-preserved c =
    let p = c.args.parts.now in
    let n = c.loop-number.number in
    let s = c.row-item.result in
    let there = item_at p.services c.as_slice-row-items.result.now n s c.as_slice-row-items.ensures c.loop-number-test.true c.row-item.is in
    told p c.requires.sound n s there c.args.marks.now c.requires.marks c.args.code c.args.in_calendar c.lacks_trip-holds.result c.lacks_trip-holds.ensures c.args.told.now.items c.loop-number.told.items c.tell.new.told.items c.in_ok-tell.ensures
    c.loop-number.invariant
