use Rattle.gtfs_advice.proofs.AgencyFacts.{told}
use Rattle.gtfs_advice.proofs.Telling.{item_at}
use Rattle.gtfs_advice.proofs.agencies.tell_each.Goals as goal

pub loop-number-preserved : goal.loop-number-preserved
loop-number-preserved c =
    let p = c.args.parts.now in
    let n = c.loop-number.number in
    let a = c.agency-item.result in
    let there = item_at p.agencies c.as_slice-agency-items.result.now n a c.as_slice-agency-items.ensures c.loop-number-test.true c.agency-item.is in
    told p c.requires.sound n a there c.args.marks.now c.requires.marks c.answers-answers.result c.answers-answers.ensures c.args.told.now.items c.loop-number.told.items c.tell.new.told.items c.in_ok-tell.ensures
    c.loop-number.invariant
