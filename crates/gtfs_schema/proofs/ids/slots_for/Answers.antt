use Rattle.std.proofs.Common.{◌<◌, length, arith}
use Rattle.gtfs_schema.proofs.SlotFacts.{row_answers}
use Rattle.gtfs_schema.proofs.ids.slots_for.Goals as goal

pub loop-number-preserved : goal.loop-number-preserved
loop-number-preserved c = λ i index.
    let within : c.loop-number.number < length c.args.rows.now = omega (arith, c.loop-number-test.true) in
    c.fill_slot.ensures i (row_answers i c.args.rows.now index c.loop-number.number c.index-rows-number.result within c.index-rows-number.is) (c.loop-number.invariant i index)
