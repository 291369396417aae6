use Rattle.std.proofs.Common.{arith}
use Rattle.gtfs_rows.specs.RowsInMemory.{content_of_parts}
use Rattle.gtfs_advice.specs.Advice.{stop_time_rules}
use Rattle.gtfs_advice.proofs.TripTelling.{trip-told, trips-told}
use Rattle.gtfs_advice.proofs.stop_times.tell_each.Goals as goal

pub loop-number-preserved : goal.loop-number-preserved
loop-number-preserved c =
    let p = c.args.feed.now in
    let n = c.loop-number.number in
    trip-told p c.soundness.ensures (stop_time_rules (content_of_parts p)) n c.answers-answers.result c.args.told.now.items c.loop-number.told.items c.tell.new.told.items (omega (arith, c.trip_count-number-end.ensures)) c.answers-answers.ensures c.in_ok-tell.ensures
    c.loop-number.invariant

pub returns : goal.returns
returns c =
    let p = c.args.feed.now in
    trips-told p c.soundness.ensures (stop_time_rules (content_of_parts p)) c.loop-number.number c.args.told.now.items c.loop-number.told.items (omega (arith, c.trip_count-number-end.ensures)) c.loop-number.invariant
