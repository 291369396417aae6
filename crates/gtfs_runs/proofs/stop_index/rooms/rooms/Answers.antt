use Rattle.std.proofs.Common.{◌<◌, length, arith}
use Rattle.gtfs_runs.proofs.AtStopFacts.{room_more}
use Rattle.gtfs_runs.proofs.stop_index.rooms.rooms.Goals as goal

pub loop-number-preserved : goal.loop-number-preserved
loop-number-preserved c =
    let stops = c.args.feed.now.stops in
    let within : c.loop-number.number < length stops = omega (arith, c.loop-number-test.true, c.stop_count-number-end.ensures) in
    room_more (λ x. x.items) stops c.loop-number.number c.loop-number.lists.items _ c.in_ok-with_capacity.field-0 within
    c.loop-number.invariant c.in_ok-push.ensures.items c.in_ok-with_capacity.ensures.items
