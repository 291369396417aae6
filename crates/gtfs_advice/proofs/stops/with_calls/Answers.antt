use Rattle.std.proofs.Common.{◌≤◌, subst, sym}
use Rattle.std.specs.Prelude.{All, ◌<◌}
use Rattle.gtfs_advice.proofs.StopFacts.{called-all, called-more, called-within}
use Rattle.gtfs_advice.proofs.stops.with_calls.Goals as goal

pub mark_calls-requires : goal.mark_calls-requires
mark_calls-requires c =
    subst (λ n. All (λ r. r.stop_id.0 < n) c.of_trip.result.now) (sym c.loop-trip.invariant.count) (called-within c.args.parts.now c.requires c.loop-trip.trip c.of_trip.result.now c.of_trip.ensures)

pub loop-trip-preserved : goal.loop-trip-preserved
loop-trip-preserved c =
    called-more c.args.parts.now c.requires c.loop-trip.trip c.of_trip.result.now c.loop-trip.marks.items c.mark_calls.new.marks.items c.of_trip.ensures c.loop-trip.invariant c.mark_calls.ensures

pub returns : goal.returns
returns c =
    called-all c.args.parts.now c.requires c.loop-trip.trip c.loop-trip.marks.items (subst (λ n. n ≤ c.loop-trip.trip) c.len-trip-end.ensures c.loop-trip-test.false) c.loop-trip.invariant
