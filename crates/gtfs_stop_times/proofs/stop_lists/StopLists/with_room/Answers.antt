use Rattle.std.proofs.Common.{ap, length, map, subst, sym}
use Rattle.gtfs_stop_times.specs.StopTimesByTrip.{AreWithin, items_in}
use Rattle.gtfs_stop_times.proofs.StopListFacts.{none-within}
use Rattle.gtfs_stop_times.proofs.stop_lists.StopLists.with_room.Goals as goal

pub invariant_of-result : goal.invariant_of-result
invariant_of-result c =
    subst (AreWithin (length c.in_ok-with_capacity.field-0.items)) (sym c.in_ok-with_capacity-2.ensures.items) (none-within (length c.in_ok-with_capacity.field-0.items))

pub returns : goal.returns
returns c = ap (map (items_in c.in_ok-with_capacity.field-0.items)) c.in_ok-with_capacity-2.ensures.items
