use Rattle.std.proofs.Common.{List, map, sym, ap, subst}
use Rattle.std.specs.List.{All}
use Rattle.gtfs_runs.specs.StopLanes.{LaneValue, period_value}
use Rattle.gtfs_runs.specs.declared.departure_row.DepartureRow.{DepartureRow}
use Rattle.gtfs_runs.specs.declared.stop_lanes.listed.ListedEvent.{ListedEvent}
use Rattle.gtfs_runs.specs.steps.FoundAtRow.{AreAdded, IsInside}
use Rattle.gtfs_runs.proofs.RowFinds.{all_found}
use Rattle.gtfs_runs.proofs.stop_lanes.found.FoundEvents.at_place.Goals as goal

pub add_rows-requires : goal.add_rows-requires
add_rows-requires c = subst (All (IsInside c.args.feed.now)) (sym c.deref.ensures.value) c.in_ok-rows.ensures.inside

pub returns-clause-found : goal.returns-clause-found
returns-clause-found c = λ s place.
    let p = c.args.feed.now in
    let rows = c.in_ok-rows.rows.items in
    let new = c.add_rows.new.found in
    all_found c.args.times p c.soundness.ensures s rows new.listed.items (map period_value new.periods.items) (c.in_ok-rows.ensures.rows s place) c.in_ok-rows.ensures.noted
    (subst (λ (v : List DepartureRow × (List ListedEvent × List LaneValue)). AreAdded p v.0 v.1.0 new.listed.items v.1.1 (map period_value new.periods.items))
    (λ j. (c.deref.ensures.value j, (c.in_ok-with_capacity.ensures.items j, ap (map period_value) c.new.ensures.items j))) c.in_ok-add_rows.ensures)
