use Rattle.std.proofs.Common.{length, map, sym, subst}
use Rattle.std.specs.Prelude.{IfOk}
use Rattle.gtfs_rows.specs.RowsInMemory.{content_of_parts, service_ids, stop_ids, text_of_number}
use Rattle.gtfs_rows.specs.declared.parts.Parts.{Parts}
use Rattle.gtfs_times.specs.Filling.{timed}
use Rattle.gtfs_times.specs.TimedRows.{timed_parts}
use Rattle.gtfs_times.specs.declared.times.Times.{Times}
use Rattle.gtfs_runs.specs.StopLanes.{list_value, period_value}
use Rattle.gtfs_runs.specs.steps.Courses.{AreServed, stopping_of}
use Rattle.gtfs_runs.specs.steps.FoundEvents.{AreFound}
use Rattle.gtfs_runs.specs.steps.CourseNumbers.{AreNumbered}
use Rattle.gtfs_runs.specs.steps.WholeLanes.{AreWhole}
use Rattle.gtfs_runs.proofs.stop_lanes.lanes.lanes_of_index.Goals as goal

pub lanes_of_events-requires-clause-found : goal.lanes_of_events-requires-clause-found
lanes_of_events-requires-clause-found c =
    subst (λ (r : Times × Parts). AreFound (timed_parts r.0 r.1) c.args.stop.0 (length r.1.trips) (map (stopping_of r.1) c.in_ok-found.found.listed.items) (map period_value c.in_ok-found.found.periods.items))
    (λ i. (sym c.times.ensures i, sym c.feed.ensures i)) c.in_ok-found.ensures.found

pub lanes_of_events-requires-clause-numbers : goal.lanes_of_events-requires-clause-numbers
lanes_of_events-requires-clause-numbers c = subst (λ p. AreNumbered p c.in_ok-found.found.listed.items) (sym c.feed.ensures) c.in_ok-found.ensures.numbers

pub lanes_of_events-requires-clause-services : goal.lanes_of_events-requires-clause-services
lanes_of_events-requires-clause-services c = subst (λ p. AreServed p c.in_ok-found.found.listed.items) (sym c.feed.ensures) c.in_ok-found.ensures.services

pub returns : goal.returns
returns c =
    subst (λ (r : Times × Parts). IfOk c.lanes_of_events.result (λ lanes. AreWhole (timed r.0 (content_of_parts r.1)) (text_of_number (stop_ids r.1) c.args.stop.0) (service_ids r.1)
    (map list_value lanes.0.items) (map period_value lanes.1.items)))
    (λ i. (c.times.ensures i, c.feed.ensures i)) c.lanes_of_events.ensures
