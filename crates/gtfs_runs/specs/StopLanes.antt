-- The lanes of a stop: together they tell each event of each service once.
-- GTFS Schedule Reference, stop_times.txt, frequencies.txt and trips.txt. Services are numbered by the bytes of their ids.
use Rattle.std.specs.Prelude.{◌≡◌, ◌<◌, ◌++◌, ◌==◌, ℕ, All, List, cond, filter, length}
use Rattle.std.specs.List.{flat_map}
use Rattle.gtfs_rows.specs.Content.{Content}
use Rattle.gtfs_rows.specs.TransferOrder.{Ascends}
use Rattle.gtfs_rows.specs.RowsInMemory.{text_of_number}
use Rattle.gtfs_runs.specs.EventOrder.{is_same, event_cmp}
use Rattle.gtfs_runs.specs.Tallies.{tally}
use Rattle.gtfs_runs.specs.Events.{is_event}
use Rattle.gtfs_runs.specs.Lanes.{lane_count}
use Rattle.gtfs_runs.specs.PeriodRuns.{run_events}
use Rattle.gtfs_runs.specs.declared.event.Event.{Event}
use Rattle.gtfs_runs.specs.declared.filled_lane.FilledLane.{FilledLane}
use Rattle.gtfs_runs.specs.declared.list_lane.ListLane.{ListLane}
use Rattle.gtfs_runs.specs.declared.step_lane.StepLane.{StepLane}

-- a lane: the number of its service, and its events
pub record LaneValue : Type 0 where
  pub service : ℕ
  pub events : List Event

abbrev pub list_value : ListLane → LaneValue
list_value lane = record { service = lane.service.0; events = lane.events }

abbrev pub filled_value : FilledLane → LaneValue
filled_value lane = list_value lane.list

abbrev pub period_value : StepLane → LaneValue
period_value lane = record { service = lane.service.0; events = run_events lane.first lane.headway lane.count }

-- the lanes of a stop, and the latest second at which one of their runs passes it
pub record StopLanesValue : Type 0 where
  pub lists : List LaneValue
  pub periods : List LaneValue
  pub filled : List LaneValue
  pub greatest : ℕ

-- first the lists, then the periods, and then the lists with a time that was filled
abbrev pub lanes_of : StopLanesValue → List LaneValue
lanes_of lanes = lanes.lists ++ lanes.periods ++ lanes.filled

-- the events of all lanes of one service
abbrev pub events_of_service : ℕ → List LaneValue → List Event
events_of_service k lanes = flat_map (λ lane. lane.events) (filter (λ lane. lane.service == k) lanes)

-- the lanes of a stop, where the services have these ids by number
pub record AreLanesOf (c : Content) (s : List ℕ) (ids : List (List ℕ)) (lanes : List LaneValue) : Type 0 where
  pub within : All (λ lane. lane.service < length ids) lanes
  pub ascending : All (λ lane. Ascends event_cmp lane.events) lanes
  -- the lanes of a service tell each of its events once, and nothing else
  pub exact : (k : ℕ) (e : Event) → k < length ids → tally (is_same e) (events_of_service k lanes) ≡ cond (is_event c s (text_of_number ids k) e) 1 0
  pub counted : length lanes ≡ lane_count c s
