-- The departures of the lanes of a stop on each service day, up to an instant.
use Rattle.std.specs.Prelude.{◌<◌, ◌≤◌, ℕ, Bool, cond, ℤ, pos, ◌+ℤ◌, int_le, List, [], All, length, map, slice_get, slice_index_or}
use Rattle.std.specs.List.{filter, flat_map, range_with_len}
use Rattle.gtfs_schema.specs.FieldValues.{if_there}
use Rattle.gtfs_days.specs.Service.{is_active, service_days}
use Rattle.gtfs_rows.specs.TransferOrder.{Ascends}
use Rattle.gtfs_rows.specs.declared.parts.Parts.{Parts}
use Rattle.gtfs_runs.specs.EventOrder.{event_cmp}
use Rattle.gtfs_runs.specs.StopLanes.{LaneValue, StopLanesValue, filled_value, lanes_of, list_value, period_value}
use Rattle.gtfs_runs.specs.declared.event.Event.{Event}
use Rattle.gtfs_rows.specs.Departures.{Origins}
use Rattle.gtfs_board.specs.declared.upcoming.candidate.Candidate.{Candidate}
use Rattle.gtfs_board.specs.declared.service_days.any_lane.AnyLane.{AnyLane}
use Rattle.gtfs_board.specs.declared.service_days.any_lane.AnyLane.TheVariants as kind

-- the departure that an event of a lane is on a day with this origin
abbrev pub departing : ℤ → ℤ → ℕ → Event → Candidate
departing origin day lane e = record {
  instant = origin +ℤ pos e.at;
  trip = e.trip.0;
  lane = lane;
  row = e.row;
  run = e.run;
  sequence = e.seq;
  day = day;
  at = e.at;
}

-- the event that a departure is
abbrev pub event_of : Candidate → Event
event_of c = record { at = c.at; trip = record { 0 = c.trip }; run = c.run; seq = c.sequence; row = c.row }

-- the service of a number runs on the day
abbrev pub serves_on : Parts → ℕ → ℤ → Bool
serves_on p n d = if_there (slice_get p.services n) (λ s. is_active s.service d)

-- a lane of one of the kinds
abbrev pub any_value : AnyLane → LaneValue
any_value (kind.List lane) = list_value lane.now
any_value (kind.Period lane) = period_value lane.now
any_value (kind.Filled lane) = filled_value lane.now

abbrev pub no_lane : LaneValue
no_lane = record { service = 0; events = [] }

abbrev pub lane_at : StopLanesValue → ℕ → LaneValue
lane_at lanes i = slice_index_or (lanes_of lanes) i no_lane

-- the events of a lane that are departures on a day
abbrev pub events_on : Parts → ℤ → LaneValue → List Event
events_on p d lane = cond (serves_on p lane.service d) lane.events []

abbrev pub ends_by : ℤ → Candidate → Bool
ends_by end c = int_le c.instant end

-- the departures of a lane on a day that lie at or before an end
unfoldable pub departures_on : Parts → Origins → StopLanesValue → ℤ → ℕ → ℤ → List Candidate
departures_on p origin lanes end i d = filter (ends_by end) (map (departing (origin d) d i) (events_on p d (lane_at lanes i)))

abbrev pub departures_of_day : Parts → Origins → StopLanesValue → ℤ → ℤ → List Candidate
departures_of_day p origin lanes end d = flat_map (λ i. departures_on p origin lanes end i d) (range_with_len 0 (length (lanes_of lanes)))

-- those of all lanes and all days
unfoldable pub all_departures : Parts → Origins → StopLanesValue → ℤ → List Candidate
all_departures p origin lanes end = flat_map (departures_of_day p origin lanes end) service_days

-- ---- what the lanes of a stop keep

-- each lane has a service of the feed
abbrev pub HaveServices : Parts → StopLanesValue → Type 0
HaveServices p lanes = All (λ lane. lane.service < length p.services) (lanes_of lanes)

abbrev pub AreAscending : StopLanesValue → Type 0
AreAscending lanes = All (λ lane. Ascends event_cmp lane.events) (lanes_of lanes)

-- no event comes later than the latest, nor in the two thousandth hour
abbrev pub AreTimely : StopLanesValue → Type 0
AreTimely lanes = All (λ lane. All (λ e. (e.at ≤ lanes.greatest) × (e.at ≤ 7_199_998)) lane.events) (lanes_of lanes)
