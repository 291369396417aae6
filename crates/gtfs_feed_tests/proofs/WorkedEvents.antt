-- What the definitions say of the events of a small feed, under the numbers of its services.
use Rattle.std.proofs.Common.{◌≡◌, ◌∷◌, [], codes, refl, ℕ, List, Option, Some, None, true, false}
use Rattle.std.specs.List.{list_any}
use Rattle.std.specs.declared.cmp.Ordering.TheVariants.{Less}
use Rattle.gtfs_table.specs.FieldOffsets as table
use Rattle.gtfs_rows.specs.declared.row_choices.BikesAllowed.TheVariants as bikes
use Rattle.gtfs_stop_times.specs.declared.stop_time_choices.DropOffType.TheVariants as drop_off
use Rattle.gtfs_rows.specs.declared.row_choices.ExactTimes.TheVariants as exact
use Rattle.gtfs_rows.specs.declared.row_choices.LocationType.{LocationType}
use Rattle.gtfs_rows.specs.declared.row_choices.LocationType.TheVariants as location
use Rattle.gtfs_stop_times.specs.declared.stop_time_choices.PickupType.{PickupType}
use Rattle.gtfs_stop_times.specs.declared.stop_time_choices.PickupType.TheVariants as pickup
use Rattle.gtfs_rows.specs.declared.row_choices.WheelchairAccessible.TheVariants as wheelchair
use Rattle.gtfs_rows.specs.declared.row_choices.WheelchairBoarding.TheVariants as boarding
use Rattle.gtfs_rows.specs.declared.frequency.Frequency.{Frequency}
use Rattle.gtfs_stop_times.specs.declared.numbers.StopNo.{StopNo}
use Rattle.gtfs_rows.specs.declared.parts.Parts.{Parts}
use Rattle.gtfs_rows.specs.declared.service.ServiceRow.{ServiceRow}
use Rattle.gtfs_rows.specs.declared.stop.Stop.{Stop}
use Rattle.gtfs_stop_times.specs.declared.stop_row.StopRow.{StopRow}
use Rattle.gtfs_rows.specs.declared.trip.Trip.{Trip}
use Rattle.gtfs_runs.specs.FlatEvents.{Served, is_event_under, is_served, served_cmp}
use Rattle.gtfs_runs.specs.declared.event.Event.{Event}
use Rattle.gtfs_times.specs.declared.times.Times.TheVariants as times

-- ---- a station with a platform and an entrance, and another stop; two services; a trip of each

abbrev stop : List ℕ → LocationType → Option StopNo → Stop
stop id type parent = record {
  stop_id = id;
  stop_code = None;
  stop_name = None;
  tts_stop_name = None;
  stop_desc = None;
  stop_lat = None;
  stop_lon = None;
  stop_url = None;
  location_type = type;
  parent_station = parent;
  wheelchair_boarding = boarding.Unknown;
  platform_code = None;
}

abbrev service : List ℕ → ServiceRow
service id = record { service_id = id; service = record { week = None; exceptions = [] } }

abbrev trip : List ℕ → ℕ → Trip
trip id n = record {
  route_id = record { 0 = 0 };
  service_id = record { 0 = n };
  trip_id = id;
  trip_headsign = None;
  trip_short_name = None;
  direction_id = None;
  wheelchair_accessible = wheelchair.Unknown;
  bikes_allowed = bikes.Unknown;
}

abbrev row : ℕ → ℕ → ℕ → PickupType → StopRow
row s time sequence type = record {
  stop_id = record { 0 = s };
  arrival_time = Some time;
  departure_time = Some time;
  stop_sequence = sequence;
  stop_headsign = None;
  pickup_type = type;
  drop_off_type = drop_off.Regular;
  timepoint = None;
}

abbrev period : ℕ → ℕ → ℕ → Frequency
period start end headway = record { start_time = start; end_time = end; headway_secs = headway; exact_times = exact.Frequency }

-- the first trip passes the platform twice at eight o'clock, there with nobody let on at half past, and ends there; the
-- second leaves it at eight and each half hour from six to eight
abbrev small : Parts
small = record {
  agencies = [];
  stops = stop (codes "E") location.Entrance (Some (record { 0 = 2 })) ∷ stop (codes "P") location.Stop (Some (record { 0 = 2 })) ∷ stop (codes "S") location.Station None
      ∷ stop (codes "X") location.Stop None ∷ [];
  routes = [];
  services = service (codes "C1") ∷ service (codes "C2") ∷ [];
  trips = trip (codes "T1") 0 ∷ trip (codes "T2") 1 ∷ [];
  transfers = [];
  stop_times = record {
    rows = row 1 28800 1 pickup.Regular ∷ row 1 28800 2 pickup.Regular ∷ row 1 30600 3 pickup.None ∷ row 1 31000 4 pickup.Regular
        ∷ row 1 28800 7 pickup.Regular ∷ row 3 29400 9 pickup.Regular ∷ [];
    starts = 0 ∷ 4 ∷ [];
  };
  frequencies = period 21600 25200 1800 ∷ period 25200 28800 1800 ∷ [];
  frequency_starts = 0 ∷ 0 ∷ [];
  headsigns = [];
}

abbrev event : ℕ → ℕ → ℕ → ℕ → ℕ → Event
event at t run seq n = record { at = at; trip = record { 0 = t }; run = run; seq = seq; row = n }

-- ---- events at the station

-- two departures of a run at one stop and one second are two events
first-row : is_event_under times.Given small 2 0 (event 28800 0 28800 1 0) ≡ true
unfolding table.parts
first-row = refl

second-row : is_event_under times.Given small 2 0 (event 28800 0 28800 2 1) ≡ true
unfolding table.parts
second-row = refl

without_pickup : is_event_under times.Given small 2 0 (event 30600 0 28800 3 2) ≡ false
unfolding table.parts
without_pickup = refl

last-row : is_event_under times.Given small 2 0 (event 31000 0 28800 4 3) ≡ false
unfolding table.parts
last-row = refl

-- the runs of both periods, none at the end of the last, which is the trip's own time
first-run : is_event_under times.Given small 2 1 (event 21600 1 21600 7 0) ≡ true
unfolding table.parts
first-run = refl

last-run : is_event_under times.Given small 2 1 (event 27000 1 27000 7 0) ≡ true
unfolding table.parts
last-run = refl

own-time : is_event_under times.Given small 2 1 (event 28800 1 28800 7 0) ≡ false
unfolding table.parts
own-time = refl

-- the number of another service, and one that no service has
other-service : is_event_under times.Given small 2 0 (event 21600 1 21600 7 0) ≡ false
unfolding table.parts
other-service = refl

no-service : is_event_under times.Given small 2 2 (event 21600 1 21600 7 0) ≡ false
unfolding table.parts
no-service = refl

-- and at other stops: the platform's own, the entrance, the end of a trip
platform : is_event_under times.Given small 1 1 (event 21600 1 21600 7 0) ≡ true
unfolding table.parts
platform = refl

entrance : is_event_under times.Given small 0 1 (event 21600 1 21600 7 0) ≡ false
unfolding table.parts
entrance = refl

end : is_event_under times.Given small 3 1 (event 22200 1 21600 9 1) ≡ false
unfolding table.parts
end = refl

-- ---- a trip from 08:00:00 to 08:10:01 with two stop times between that have no time

abbrev untimed : ℕ → ℕ → StopRow
untimed s sequence = record (row s 0 sequence pickup.Regular) { arrival_time = None; departure_time = None }

abbrev between : Parts
between = record small {
  stop_times = record {
    rows = row 3 28800 1 pickup.Regular ∷ untimed 1 2 ∷ untimed 1 5 ∷ row 3 29401 9 pickup.Regular
        ∷ row 1 28800 7 pickup.Regular ∷ row 3 29400 9 pickup.Regular ∷ [];
    starts = 0 ∷ 4 ∷ [];
  };
}

-- filled, they are events at 08:03:20 and 08:06:40, and at no other second
filled-first : is_event_under times.Interpolated between 2 0 (event 29000 0 28800 2 1) ≡ true
unfolding table.parts
filled-first = refl

filled-second : is_event_under times.Interpolated between 2 0 (event 29200 0 28800 5 2) ≡ true
unfolding table.parts
filled-second = refl

filled-later : is_event_under times.Interpolated between 2 0 (event 29201 0 28800 5 2) ≡ false
unfolding table.parts
filled-later = refl

-- given, they are none
given-first : is_event_under times.Given between 2 0 (event 29000 0 28800 2 1) ≡ false
unfolding table.parts
given-first = refl

-- a time that is given is that event's under both
kept-run : is_event_under times.Interpolated between 2 1 (event 21600 1 21600 7 0) ≡ true
unfolding table.parts
kept-run = refl

-- ---- order

abbrev served : ℕ → Event → Served
served n e = (record { 0 = n }, e)

service-first : served_cmp (served 0 (event 28800 0 28800 1 0)) (served 1 (event 21600 1 21600 7 0)) ≡ Less
service-first = refl

then-time : served_cmp (served 1 (event 21600 1 21600 7 0)) (served 1 (event 23400 1 23400 7 0)) ≡ Less
then-time = refl

-- an event stands under the number of its service alone
under-own : list_any (is_served 1 (event 21600 1 21600 7 0)) (served 1 (event 21600 1 21600 7 0) ∷ []) ≡ true
under-own = refl

under-other : list_any (is_served 0 (event 21600 1 21600 7 0)) (served 1 (event 21600 1 21600 7 0) ∷ []) ≡ false
under-other = refl
