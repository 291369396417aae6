-- A small feed, computed: which keys its departures have, what is shown of one, and the bounds of its boards.
use Rattle.std.proofs.Common.{◌≡◌, ◌∷◌, [], codes, refl, ℕ, ℤ, pos, ◌*ℤ◌, List, Some, None, true, false}
use Rattle.jiff_core.specs.Calendar.{weekday_number}
use Rattle.gtfs_days.specs.Service.{ServiceDates}
use Rattle.gtfs_rows.specs.Content.{Content}
use Rattle.gtfs_rows.specs.Rows.{Frequency, Route, Stop, StopRow, Trip}
use Rattle.gtfs_board.specs.declared.departure.Mark.{Mark}
use Rattle.gtfs_board.specs.declared.departure.Mark.TheVariants as mark
use Rattle.gtfs_board.specs.Board.{width}
use Rattle.gtfs_rows.specs.Departures.{is_departure, is_listed}
use Rattle.gtfs_rows.specs.Key.{Key}
use Rattle.gtfs_board.specs.BoardLines.{Listed}
use Rattle.gtfs_board.specs.ShownTrips.{mark_of, shown}

abbrev stop : List ℕ → Stop
stop id = record {
  stop_id = id;
  stop_code = None;
  stop_name = None;
  tts_stop_name = None;
  stop_desc = None;
  stop_lat = None;
  stop_lon = None;
  stop_url = None;
  location_type = 0;
  parent_station = None;
  wheelchair_boarding = 0;
  platform_code = None;
}

abbrev route : Route
route = record {
  route_id = codes "R1";
  agency_id = [];
  route_short_name = Some (codes "10");
  route_long_name = Some (codes "Mill to Lake");
  route_desc = None;
  route_type = 3;
  route_url = None;
  route_color = 16_777_215;
  route_text_color = 0;
  route_sort_order = None;
}

abbrev stop_row : List ℕ → ℕ → ℕ → StopRow
stop_row s seconds sequence = record {
  arrival_time = Some seconds;
  departure_time = Some seconds;
  stop_id = s;
  stop_sequence = sequence;
  stop_headsign = None;
  pickup_type = 0;
  drop_off_type = 0;
  timepoint = None;
}

abbrev daily : ServiceDates
daily = record {
  week = Some (record { days = true ∷ true ∷ true ∷ true ∷ true ∷ true ∷ true ∷ []; start = pos 19814; end = pos 19814 });
  exceptions = [];
}

abbrev trip : List Frequency → Trip
trip periods = record {
  route_id = codes "R1";
  service_id = codes "C1";
  trip_id = codes "T1";
  trip_headsign = Some (codes "Lake");
  trip_short_name = None;
  direction_id = None;
  wheelchair_accessible = 0;
  bikes_allowed = 0;
  stop_rows = stop_row (codes "S1") 28800 1 ∷ stop_row (codes "S2") 29400 2 ∷ [];
  frequencies = periods;
}

abbrev feed : List Frequency → Content
feed periods = record {
  agencies = [];
  stops = stop (codes "S1") ∷ stop (codes "S2") ∷ [];
  routes = route ∷ [];
  services = record { service_id = codes "C1"; service = daily } ∷ [];
  trips = trip periods ∷ [];
  transfers = [];
}

-- days begin at midnight UTC
abbrev utc : ℤ → ℤ
utc d = d *ℤ pos 86_400

abbrev key : ℤ → ℕ → ℕ → Key
key x r n = record { instant = x; trip = codes "T1"; run = r; sequence = n; day = pos 19814 }

first-row : is_departure (feed []) utc (key (pos 1711958400) 28800 1) ≡ true
unfolding weekday_number
first-row = refl

-- riders cannot leave from the last row
last-row : is_departure (feed []) utc (key (pos 1711959000) 28800 2) ≡ false
unfolding weekday_number
last-row = refl

other-stop : is_listed (feed []) utc (codes "S2") (pos 1711929600) (pos 1712016000) None (key (pos 1711958400) 28800 1) ≡ false
unfolding weekday_number
other-stop = refl

here : is_listed (feed []) utc (codes "S1") (pos 1711958400) (pos 1711958401) None (key (pos 1711958400) 28800 1) ≡ true
unfolding weekday_number
here = refl

until-excluded : is_listed (feed []) utc (codes "S1") (pos 1711958300) (pos 1711958400) None (key (pos 1711958400) 28800 1) ≡ false
unfolding weekday_number
until-excluded = refl

above-itself : is_listed (feed []) utc (codes "S1") (pos 1711929600) (pos 1712016000) (Some (key (pos 1711958400) 28800 1)) (key (pos 1711958400) 28800 1) ≡ false
unfolding weekday_number
above-itself = refl

-- above a key that no departure has
above-another : is_listed (feed []) utc (codes "S1") (pos 1711929600) (pos 1712016000) (Some (record { instant = pos 1711958400; trip = codes "T0"; run = 9; sequence = 9; day = pos 0 })) (key (pos 1711958400) 28800 1) ≡ true
unfolding weekday_number
above-another = refl

abbrev half_hours : List Frequency
half_hours = record { start_time = 21600; end_time = 25200; headway_secs = 1800; exact_times = 0 }
    ∷ record { start_time = 25200; end_time = 28800; headway_secs = 1800; exact_times = 1 } ∷ []

from-period : is_departure (feed half_hours) utc (key (pos 1711953000) 23400 1) ≡ true
unfolding weekday_number
from-period = refl

own-time : is_departure (feed half_hours) utc (key (pos 1711958400) 28800 1) ≡ false
unfolding weekday_number
own-time = refl

-- ---- what is shown

abbrev listed : ℕ → Mark → Listed
listed r m = record { key = key (pos 1711958400) r 1; stop = codes "S1"; route = codes "10"; headsign = codes "Lake"; mark = m }

shown-plain : shown (feed []) (key (pos 1711958400) 28800 1) ≡ Some (listed 28800 mark.Scheduled)
shown-plain = refl

shown-inexact : shown (feed half_hours) (key (pos 1711958400) 23400 1) ≡ Some (listed 23400 mark.Frequency)
shown-inexact = refl

shown-exact : shown (feed half_hours) (key (pos 1711958400) 25200 1) ≡ Some (listed 25200 mark.Scheduled)
shown-exact = refl

abbrev untimed : StopRow
untimed = record (stop_row (codes "S1") 0 2) { arrival_time = None; departure_time = None }

mark-untimed : mark_of (trip []) 28800 untimed ≡ mark.ScheduledFilled
mark-untimed = refl

mark-untimed-inexact : mark_of (trip half_hours) 23400 untimed ≡ mark.FrequencyFilled
mark-untimed-inexact = refl

mark-untimed-exact : mark_of (trip half_hours) 25200 untimed ≡ mark.ScheduledFilled
mark-untimed-exact = refl

-- ---- how many days wait at most

width-day : width 86_399 ≡ 4
width-day = refl

width-row : width 27_000 ≡ 3
width-row = refl

width-most : width 7_199_997 ≡ 86
width-most = refl
