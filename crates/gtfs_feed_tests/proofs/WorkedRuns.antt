-- What the definitions say of small trips.
use Rattle.std.proofs.Common.{◌≡◌, ◌∷◌, [], codes, refl, ℕ, List, Some, None, true, false}
use Rattle.std.specs.Prelude.{pos, negsuc}
use Rattle.gtfs_rows.specs.Rows.{StopRow}
use Rattle.gtfs_runs.specs.declared.event.Event.{Event}
use Rattle.gtfs_runs.specs.Events.{is_event}
use Rattle.gtfs_runs.specs.Lanes.{period_count}
use Rattle.gtfs_runs.specs.EventOrder.{is_above_moment, is_later}
use Rattle.gtfs_rows.specs.Places.{is_in_place}
use Rattle.gtfs_rows.specs.Runs.{is_run, is_departure_row, passes_at}
use Rattle.gtfs_feed_tests.proofs.Samples.{stop_row, trip, period, plain_rows, half_hours, feed, stops}

-- ---- runs

-- a trip without frequencies has one run, at its first departure
own : is_run (trip plain_rows []) 28800 ≡ true
own = refl

other : is_run (trip plain_rows []) 28801 ≡ false
other = refl

-- a trip without stop rows has none
no_rows : is_run (trip [] half_hours) 21600 ≡ false
no_rows = refl

-- a run starts at each half hour from six to half past seven, and none at the trip's own time or at a period's end
first-half_hour : is_run (trip plain_rows half_hours) 21600 ≡ true
first-half_hour = refl

last-half_hour : is_run (trip plain_rows half_hours) 27000 ≡ true
last-half_hour = refl

at_end : is_run (trip plain_rows half_hours) 28800 ≡ false
at_end = refl

between : is_run (trip plain_rows half_hours) 21601 ≡ false
between = refl

-- the last second at which a run can start, and when it passes the latest row
abbrev latest_rows : List StopRow
latest_rows = stop_row (codes "S1") (Some 0) 1 0 ∷ stop_row (codes "S1") (Some 3599999) 2 0 ∷ stop_row (codes "S2") (Some 3599999) 3 0 ∷ []

last-second : is_run (trip latest_rows (period 3599998 3599999 1 ∷ [])) 3599998 ≡ true
last-second = refl

latest-time : passes_at (trip latest_rows (period 3599998 3599999 1 ∷ [])) 3599998 (stop_row (codes "S1") (Some 3599999) 2 0) ≡ 7199997
latest-time = refl

-- ---- departure rows: timed, not the last, and riders may board

abbrev round_rows : List StopRow
round_rows = stop_row (codes "S1") (Some 28800) 1 0 ∷ stop_row (codes "S2") None 2 0 ∷ stop_row (codes "S1") (Some 30000) 3 1 ∷ stop_row (codes "S1") (Some 30600) 4 0 ∷ []

departs : is_departure_row (trip round_rows []) (stop_row (codes "S1") (Some 28800) 1 0) ≡ true
departs = refl

untimed : is_departure_row (trip round_rows []) (stop_row (codes "S2") None 2 0) ≡ false
untimed = refl

no_pickup : is_departure_row (trip round_rows []) (stop_row (codes "S1") (Some 30000) 3 1) ≡ false
no_pickup = refl

last-row : is_departure_row (trip round_rows []) (stop_row (codes "S1") (Some 30600) 4 0) ≡ false
last-row = refl

-- ---- places

itself : is_in_place (feed stops (trip plain_rows [])) (codes "S") (codes "S") ≡ true
itself = refl

platform : is_in_place (feed stops (trip plain_rows [])) (codes "S") (codes "P") ≡ true
platform = refl

entrance : is_in_place (feed stops (trip plain_rows [])) (codes "S") (codes "E") ≡ false
entrance = refl

station-of_platform : is_in_place (feed stops (trip plain_rows [])) (codes "P") (codes "S") ≡ false
station-of_platform = refl

-- ---- events

abbrev event : ℕ → ℕ → ℕ → ℕ → Event
event at run seq row = record { at = at; trip = record { 0 = 0 }; run = run; seq = seq; row = row }

of_run : is_event (feed stops (trip plain_rows half_hours)) (codes "S1") (codes "C1") (event 25200 25200 1 0) ≡ true
of_run = refl

of_other_service : is_event (feed stops (trip plain_rows half_hours)) (codes "S1") (codes "C2") (event 25200 25200 1 0) ≡ false
of_other_service = refl

late : is_event (feed stops (trip plain_rows half_hours)) (codes "S1") (codes "C1") (event 25800 25200 1 0) ≡ false
late = refl

of_last_row : is_event (feed stops (trip plain_rows half_hours)) (codes "S2") (codes "C1") (event 25800 25200 2 1) ≡ false
of_last_row = refl

beside_frequencies : is_event (feed stops (trip plain_rows half_hours)) (codes "S1") (codes "C1") (event 28800 28800 1 0) ≡ false
beside_frequencies = refl

at_station : is_event (feed stops (trip (stop_row (codes "P") (Some 60) 1 0 ∷ stop_row (codes "S2") (Some 120) 2 0 ∷ []) [])) (codes "S") (codes "C1") (event 60 60 1 0) ≡ true
at_station = refl

-- a period of two rows at one place: one lane for each
periods : period_count (feed stops (trip plain_rows half_hours)) (codes "S1") ≡ 2
periods = refl

-- ---- order

-- an event lies above a seek of its trip and run with a lesser sequence, and not above that of its own
above-lesser : is_above_moment (record { at = pos 60; trip = record { 0 = 0 }; run = 60; seq = pos 0 }) (event 60 60 1 0) ≡ true
above-lesser = refl

above-own : is_above_moment (record { at = pos 60; trip = record { 0 = 0 }; run = 60; seq = pos 1 }) (event 60 60 1 0) ≡ false
above-own = refl

-- the same second of a greater trip lies below
above-greater_trip : is_above_moment (record { at = pos 60; trip = record { 0 = 1 }; run = 0; seq = negsuc 0 }) (event 60 60 1 0) ≡ false
above-greater_trip = refl

above-before_day : is_above_moment (record { at = negsuc 0; trip = record { 0 = 9 }; run = 99; seq = pos 9 }) (event 0 0 1 0) ≡ true
above-before_day = refl

-- two rows of a run at one second are two events
later-row : is_later (event 60 60 1 0) (event 60 60 2 1) ≡ true
later-row = refl
