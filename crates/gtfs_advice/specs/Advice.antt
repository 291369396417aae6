-- The advice on a feed: for each file in turn, for each of its subjects, the codes of the rules that hold of it.
use Rattle.std.specs.Prelude.{◌≡◌, ◌<◌, ⊤, ℕ, ◌++◌, not, Bool, if◌then◌else◌, List, [], ◌∷◌, All, length, map, filter, flat_map, slice_index_or, ℤ, Option, Some, None}
use Rattle.gtfs_rows.specs.Content.{Content}
use Rattle.gtfs_rows.specs.Rows.{Agency, Stop, Route, ServiceRow, Trip}
use Rattle.gtfs_rows.specs.RowsInMemory.{agency_ids, route_ids, service_ids, stop_ids, trip_ids}
use Rattle.gtfs_rows.specs.declared.parts.Parts.{Parts}
use Rattle.gtfs_advice.specs.declared.advice.Advice.{Advice}
use Rattle.gtfs_advice.specs.declared.advice.Subject.{Subject}
use Rattle.gtfs_advice.specs.declared.advice.Subject.TheVariants as subject
use Rattle.gtfs_advice.specs.declared.code.Code.{Code}
use Rattle.gtfs_advice.specs.declared.code.Code.TheVariants as code
use Rattle.gtfs_advice.specs.Agencies.{has_no_route, has_no_web_address, is_garbled_agency}
use Rattle.gtfs_advice.specs.Stops.{has_no_call, has_no_stop, is_near_zero_or_pole, is_far_from_parent, is_garbled_stop}
use Rattle.gtfs_advice.specs.Routes as route
use Rattle.gtfs_advice.specs.Trips.{lacks_headsign, is_same_as_another, is_garbled_trip, has_period_of_one_run}
use Rattle.gtfs_advice.specs.StopTimes.{stops_twice_in_a_row, has_six_stops_at_one_moment, is_faster_than_a_train, has_closed_stop, is_longer_than_a_day}
use Rattle.gtfs_advice.specs.Services.{has_week, gaps, ends_soon, last_served}
use Rattle.gtfs_advice.specs.Services as service

-- ---- what an advice is about, and rules

-- a row by its id, a day, or nothing
pub data About : Type 0 where
  row : List ℕ → About
  day : ℤ → About
  nothing : About

-- a rule: the code, and of which rows it holds
abbrev pub AdviceRule : Type 0 → Type 0
AdviceRule X = Code × (X → Bool)

-- the codes of the rules that hold of a row, in the order of the rules
abbrev pub codes_of : {X : Type 0} → List (AdviceRule X) → X → List Code
codes_of rules x = map (λ r. r.0) (filter (λ r. r.1 x) rules)

-- each of these codes, about one subject
abbrev pub told_about : About → List Code → List (Code × About)
told_about about cs = map (λ c. (c, about)) cs

-- the advice on rows in turn
abbrev pub advice_on : {X : Type 0} → (X → List ℕ) → List (AdviceRule X) → List X → List (Code × About)
advice_on id rules xs = flat_map (λ x. told_about (row (id x)) (codes_of rules x)) xs

-- whether each rule holds of a row
abbrev pub answers_of : {X : Type 0} → List (AdviceRule X) → X → List (Code × Bool)
answers_of rules x = map (λ r. (r.0, r.1 x)) rules

-- ---- the rules of each file

abbrev pub agency_rules : Content → List (AdviceRule Agency)
agency_rules c = (code.AgencyWithoutRoute, has_no_route c) ∷ (code.AddressWithoutScheme, has_no_web_address)
    ∷ (code.GarbledAgency, is_garbled_agency) ∷ []

abbrev pub stop_rules : Content → List (AdviceRule Stop)
stop_rules c = (code.StopWithoutTrip, has_no_call c) ∷ (code.StationWithoutStop, has_no_stop c)
    ∷ (code.StopNearZeroOrPole, is_near_zero_or_pole) ∷ (code.StopFarFromParent, is_far_from_parent c)
    ∷ (code.GarbledStop, is_garbled_stop) ∷ []

abbrev pub route_rules : Content → List (AdviceRule Route)
route_rules c = (code.RouteWithoutTrip, route.has_no_trip c) ∷ (code.RouteNamedAsAnother, route.is_named_as_another c)
    ∷ (code.LongShortName, route.has_long_short_name) ∷ (code.RepeatedShortName, route.repeats_short_name)
    ∷ (code.CloseColours, route.has_close_colours) ∷ (code.DirectionOfSomeTrips, route.has_some_directions c)
    ∷ (code.GarbledRoute, route.is_garbled_route) ∷ []

abbrev pub trip_rules : Content → List (AdviceRule Trip)
trip_rules c = (code.TripWithoutHeadsign, lacks_headsign) ∷ (code.TripAsAnother, is_same_as_another c)
    ∷ (code.GarbledTrip, is_garbled_trip) ∷ []

abbrev pub stop_time_rules : Content → List (AdviceRule Trip)
stop_time_rules c = (code.StopTwiceInARow, stops_twice_in_a_row) ∷ (code.SixStopsAtOneMoment, has_six_stops_at_one_moment)
    ∷ (code.FasterThanATrain, is_faster_than_a_train c) ∷ (code.NobodyGetsOnOrOff, has_closed_stop)
    ∷ (code.LongerThanADay, is_longer_than_a_day) ∷ []

abbrev pub frequency_rules : List (AdviceRule Trip)
frequency_rules = (code.PeriodOfOneRun, has_period_of_one_run) ∷ []

abbrev pub calendar_rules : Content → List (AdviceRule ServiceRow)
calendar_rules c = (code.ServiceWithoutTrip, service.has_no_trip c) ∷ []

abbrev pub date_rules : Content → List (AdviceRule ServiceRow)
date_rules c = (code.DatesWithoutTrip, service.has_no_trip c) ∷ []

-- ---- the advice of each file

abbrev pub agency_advice : Content → List (Code × About)
agency_advice c = advice_on (λ a. a.agency_id) (agency_rules c) c.agencies

abbrev pub stop_advice : Content → List (Code × About)
stop_advice c = advice_on (λ s. s.stop_id) (stop_rules c) c.stops

abbrev pub route_advice : Content → List (Code × About)
route_advice c = advice_on (λ r. r.route_id) (route_rules c) c.routes

abbrev pub trip_advice : Content → List (Code × About)
trip_advice c = advice_on (λ t. t.trip_id) (trip_rules c) c.trips

-- those of stop_times.txt and frequencies.txt are about the trip
abbrev pub stop_time_advice : Content → List (Code × About)
stop_time_advice c = advice_on (λ t. t.trip_id) (stop_time_rules c) c.trips

abbrev pub frequency_advice : Content → List (Code × About)
frequency_advice c = advice_on (λ t. t.trip_id) frequency_rules c.trips

-- a service stands under calendar.txt where it has a row there, else under calendar_dates.txt
abbrev pub calendar_advice : Content → List (Code × About)
calendar_advice c = advice_on (λ s. s.service_id) (calendar_rules c) (filter has_week c.services)

abbrev pub date_advice : Content → List (Code × About)
date_advice c = advice_on (λ s. s.service_id) (date_rules c) (filter (λ s. not (has_week s)) c.services)

abbrev pub gap_advice : Content → List (Code × About)
gap_advice c = map (λ d. (code.GapInService, day d)) (gaps c)

abbrev pub about_day : Option ℤ → About
about_day None = nothing
about_day (Some d) = day d

-- asked only where a day is given, from which on there is to be service
abbrev pub end_advice : Content → Option ℤ → List (Code × About)
end_advice c None = []
end_advice c (Some d) = if ends_soon c d then (code.EndOfService, about_day (last_served c)) ∷ [] else []

-- ---- the advice on a feed

abbrev pub advice : Content → Option ℤ → List (Code × About)
advice c d = agency_advice c ++ stop_advice c ++ route_advice c ++ trip_advice c ++ stop_time_advice c
    ++ calendar_advice c ++ gap_advice c ++ end_advice c d ++ date_advice c ++ frequency_advice c

-- ---- the advice that the code tells, in which rows have numbers

abbrev pub about_of : Parts → Subject → About
about_of p (subject.Agency n) = row (slice_index_or (agency_ids p) n.0 [])
about_of p (subject.Stop n) = row (slice_index_or (stop_ids p) n.0 [])
about_of p (subject.Route n) = row (slice_index_or (route_ids p) n.0 [])
about_of p (subject.Trip n) = row (slice_index_or (trip_ids p) n.0 [])
about_of p (subject.Service n) = row (slice_index_or (service_ids p) n.0 [])
about_of p (subject.Day d) = day d
about_of p subject.Nothing = nothing

abbrev pub advice_of : Parts → Advice → Code × About
advice_of p a = (a.code, about_of p a.subject)

-- an advice about one subject for each rule that holds
abbrev pub said : Subject → List (Code × Bool) → List Advice
said s answers = map (λ r. record { code = r.0; subject = s }) (filter (λ r. r.1) answers)

-- the number is that of a row
abbrev pub IsWithin : Parts → Subject → Type 0
IsWithin p (subject.Agency n) = n.0 < length p.agencies
IsWithin p (subject.Stop n) = n.0 < length p.stops
IsWithin p (subject.Route n) = n.0 < length p.routes
IsWithin p (subject.Trip n) = n.0 < length p.trips
IsWithin p (subject.Service n) = n.0 < length p.services
IsWithin p (subject.Day d) = ⊤
IsWithin p subject.Nothing = ⊤

-- these advices were added at the end, each about a row that is there
pub record Tells (p : Parts) (more : List (Code × About)) (before after : List Advice) : Type 0 where
  pub added : List Advice
  pub behind : after ≡ before ++ added
  pub told : map (advice_of p) added ≡ more
  pub within : All (λ a. IsWithin p a.subject) added
