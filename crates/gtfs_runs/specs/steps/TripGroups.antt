-- The group of a trip, its service and its stops: trips of one group share lanes.
use Rattle.std.specs.Prelude.{◌≡◌, ◌==◌, ◌+◌, ◌*◌, ◌^◌, ℕ, All, List, cond, nat_lt, [], map, option_map, slice_get, slice_index_or, unwrap_or}
use Rattle.std.specs.List.{range_with_len}
use Rattle.std.specs.Cmp.Lexicographic.{slice_cmp}
use Rattle.std.specs.Ordering.{is_eq, is_lt, nat_cmp, on, then_cmp}
use Rattle.std.specs.declared.cmp.Ordering.{Ordering}
use Rattle.gtfs_rows.specs.Trips.{stop_rows_by_trip}
use Rattle.gtfs_rows.specs.declared.numbers.TripNo.{TripNo}
use Rattle.gtfs_rows.specs.declared.parts.Parts.{Parts}
use Rattle.gtfs_stop_times.specs.StopLists.{stops_in}
use Rattle.gtfs_runs.specs.Tallies.{tally}
use Rattle.gtfs_runs.specs.steps.Passings.{first_left}

-- the number of a service, and those of stops
abbrev pub Group : Type 0
Group = ℕ × List ℕ

-- lists compare like words
abbrev pub list_cmp : List ℕ → List ℕ → Ordering
list_cmp = slice_cmp nat_cmp

-- by service, and then by stops
abbrev pub group_cmp : Group → Group → Ordering
group_cmp = then_cmp (on (λ g. g.0) nat_cmp) (on (λ g. g.1) list_cmp)

-- that of the trip of this number
abbrev pub trip_group : Parts → ℕ → Group
trip_group p t = (unwrap_or (option_map (λ u. u.service_id.0) (slice_get p.trips t)) 0, stops_in (slice_index_or (stop_rows_by_trip p) t []))

-- what contracts see of a trip by its group: its number, its group, and when it leaves its first stop
pub record GroupedTripValue : Type 0 where
  pub trip : TripNo
  pub service : ℕ
  pub stops : List ℕ
  pub start : ℕ

abbrev pub group_of : GroupedTripValue → Group
group_of x = (x.service, x.stops)

-- the first two stops as one number, with 0 for one that is not there
abbrev pub lead_of : List ℕ → ℕ
lead_of stops = slice_index_or stops 0 0 * 2 ^ 32 + slice_index_or stops 1 0

-- how many of these have a lower group
abbrev pub below : List GroupedTripValue → Group → ℕ
below xs g = tally (λ x. is_lt (group_cmp (group_of x) g)) xs

-- how many of these are of the group
abbrev pub sharing : List GroupedTripValue → Group → ℕ
sharing xs g = tally (λ x. is_eq (group_cmp (group_of x) g)) xs

-- ---- the trips of a feed

-- how many trips with a number below this one have a lower group
abbrev pub lower_trips : Parts → ℕ → Group → ℕ
lower_trips p n g = tally (λ t. is_lt (group_cmp (trip_group p t) g)) (range_with_len 0 n)

-- the trips with a number below this one, each once
pub record AreOfTrips (p : Parts) (n : ℕ) (xs : List GroupedTripValue) : Type 0 where
  pub once : (t : ℕ) → tally (λ x. t == x.trip.0) xs ≡ cond (nat_lt t n) 1 0
  pub groups : All (λ x. group_of x ≡ trip_group p x.trip.0) xs
  pub starts : All (λ x. x.start ≡ first_left (slice_index_or (stop_rows_by_trip p) x.trip.0 [])) xs
  pub lower : (g : Group) → below xs g ≡ lower_trips p n g

-- by group, then by when they leave the first stop, and then by number
abbrev pub grouped_cmp : GroupedTripValue → GroupedTripValue → Ordering
grouped_cmp = then_cmp (on group_of group_cmp) (then_cmp (on (λ x. x.start) nat_cmp) (on (λ x. x.trip.0) nat_cmp))
