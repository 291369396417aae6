-- What the definitions say of a few trips under their headings.
use Rattle.std.proofs.Common.{◌≡◌, ◌∷◌, [], ℕ, List, Option, Some, None, true, false, map, refl, codes}
use Rattle.std.specs.declared.cmp.Ordering.TheVariants.{Less}
use Rattle.gtfs_table.specs.FieldOffsets as table
use Rattle.gtfs_rows.specs.declared.row_choices.Direction.TheVariants as direction
use Rattle.gtfs_rows.specs.declared.row_choices.Direction.{Direction}
use Rattle.gtfs_rows.specs.declared.row_choices.WheelchairAccessible.TheVariants as wheelchair
use Rattle.gtfs_rows.specs.declared.row_choices.BikesAllowed.TheVariants as bikes
use Rattle.gtfs_stop_times.specs.declared.stop_time_choices.PickupType.TheVariants as pickup
use Rattle.gtfs_stop_times.specs.declared.stop_time_choices.DropOffType.TheVariants as drop_off
use Rattle.gtfs_rows.specs.declared.parts.Parts.{Parts}
use Rattle.gtfs_stop_times.specs.declared.stop_row.StopRow.{StopRow}
use Rattle.gtfs_rows.specs.declared.trip.Trip.{Trip}
use Rattle.gtfs_runs.specs.Patterns.{Entry, Heading, headings_change, entries_of, entry_cmp}

abbrev heading : Option ℕ → List ℕ → Heading
heading d stops = record { direction = d; stops = map (λ n. record { 0 = n }) stops }

abbrev entry : Option ℕ → List ℕ → ℕ → Entry
entry d stops n = record { heading = heading d stops; trip = record { 0 = n } }

-- ---- order

none-before_0 : entry_cmp (entry None (7 ∷ []) 9) (entry (Some 0) (3 ∷ []) 0) ≡ Less
none-before_0 = refl

zero-before_1 : entry_cmp (entry (Some 0) (7 ∷ []) 9) (entry (Some 1) (3 ∷ []) 0) ≡ Less
zero-before_1 = refl

-- a list that begins another stands before it
beginning : entry_cmp (entry None (3 ∷ []) 9) (entry None (3 ∷ 4 ∷ []) 0) ≡ Less
beginning = refl

-- and otherwise the first stop that differs decides, however long the lists are
first-stop : entry_cmp (entry None (3 ∷ 4 ∷ 8 ∷ []) 9) (entry None (3 ∷ 5 ∷ []) 0) ≡ Less
first-stop = refl

by_trip : entry_cmp (entry None (3 ∷ 4 ∷ []) 1) (entry None (3 ∷ 4 ∷ []) 2) ≡ Less
by_trip = refl

-- ---- neighbours

other-direction : headings_change (heading None (3 ∷ []) ∷ heading (Some 0) (3 ∷ []) ∷ []) ≡ true
other-direction = refl

twice : headings_change (heading (Some 1) (3 ∷ 4 ∷ []) ∷ heading (Some 1) (3 ∷ 4 ∷ []) ∷ []) ≡ false
twice = refl

-- ---- the trips of a route

abbrev trip : ℕ → Option Direction → Trip
trip route d = record {
  route_id = record { 0 = route };
  service_id = record { 0 = 0 };
  trip_id = codes "T";
  trip_headsign = None;
  trip_short_name = None;
  direction_id = d;
  wheelchair_accessible = wheelchair.Unknown;
  bikes_allowed = bikes.Unknown;
}

abbrev row : ℕ → ℕ → StopRow
row stop sequence = record {
  stop_id = record { 0 = stop };
  arrival_time = None;
  departure_time = None;
  stop_sequence = sequence;
  stop_headsign = None;
  pickup_type = pickup.Regular;
  drop_off_type = drop_off.Regular;
  timepoint = None;
}

-- a trip without a direction, one of another route, one without stop times and one of direction 1
abbrev four_trips : Parts
four_trips = record {
  agencies = [];
  stops = [];
  routes = [];
  services = [];
  trips = trip 5 None ∷ trip 6 None ∷ trip 5 (Some direction.One) ∷ trip 5 (Some direction.Opposite) ∷ [];
  transfers = [];
  stop_times = record { rows = row 8 1 ∷ row 7 2 ∷ row 7 1 ∷ row 8 2 ∷ row 8 1 ∷ row 7 2 ∷ []; starts = 0 ∷ 2 ∷ 4 ∷ 4 ∷ [] };
  frequencies = [];
  frequency_starts = 0 ∷ 0 ∷ 0 ∷ 0 ∷ [];
  headsigns = [];
}

of_route : entries_of four_trips 5 ≡ entry None (8 ∷ 7 ∷ []) 0 ∷ entry (Some 1) (8 ∷ 7 ∷ []) 3 ∷ []
unfolding table.parts
of_route = refl

of_no_route : entries_of four_trips 4 ≡ []
of_no_route = refl
