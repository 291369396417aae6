-- What an index keeps of trips, and how departure rows find it: by the rank of a trip in the order of the index.
use Rattle.std.specs.Prelude.{◌≡◌, ◌<◌, ◌==◌, ℕ, Bool, true, List, [], Some, length, not, slice_get, slice_index_or}
use Rattle.gtfs_schema.specs.FieldValues.{if_there}
use Rattle.gtfs_rows.specs.Trips.{frequencies_by_trip, stop_rows_by_trip}
use Rattle.gtfs_rows.specs.declared.frequency.Frequency.{Frequency}
use Rattle.gtfs_rows.specs.declared.parts.Parts.{Parts}
use Rattle.gtfs_runs.specs.declared.departure_row.DepartureRow.{DepartureRow}
use Rattle.gtfs_runs.specs.declared.stop_index.indexed_trips.IndexedTrip.{IndexedTrip}
use Rattle.gtfs_runs.specs.steps.TripGroups.{GroupedTripValue, lower_trips, trip_group}
use Rattle.gtfs_runs.specs.steps.Passings.{first_left}

-- the number of the group of a trip, by which groups are compared: how many trips of the feed have a lower one
abbrev pub group_number : Parts → ℕ → ℕ
group_number p t = lower_trips p (length p.trips) (trip_group p t)

-- what an index keeps of a trip
pub record IsIndexedTrip (p : Parts) (t : ℕ) (x : IndexedTrip) : Type 0 where
  pub group : x.group ≡ group_number p t
  pub service : x.service ≡ (trip_group p t).0
  pub start : x.start ≡ first_left (slice_index_or (stop_rows_by_trip p) t [])
  pub marked : (fs : List Frequency) → slice_get (frequencies_by_trip p) t ≡ Some fs → x.has_frequencies ≡ not (length fs == 0)

-- each of these is what it keeps of the trip of its rank
pub record AreIndexedTrips (p : Parts) (sorted : List GroupedTripValue) (trips : List IndexedTrip) : Type 0 where
  pub counted : length trips ≡ length sorted
  pub each : (n : ℕ) (d : GroupedTripValue) (e : IndexedTrip) → n < length sorted → IsIndexedTrip p (slice_index_or sorted n d).trip.0 (slice_index_or trips n e)

-- this is the number of the trip of a rank
abbrev pub has_rank : List GroupedTripValue → ℕ → ℕ → Bool
has_rank sorted t k = if_there (slice_get sorted k) (λ x. x.trip.0 == t)

-- the departure row has the rank of its trip
abbrev pub IsOfRank : List GroupedTripValue → DepartureRow → Type 0
IsOfRank sorted x = has_rank sorted x.trip x.rank ≡ true

-- at the rank of the departure row is what is kept of its trip
abbrev pub IsRanked : Parts → List IndexedTrip → DepartureRow → Type 0
IsRanked p trips x = (x.rank < length trips) × ((e : IndexedTrip) → IsIndexedTrip p x.trip (slice_index_or trips x.rank e))
