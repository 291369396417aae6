-- The stop times of all trips: as they are seen, and where they stand.
use Rattle.std.specs.Prelude.{◌≡◌, ◌<◌, ◌≤◌, ◌-◌, ◌++◌, ℕ, Bool, false, List, drop, flat_map, length, map, slice_index_or, take, ⊤}
use Rattle.std.specs.List.{All}
use Rattle.gtfs_table.specs.FieldOffsets.{starts_of}
use Rattle.gtfs_stop_times.specs.declared.by_trip.Places.TheVariants as places
use Rattle.gtfs_stop_times.specs.declared.by_trip.Places.{Places}
use Rattle.gtfs_stop_times.specs.declared.by_trip.RowRange.{RowRange}
use Rattle.gtfs_stop_times.specs.declared.stop_row.StopRow.{StopRow}

-- the stop times in one list, trip after trip, and where those of each trip begin
pub record StopTimesOfTrips : Type 0 where
  pub rows : List StopRow
  pub starts : List ℕ

-- these stop times of each trip, one trip after the other
abbrev pub in_turn : List (List StopRow) → StopTimesOfTrips
in_turn trips = record { rows = flat_map (λ rs. rs) trips; starts = starts_of 0 trips }

-- the items of a range
abbrev pub items_in : {X : Type 0} → List X → RowRange → List X
items_in xs s = take (s.end - s.start) (drop s.start xs)

-- the rows of a range
abbrev pub rows_in : List StopRow → RowRange → List StopRow
rows_in rows s = items_in rows s

-- the stop time is at one of the stops at whose number there is true
abbrev pub is_at : List Bool → StopRow → Bool
is_at stops row = slice_index_or stops row.stop_id.0 false

-- each range ends where it begins or later, and in a list of this length
abbrev pub AreWithin : ℕ → List RowRange → Type 0
AreWithin size ranges = All (λ s. (s.start ≤ s.end) × (s.end ≤ size)) ranges

-- no range begins in a list of this length and ends behind it
abbrev pub AreUnbroken : ℕ → List RowRange → Type 0
AreUnbroken size ranges = All (λ s. size < s.end → size ≤ s.start) ranges

-- the stop times whose rows stand so
abbrev pub at_places : List StopRow → Places → StopTimesOfTrips
at_places rows (places.InTurn starts) = record { rows = rows; starts = starts.items }
at_places rows (places.Anywhere more ranges len) = in_turn (map (rows_in (rows ++ more.items)) ranges.items)

-- so many rows in all have ranges, each in one of two lists
pub record AreCounted (rows more : List StopRow) (ranges : List RowRange) (len : ℕ) : Type 0 where
  pub within : AreWithin (length (rows ++ more)) ranges
  pub unbroken : AreUnbroken (length rows) ranges
  pub counted : length (in_turn (map (rows_in (rows ++ more)) ranges)).rows ≡ len

abbrev pub AreSoundPlaces : List StopRow → Places → Type 0
AreSoundPlaces rows (places.InTurn starts) = ⊤
AreSoundPlaces rows (places.Anywhere more ranges len) = AreCounted rows more.items ranges.items len
