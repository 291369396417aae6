-- The departure rows at the place of a stop, of all trips or of those from a number on.
use Rattle.std.specs.Prelude.{◌≡◌, ℕ, ◌&&◌, Bool, true, cond, nat_le, nat_lt, List, [], ◌∷◌, length, slice_get, slice_index_or}
use Rattle.std.specs.List.{list_any}
use Rattle.std.specs.Ordering.{nat_cmp, on, then_cmp}
use Rattle.std.specs.declared.cmp.Ordering.{Ordering}
use Rattle.gtfs_schema.specs.FieldValues.{if_there}
use Rattle.gtfs_rows.specs.TransferOrder.{Ascends}
use Rattle.gtfs_rows.specs.Places.{is_in_place}
use Rattle.gtfs_rows.specs.Runs.{is_departure_row}
use Rattle.gtfs_rows.specs.Trips.{stop_rows_by_trip}
use Rattle.gtfs_rows.specs.RowsInMemory.{content_of_parts, stop_ids, text_of_number}
use Rattle.gtfs_rows.specs.declared.parts.Parts.{Parts}
use Rattle.gtfs_stop_times.specs.declared.stop_row.StopRow.{StopRow}
use Rattle.gtfs_runs.specs.Tallies.{tally}
use Rattle.gtfs_runs.specs.StopIndex.{is_this_row}
use Rattle.gtfs_runs.specs.declared.departure_row.DepartureRow.{DepartureRow}
use Rattle.gtfs_runs.specs.declared.stop_lanes.passing.Passing.{Passing}
use Rattle.gtfs_runs.specs.steps.Passings.{first_left, passing_at}

-- the stop time of a trip at a position is a departure row at the place of a stop, all by their numbers
abbrev pub departs_in_place : Parts → ℕ → ℕ → ℕ → Bool
departs_in_place p s t r = if_there (slice_get (content_of_parts p).trips t) (λ u. if_there (slice_get u.stop_rows r)
    (λ x. is_departure_row u x && is_in_place (content_of_parts p) (text_of_number (stop_ids p) s) x.stop_id))

-- all of them and no other, each once
abbrev pub AreOfPlace : Parts → ℕ → List DepartureRow → Type 0
AreOfPlace p s xs = (t r : ℕ) → tally (is_this_row t r) xs ≡ cond (departs_in_place p s t r) 1 0

-- by the numbers of trips, and in each trip by position
abbrev pub number_cmp : DepartureRow → DepartureRow → Ordering
number_cmp = then_cmp (on (λ x. x.trip) nat_cmp) (on (λ x. x.row) nat_cmp)

-- those of the trips from this number on and no other, each once, by the numbers of trips
pub record ArePlaceRows (p : Parts) (s from : ℕ) (xs : List DepartureRow) : Type 0 where
  pub in_order : Ascends number_cmp xs
  pub all : (t r : ℕ) → list_any (is_this_row t r) xs ≡ (nat_le from t && departs_in_place p s t r)

-- the trip of the first, or this number where there is none
abbrev pub first_trip : ℕ → List DepartureRow → ℕ
first_trip n [] = n
first_trip n (x ∷ xs) = x.trip

-- it is a stop time of a trip
abbrev pub IsStopTime : Parts → DepartureRow → Type 0
IsStopTime p x = if_there (slice_get (stop_rows_by_trip p) x.trip) (λ rows. nat_lt x.row (length rows)) ≡ true

-- the departure row among the stop times of its trip
abbrev pub passing_of : List StopRow → StopRow → DepartureRow → Passing
passing_of rows d x = passing_at (first_left rows) (x.row, slice_index_or rows x.row d)

-- and among those of all trips
abbrev pub passing_in : Parts → StopRow → DepartureRow → Passing
passing_in p d x = passing_of (slice_index_or (stop_rows_by_trip p) x.trip []) d x
