-- The departure rows at each stop: the stop times of trips at which riders can leave that stop itself.
-- GTFS Schedule Reference, stop_times.txt.
use Rattle.std.specs.Prelude.{◌≡◌, ◌<◌, ℕ, ◌==◌, ◌&&◌, Bool, List, [], All, bytes_eq, length, slice_get, slice_index_or}
use Rattle.std.specs.List.{list_any}
use Rattle.std.specs.Ordering.{nat_cmp, on, then_cmp}
use Rattle.std.specs.declared.cmp.Ordering.{Ordering}
use Rattle.gtfs_schema.specs.FieldValues.{if_there}
use Rattle.gtfs_rows.specs.Content.{Content}
use Rattle.gtfs_rows.specs.TransferOrder.{Ascends}
use Rattle.gtfs_rows.specs.Runs.{is_departure_row}
use Rattle.gtfs_rows.specs.Trips.{stop_rows_by_trip}
use Rattle.gtfs_rows.specs.RowsInMemory.{content_of_parts, stop_ids, text_of_number}
use Rattle.gtfs_rows.specs.declared.parts.Parts.{Parts}
use Rattle.gtfs_times.specs.Filling.{timed}
use Rattle.gtfs_times.specs.declared.times.Times.{Times}
use Rattle.gtfs_runs.specs.declared.departure_row.DepartureRow.{DepartureRow}
use Rattle.gtfs_runs.specs.steps.TripGroups.{group_cmp, trip_group}
use Rattle.gtfs_runs.specs.steps.Passings.{first_left}

-- the stop time of a trip at a position, both from 0, is a departure row at the stop
abbrev pub has_departure_row : Content → List ℕ → ℕ → ℕ → Bool
has_departure_row c s trip row =
    if_there (slice_get c.trips trip) (λ t. if_there (slice_get t.stop_rows row) (λ r. is_departure_row t r && bytes_eq r.stop_id s))

-- trips by service, then by their list of stops, by when they leave the first stop, and by number
abbrev pub index_trip_cmp : Parts → ℕ → ℕ → Ordering
index_trip_cmp p = then_cmp (on (trip_group p) group_cmp) (then_cmp (on (λ t. first_left (slice_index_or (stop_rows_by_trip p) t [])) nat_cmp) nat_cmp)

-- by trip in that order, and in each trip by position
abbrev pub departure_row_cmp : Parts → DepartureRow → DepartureRow → Ordering
departure_row_cmp p = then_cmp (on (λ x. x.trip) (index_trip_cmp p)) (on (λ x. x.row) nat_cmp)

-- that of this trip at this position
abbrev pub is_this_row : ℕ → ℕ → DepartureRow → Bool
is_this_row trip row x = (trip == x.trip) && (row == x.row)

-- what contracts see of an index: of which feed it is, under which times, and the departure rows at each stop, by its number
pub record StopIndexValue : Type 0 where
  pub feed : Parts
  pub times : Times
  pub rows : List (List DepartureRow)

-- for each stop, by its number, every departure row there and no other, each once, in their order
pub record AreDepartureRows (times : Times) (p : Parts) (index : List (List DepartureRow)) : Type 0 where
  pub counted : length index ≡ length p.stops
  pub in_order : All (Ascends (departure_row_cmp p)) index
  pub all : (s trip row : ℕ) → s < length p.stops
      → list_any (is_this_row trip row) (slice_index_or index s []) ≡ has_departure_row (timed times (content_of_parts p)) (text_of_number (stop_ids p) s) trip row
