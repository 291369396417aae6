-- The departure rows of all stops, in a list for each.
use Rattle.std.specs.Prelude.{◌≡◌, ℕ, ◌==◌, ◌&&◌, All, Bool, nat_lt, List, [], length, slice_index_or}
use Rattle.std.specs.declared.cmp.Ordering.TheVariants.{Less}
use Rattle.gtfs_rows.specs.TransferOrder.{Ascends}
use Rattle.gtfs_rows.specs.Runs.{is_departure_row}
use Rattle.gtfs_rows.specs.RowsInMemory.{content_of_parts, stop_ids, stop_row_of, text_of_number, trip_of}
use Rattle.gtfs_rows.specs.declared.frequency.Frequency.{Frequency}
use Rattle.gtfs_rows.specs.declared.parts.Parts.{Parts}
use Rattle.gtfs_stop_times.specs.declared.stop_row.StopRow.{StopRow}
use Rattle.gtfs_rows.specs.declared.trip.Trip.{Trip}
use Rattle.gtfs_runs.specs.StopIndex.{has_departure_row, departure_row_cmp}
use Rattle.gtfs_runs.specs.declared.departure_row.DepartureRow.{DepartureRow}

-- riders can leave the stop of this number at a stop time of a trip
abbrev pub leaves_stop : Parts → Trip → List StopRow → List Frequency → ℕ → StopRow → Bool
leaves_stop p u rows fs s x = is_departure_row (trip_of p u rows fs) (stop_row_of p x) && (x.stop_id.0 == s)

-- the stop time is a departure row at the stop, all by their numbers, of rows whose times are as they are
abbrev pub departs_of : Parts → ℕ → ℕ → ℕ → Bool
departs_of p s t r = nat_lt s (length p.stops) && has_departure_row (content_of_parts p) (text_of_number (stop_ids p) s) t r

-- those at the stop of this number, of the lists of all stops
abbrev pub at_stop : List (List DepartureRow) → ℕ → List DepartureRow
at_stop lists s = slice_index_or lists s []

-- a position of a trip, of whose stop time no more is said
abbrev pub position_of : ℕ → ℕ → DepartureRow
position_of t r = record { trip = t; row = r; left = 0; sequence = 0; rank = 0 }

-- they are in their order, and all before a position of a trip
pub record StandBefore (p : Parts) (t r : ℕ) (xs : List DepartureRow) : Type 0 where
  pub in_order : Ascends (departure_row_cmp p) xs
  pub before : All (λ x. departure_row_cmp p x (position_of t r) ≡ Less) xs
