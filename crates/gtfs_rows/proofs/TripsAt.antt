-- The trips of the content of parts, each at its number.
use Rattle.std.proofs.Common.{◌≡◌, ℕ, zero, suc, List, [], ◌∷◌, Some}
use Rattle.std.specs.List.{slice_get}
use Rattle.std.proofs.lemmas.Option.{same_Some}
use Rattle.gtfs_rows.specs.declared.frequency.Frequency.{Frequency}
use Rattle.gtfs_rows.specs.declared.parts.Parts.{Parts}
use Rattle.gtfs_stop_times.specs.declared.stop_row.StopRow.{StopRow}
use Rattle.gtfs_rows.specs.declared.trip.Trip.{Trip}
use Rattle.gtfs_rows.specs.RowsInMemory.{trip_of, trips_of, content_of_parts}
use Rattle.gtfs_rows.specs.Trips.{stop_rows_by_trip, frequencies_by_trip}

at : (p : Parts) (ts : List Trip) (rs : List (List StopRow)) (fs : List (List Frequency)) (t : ℕ) (row : Trip) (r : List StopRow) (f : List Frequency)
    → slice_get ts t ≡ Some row → slice_get rs t ≡ Some r → slice_get fs t ≡ Some f → slice_get (trips_of p ts rs fs) t ≡ Some (trip_of p row r f)
at p [] rs fs t row r f a b e = cc
at p (u ∷ ts) [] fs t row r f a b e = cc
at p (u ∷ ts) (x ∷ rs) [] t row r f a b e = cc
at p (u ∷ ts) (x ∷ rs) (y ∷ fs) zero row r f a b e = λ i. Some (trip_of p (same_Some u row a i) (same_Some x r b i) (same_Some y f e i))
at p (u ∷ ts) (x ∷ rs) (y ∷ fs) (suc t) row r f a b e = at p ts rs fs t row r f a b e

-- the trip of a number in the content: its row with its stop times and its frequencies
pub content_trip : (p : Parts) (t : ℕ) (row : Trip) (rs : List StopRow) (fs : List Frequency)
    → slice_get p.trips t ≡ Some row → slice_get (stop_rows_by_trip p) t ≡ Some rs → slice_get (frequencies_by_trip p) t ≡ Some fs
    → slice_get (content_of_parts p).trips t ≡ Some (trip_of p row rs fs)
content_trip p t row rs fs a b e = at p p.trips (stop_rows_by_trip p) (frequencies_by_trip p) t row rs fs a b e
