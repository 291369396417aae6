-- Trips of the content of parts that pass a test of their rows with numbers.
use Rattle.std.proofs.Common.{◌≡◌, ℕ, suc, Bool, List, [], ◌∷◌, Some, length, refl, arith}
use Rattle.std.specs.Prelude.{◌||◌}
use Rattle.std.specs.List.{list_any, slice_get}
use Rattle.gtfs_rows.specs.declared.frequency.Frequency.{Frequency}
use Rattle.gtfs_rows.specs.declared.parts.Parts.{Parts}
use Rattle.gtfs_rows.specs.declared.trip.Trip.{Trip as TripRow}
use Rattle.gtfs_stop_times.specs.declared.stop_row.StopRow.{StopRow}
use Rattle.gtfs_rows.specs.Rows.{Trip}
use Rattle.gtfs_rows.specs.RowsInMemory.{trip_of, trips_of}

module _ (p : Parts) (test : Trip → Bool) where
  -- a test of their rows of trips.txt
  pub any_heads : (of_row : TripRow → Bool) → ((t : TripRow) (r : List StopRow) (f : List Frequency) → test (trip_of p t r f) ≡ of_row t)
      → (ts : List TripRow) (rs : List (List StopRow)) (fs : List (List Frequency)) → length rs ≡ length ts → length fs ≡ length ts → list_any test (trips_of p ts rs fs) ≡ list_any of_row ts
  any_heads of_row same [] rs fs e g = refl
  any_heads of_row same (t ∷ ts) [] fs e g = absurd (omega arith)
  any_heads of_row same (t ∷ ts) (r ∷ rs) [] e g = absurd (omega arith)
  any_heads of_row same (t ∷ ts) (r ∷ rs) (f ∷ fs) e g =
      let later = any_heads of_row same ts rs fs (omega arith) (omega arith) in
      λ i. same t r f i || later i

  -- a test of their stop times
  pub any_stop_times : (of_rows : List StopRow → Bool) (ts : List TripRow) (rs : List (List StopRow)) (fs : List (List Frequency))
      → ((n : ℕ) (t : TripRow) (r : List StopRow) (f : List Frequency) → slice_get rs n ≡ Some r → test (trip_of p t r f) ≡ of_rows r)
      → length rs ≡ length ts → length fs ≡ length ts → list_any test (trips_of p ts rs fs) ≡ list_any of_rows rs
  any_stop_times of_rows [] [] fs same e g = refl
  any_stop_times of_rows [] (r ∷ rs) fs same e g = absurd (omega arith)
  any_stop_times of_rows (t ∷ ts) [] fs same e g = absurd (omega arith)
  any_stop_times of_rows (t ∷ ts) (r ∷ rs) [] same e g = absurd (omega arith)
  any_stop_times of_rows (t ∷ ts) (r ∷ rs) (f ∷ fs) same e g =
      let here = same 0 t r f refl in
      let later = any_stop_times of_rows ts rs fs (λ n u s h at. same (suc n) u s h at) (omega arith) (omega arith) in
      λ i. here i || later i
