-- Filling and new names: a row has the time of its position under any names.
use Rattle.std.proofs.Common.{◌≡◌, ◌∙◌, ℕ, Bool, true, false, List, map, Option, refl, sym, ap}
use Rattle.std.specs.Prelude.{if◌then◌else◌}
use Rattle.std.specs.List.{enumerate_from}
use Rattle.std.proofs.lemmas.List.{map-id}
use Rattle.std.proofs.lemmas.Simd.{map-map}
use Rattle.gtfs_rows.specs.Rows.{StopRow, Trip}
use Rattle.gtfs_rows.specs.Runs.{is_timed}
use Rattle.gtfs_times.specs.Filling.{Placed, filled_row, filled_rows, time_at, timed_stop_rows, timed_trip}
use Rattle.gtfs_times.specs.declared.times.Times.{Times}
use Rattle.gtfs_times.specs.declared.times.Times.TheVariants as times
use Rattle.gtfs_times.proofs.FillingFacts.{enumerate-map, placed_by, time_at-same}
use Rattle.gtfs_merge.specs.Renaming.{Renaming, stop_row_with, trip_with}

module _ (stop : Renaming) where
  choose : (b : Bool) (r : StopRow) (s t : Option ℕ) → s ≡ t
      → (if b then stop_row_with stop r else record (stop_row_with stop r) { arrival_time = s; departure_time = s }) ≡ stop_row_with stop (if b then r else record r { arrival_time = t; departure_time = t })
  choose true r s t e = refl
  choose false r s t e = λ i. record (stop_row_with stop r) { arrival_time = e i; departure_time = e i }

  own : (rows : List StopRow) (m : ℕ) → time_at (map (stop_row_with stop) rows) m ≡ time_at (map (λ r. r) rows) m
  own rows m = time_at-same (stop_row_with stop) (λ r. r) (λ r. refl) (λ r. refl) rows m

  pub row-renamed : (rows : List StopRow) (x : Placed) → filled_row (map (stop_row_with stop) rows) (x.0, stop_row_with stop x.1) ≡ stop_row_with stop (filled_row rows x)
  row-renamed rows x = choose (is_timed x.1) x.1 (time_at (map (stop_row_with stop) rows) x.0) (time_at rows x.0) (own rows x.0 ∙ ap (λ xs. time_at xs x.0) (map-id rows))

  pub filled-renamed : (rows : List StopRow) → filled_rows (map (stop_row_with stop) rows) ≡ map (stop_row_with stop) (filled_rows rows)
  filled-renamed rows =
      let h = stop_row_with stop in
      let all = enumerate_from 0 rows in
      ap (map (filled_row (map h rows))) (enumerate-map h 0 rows)
      ∙ map-map (filled_row (map h rows)) (placed_by h) all
      ∙ (λ i. map (λ x. row-renamed rows x i) all)
      ∙ sym (map-map h (filled_row rows) all)

  pub rows-renamed : (choice : Times) (rows : List StopRow) → timed_stop_rows choice (map (stop_row_with stop) rows) ≡ map (stop_row_with stop) (timed_stop_rows choice rows)
  rows-renamed times.Given rows = refl
  rows-renamed times.Interpolated rows = filled-renamed rows

-- a renamed trip, filled, is the filled trip, renamed
pub trip-renamed : (choice : Times) (rename route service stop : Renaming) (t : Trip) → timed_trip choice (trip_with rename route service stop t) ≡ trip_with rename route service stop (timed_trip choice t)
trip-renamed choice rename route service stop t = λ i. record (trip_with rename route service stop t) { stop_rows = rows-renamed stop choice t.stop_rows i }
