-- The rows of a feed under a choice of times stand for its content under that choice.
use Rattle.std.proofs.Common.{◌≡◌, ◌∙◌, ℕ, Bool, true, false, List, [], ◌∷◌, map, length, Option, refl, sym, ap}
use Rattle.std.specs.Prelude.{is_some, if◌then◌else◌}
use Rattle.std.specs.List.{enumerate_from}
use Rattle.std.proofs.lemmas.List.{length-map}
use Rattle.std.proofs.lemmas.Simd.{map-map}
use Rattle.gtfs_table.specs.FieldOffsets.{parts}
use Rattle.std.proofs.lemmas.List.FromFn.{length-enumerate_from}
use Rattle.gtfs_rows.specs.NamedRows.{stop_row_named}
use Rattle.gtfs_rows.specs.Trips.{stop_rows_by_trip}
use Rattle.gtfs_stop_times.specs.RowTimes.{left_at}
use Rattle.gtfs_rows.specs.RowsInMemory.{IsSoundParts, content_of_parts, stop_row_of, trip_of, trips_of}
use Rattle.gtfs_rows.specs.declared.frequency.Frequency.{Frequency}
use Rattle.gtfs_rows.specs.declared.parts.Parts.{Parts}
use Rattle.gtfs_stop_times.specs.declared.stop_row.StopRow.{StopRow}
use Rattle.gtfs_rows.specs.declared.trip.Trip.{Trip}
use Rattle.gtfs_times.specs.Filling.{filled_row, filled_rows, timed, timed_stop_rows, timed_trip}
use Rattle.gtfs_times.specs.TimedRows.{filled_stop_time, filled_stop_times, timed_stop_times, timed_parts}
use Rattle.gtfs_times.specs.declared.times.Times.{Times}
use Rattle.gtfs_times.specs.declared.times.Times.TheVariants as times
use Rattle.gtfs_times.proofs.FillingFacts.{enumerate-map, placed_by, time_at-same}
use Rattle.gtfs_times.proofs.Stretches.{parts-changed}

module _ (p : Parts) where
  choose : (b : Bool) (r : StopRow) (s t : Option ℕ) → s ≡ t
      → stop_row_of p (if b then r else record r { arrival_time = s; departure_time = s }) ≡ (if b then stop_row_of p r else record (stop_row_of p r) { arrival_time = t; departure_time = t })
  choose true r s t e = refl
  choose false r s t e = λ i. record (stop_row_of p r) { arrival_time = e i; departure_time = e i }

  row-stands : (rows : List StopRow) (x : ℕ × StopRow) → stop_row_of p (filled_stop_time rows x) ≡ filled_row (map (stop_row_of p) rows) (x.0, stop_row_of p x.1)
  row-stands rows x = choose (is_some (left_at x.1)) x.1 _ _ (time_at-same (stop_row_named [] []) (stop_row_of p) (λ r. refl) (λ r. refl) rows x.0)

  filled-stand : (rows : List StopRow) → map (stop_row_of p) (filled_stop_times rows) ≡ filled_rows (map (stop_row_of p) rows)
  filled-stand rows =
      let all = enumerate_from 0 rows in
      map-map (stop_row_of p) (filled_stop_time rows) all
      ∙ (λ i. map (λ x. row-stands rows x i) all)
      ∙ sym (map-map (filled_row (map (stop_row_of p) rows)) (placed_by (stop_row_of p)) all)
      ∙ ap (map (filled_row (map (stop_row_of p) rows))) (sym (enumerate-map (stop_row_of p) 0 rows))

  pub rows-stand : (choice : Times) (rows : List StopRow) → map (stop_row_of p) (timed_stop_times choice rows) ≡ timed_stop_rows choice (map (stop_row_of p) rows)
  rows-stand times.Given rows = refl
  rows-stand times.Interpolated rows = filled-stand rows

  trips-stand : (choice : Times) (ts : List Trip) (rs : List (List StopRow)) (fs : List (List Frequency))
      → trips_of p ts (map (timed_stop_times choice) rs) fs ≡ map (timed_trip choice) (trips_of p ts rs fs)
  trips-stand choice [] rs fs = refl
  trips-stand choice (t ∷ ts) [] fs = refl
  trips-stand choice (t ∷ ts) (r ∷ rs) [] = refl
  trips-stand choice (t ∷ ts) (r ∷ rs) (f ∷ fs) = λ i. record (trip_of p t r f) { stop_rows = rows-stand choice r i } ∷ trips-stand choice ts rs fs i

pub timed-length : (choice : Times) (rows : List StopRow) → length (timed_stop_times choice rows) ≡ length rows
timed-length times.Given rows = refl
timed-length times.Interpolated rows = length-map (enumerate_from 0 rows) (filled_stop_time rows) ∙ length-enumerate_from 0 rows

module _ (choice : Times) (p : Parts) (sound : IsSoundParts p) where
  -- the rows of each trip
  pub by_trip : stop_rows_by_trip (timed_parts choice p) ≡ map (timed_stop_times choice) (stop_rows_by_trip p)
  by_trip = parts-changed (timed_stop_times choice) (timed-length choice) 0 p.stop_times.starts p.stop_times.rows [] sound.stop_rows.1 (sym sound.stop_rows.2)

  pub content-timed : content_of_parts (timed_parts choice p) ≡ timed choice (content_of_parts p)
  content-timed =
      let c = content_of_parts p in
      λ i. record c { trips = (ap (λ rs. trips_of p p.trips rs (parts p.frequency_starts p.frequencies)) by_trip ∙ trips-stand p choice p.trips (stop_rows_by_trip p) (parts p.frequency_starts p.frequencies)) i }
