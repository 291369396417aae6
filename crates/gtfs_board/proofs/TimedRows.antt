-- The stop times of a feed under a choice of times: what lemmas of any feed ask of them.
use Rattle.std.proofs.Common.{◌≡◌, ◌∙◌, ℕ, zero, suc, List, [], ◌∷◌, map, length, Some, refl, sym, ap, unwrap_or}
use Rattle.std.specs.List.{slice_get}
use Rattle.std.proofs.lemmas.List.{map-id}
use Rattle.gtfs_field.proofs.ListFacts.{mapped_at}
use Rattle.gtfs_rows.proofs.TripFacts.{stop_times}
use Rattle.gtfs_rows.specs.Content.{Content}
use Rattle.gtfs_rows.specs.Trips.{stop_rows_by_trip}
use Rattle.gtfs_rows.specs.RowsInMemory.{IsSoundParts}
use Rattle.gtfs_rows.specs.declared.parts.Parts.{Parts}
use Rattle.gtfs_stop_times.specs.declared.stop_row.StopRow.{StopRow}
use Rattle.gtfs_runs.specs.Patterns.{rows_of_number}
use Rattle.gtfs_runs.proofs.RowEvents.{leaves_later}
use Rattle.gtfs_times.specs.Filling.{timed}
use Rattle.gtfs_times.specs.TimedRows.{timed_parts, timed_stop_times}
use Rattle.gtfs_times.specs.declared.times.Times.{Times}
use Rattle.gtfs_times.specs.declared.times.Times.TheVariants as times
use Rattle.gtfs_times.proofs.FilledContent.{sound-timed}
use Rattle.gtfs_times.proofs.TimedContent.{by_trip, timed-length}
use Rattle.gtfs_board.specs.TimetableColumns.{KeepTimes}
use Rattle.gtfs_board.proofs.SheetColumns.{late-rows}

-- with its times as given a content is as it is
pub content-given : (f : Content) → timed times.Given f ≡ f
content-given f = λ i. record f { trips = map-id f.trips i }

at-map : {X Y : Type 0} (g : List X → List Y) (empty : g [] ≡ []) (xs : List (List X)) (n : ℕ) → unwrap_or (slice_get (map g xs) n) [] ≡ g (unwrap_or (slice_get xs n) [])
at-map g empty [] n = sym empty
at-map g empty (x ∷ xs) zero = refl
at-map g empty (x ∷ xs) (suc n) = at-map g empty xs n

none-timed : (choice : Times) → timed_stop_times choice [] ≡ []
none-timed times.Given = refl
none-timed times.Interpolated = refl

module _ (choice : Times) (p : Parts) (sound : IsSoundParts p) where
  pub rows-timed : (n : ℕ) → rows_of_number (timed_parts choice p) n ≡ timed_stop_times choice (rows_of_number p n)
  rows-timed n = ap (λ ps. unwrap_or (slice_get ps n) []) (by_trip choice p sound) ∙ at-map (timed_stop_times choice) (none-timed choice) (stop_rows_by_trip p) n

  pub as-many : (n : ℕ) → length (rows_of_number (timed_parts choice p) n) ≡ length (rows_of_number p n)
  as-many n = ap length (rows-timed n) ∙ timed-length choice (rows_of_number p n)

  pub rows-there : (n : ℕ) (rs : List StopRow) → slice_get (stop_rows_by_trip p) n ≡ Some rs → slice_get (stop_rows_by_trip (timed_parts choice p)) n ≡ Some (timed_stop_times choice rs)
  rows-there n rs at = ap (λ ps. slice_get ps n) (by_trip choice p sound) ∙ mapped_at (timed_stop_times choice) (stop_rows_by_trip p) n rs at

  pub keep-times : (n : ℕ) (rs : List StopRow) → slice_get (stop_rows_by_trip p) n ≡ Some rs → KeepTimes (timed_stop_times choice rs)
  keep-times n rs at =
      let q = timed_parts choice p in
      let there = rows-there n rs at in
      let kept = sound-timed p sound choice in
      record {
        late = λ k d within. late-rows q kept n (timed_stop_times choice rs) there k d within;
        later = λ k d within has. leaves_later q (timed_stop_times choice rs) (stop_times q kept n (timed_stop_times choice rs) there) k d within has;
      }
