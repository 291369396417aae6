-- The items of a loop, and the trips of a content with what they hold.
use Rattle.std.proofs.Common.{◌≡◌, ◌∙◌, ap, sym, ℕ, suc, ◌+◌, ◌<◌, ◌≤◌, ◌++◌, ◌∷◌, List, [], Bool, true, Some, get_or, drop, map, length, drop-cons, add-one, arith}
use Rattle.std.specs.List.{list_all, slice_get}
use Rattle.std.proofs.lemmas.List.{drop_all}
use Rattle.std.proofs.lemmas.Option.{get_or_from_slice_get}
use Rattle.gtfs_table.specs.FieldOffsets.{parts}
use Rattle.gtfs_table.proofs.PartFacts.{length-parts}
use Rattle.gtfs_rows.specs.declared.frequency.Frequency.{Frequency}
use Rattle.gtfs_rows.specs.declared.parts.Parts.{Parts}
use Rattle.gtfs_stop_times.specs.declared.stop_row.StopRow.{StopRow}
use Rattle.gtfs_rows.specs.declared.trip.Trip.{Trip}
use Rattle.gtfs_rows.specs.Cells.{Cell}
use Rattle.gtfs_rows.specs.RowCells.{held_by}
use Rattle.gtfs_rows.specs.Rows.{Trip as TripWithRows}
use Rattle.gtfs_rows.specs.RowsInMemory.{IsSoundParts, trip_of, trips_of}
use Rattle.gtfs_rows.proofs.RowTexts.{all_at}
use Rattle.gtfs_writing.specs.TakenRecords.{Taking, with_rows}
use Rattle.gtfs_writing.proofs.Taken.{mapped-append, step}

-- what holds of each item of a list
pub item_passes : {X : Type 0} (q : X → Bool) (all xs : List X) (i : ℕ) (x : X) → xs ≡ all → list_all q all ≡ true → i < length xs → x ≡ get_or xs i x → q x ≡ true
item_passes q all xs i x same each within is = ap q is ∙ all_at q xs i x (ap (list_all q) same ∙ each) within

-- ---- trips

abbrev pub stop_rows_by_trip : Parts → List (List StopRow)
stop_rows_by_trip p = parts p.stop_times.starts p.stop_times.rows

abbrev pub frequencies_by_trip : Parts → List (List Frequency)
frequencies_by_trip p = parts p.frequency_starts p.frequencies

-- the trips from this number on
abbrev pub trips_left : Parts → ℕ → List TripWithRows
trips_left p i = trips_of p (drop i p.trips) (drop i (stop_rows_by_trip p)) (drop i (frequencies_by_trip p))

trips-at : (p : Parts) (ts : List Trip) (rs : List (List StopRow)) (fs : List (List Frequency)) (i : ℕ) (t : Trip) → i < length ts → i < length rs → i < length fs
    → trips_of p (drop i ts) (drop i rs) (drop i fs)
    ≡ trip_of p (get_or ts i t) (get_or rs i []) (get_or fs i []) ∷ trips_of p (drop (suc i) ts) (drop (suc i) rs) (drop (suc i) fs)
trips-at p ts rs fs i t a b e =
    ap (λ xs. trips_of p xs (drop i rs) (drop i fs)) (drop-cons ts i t a)
    ∙ ap (λ xs. trips_of p (get_or ts i t ∷ drop (suc i) ts) xs (drop i fs)) (drop-cons rs i [] b)
    ∙ ap (λ xs. trips_of p (get_or ts i t ∷ drop (suc i) ts) (get_or rs i [] ∷ drop (suc i) rs) xs) (drop-cons fs i [] e)

module _ (p : Parts) (sound : IsSoundParts p) (ts : List Trip) (same : ts ≡ p.trips) (i : ℕ) where
  pub left-at : (d : Trip) → i < length ts
      → trips_left p i ≡ trip_of p (get_or ts i d) (get_or (stop_rows_by_trip p) i []) (get_or (frequencies_by_trip p) i []) ∷ trips_left p (suc i)
  left-at d within =
      let inside : i < length p.trips = omega (arith, within, ap length same) in
      let rows : i < length (stop_rows_by_trip p) = omega (arith, inside, length-parts p.stop_times.starts p.stop_times.rows, sound.stop_rows.0) in
      let periods : i < length (frequencies_by_trip p) = omega (arith, inside, length-parts p.frequency_starts p.frequencies, sound.frequencies.0) in
      trips-at p p.trips (stop_rows_by_trip p) (frequencies_by_trip p) i d inside rows periods
      ∙ ap (λ u. trip_of p u (get_or (stop_rows_by_trip p) i []) (get_or (frequencies_by_trip p) i []) ∷ trips_left p (suc i))
      (sym (ap (λ us. get_or us i d) same))

  pub left-cons : (t : Trip) → i < length ts → t ≡ get_or ts i t
      → trips_left p i ≡ trip_of p t (get_or (stop_rows_by_trip p) i []) (get_or (frequencies_by_trip p) i []) ∷ trips_left p (suc i)
  left-cons t within is =
      left-at t within ∙ ap (λ u. trip_of p u (get_or (stop_rows_by_trip p) i []) (get_or (frequencies_by_trip p) i []) ∷ trips_left p (suc i)) (sym is)

  pub left-none : length ts ≤ i → trips_left p i ≡ []
  left-none past =
      ap (λ us. trips_of p us (drop i (stop_rows_by_trip p)) (drop i (frequencies_by_trip p))) (drop_all i p.trips (omega (arith, past, ap length same)))

  -- after the rows that the trip at i holds
  pub after_trip : {S Y : Type 0} (t : Taking S) (text : List Cell → List (List ℕ)) (cells : List ℕ × Y → List Cell) (of : TripWithRows → List Y) (d : Trip)
      → i < length ts → (id : List ℕ) → id ≡ (get_or ts i d).trip_id → (own : List Y)
      → own ≡ of (trip_of p (get_or ts i d) (get_or (stop_rows_by_trip p) i []) (get_or (frequencies_by_trip p) i [])) → (s s' end : S)
      → with_rows t s (map text (map cells (held_by (λ u. u.trip_id) of (trips_left p i)))) ≡ end
      → s' ≡ with_rows t s (map text (map cells (map (λ y. (id, y)) own)))
      → with_rows t s' (map text (map cells (held_by (λ u. u.trip_id) of (trips_left p (i + 1))))) ≡ end
  after_trip t text cells of d within id named own held s s' end before taken =
      let rows : List TripWithRows → List (List (List ℕ)) = λ us. map text (map cells (held_by (λ u. u.trip_id) of us)) in
      let trip = get_or ts i d in
      let full = trip_of p trip (get_or (stop_rows_by_trip p) i []) (get_or (frequencies_by_trip p) i []) in
      let split : rows (trips_left p i) ≡ map text (map cells (map (λ y. (id, y)) own)) ++ rows (trips_left p (suc i)) =
      ap rows (left-at d within)
      ∙ mapped-append text cells (map (λ y. (trip.trip_id, y)) (of full)) (held_by (λ u. u.trip_id) of (trips_left p (suc i)))
      ∙ ap (λ ys. map text (map cells (map (λ y. (trip.trip_id, y)) ys)) ++ rows (trips_left p (suc i))) (sym held)
      ∙ ap (λ n. map text (map cells (map (λ y. (n, y)) own)) ++ rows (trips_left p (suc i))) (sym named) in
      ap (λ n. with_rows t s' (rows (trips_left p n))) (add-one i) ∙ step t _ _ (rows (trips_left p (suc i))) split s s' end before taken

-- ---- stretches

-- a stretch, by the lists that are cut
pub stretch_is : {X : Type 0} (starts starts' : List ℕ) (xs xs' : List X) (i : ℕ) (part : List X) → starts ≡ starts' → xs ≡ xs' → slice_get (parts starts xs) i ≡ Some part
    → part ≡ get_or (parts starts' xs') i []
stretch_is starts starts' xs xs' i part a b at =
    sym (get_or_from_slice_get (parts starts xs) i part [] at) ∙ ap (λ ss. get_or (parts ss xs) i []) a ∙ ap (λ ys. get_or (parts starts' ys) i []) b
