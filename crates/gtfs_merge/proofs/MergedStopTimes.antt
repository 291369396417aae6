-- The stop times and the frequencies of a merged trip are those of its side's trip.
use Rattle.std.proofs.Common.{◌≡◌, ◌<◌, ◌∙◌, ◌++◌, ℕ, List, [], ◌∷◌, true, Option, Some, None, length, map, get_or, refl, sym, ap, arith}
use Rattle.std.specs.Prelude.{IfSome, option_map}
use Rattle.std.specs.List.{All, flat_map, list_all, slice_get}
use Rattle.std.proofs.lemmas.Bool.{and_from, and_parts, lt-ltb}
use Rattle.std.proofs.lemmas.List.{length-map}
use Rattle.std.proofs.lemmas.List.Elements.{All-head, All-tail}
use Rattle.std.proofs.lemmas.Option.{slice_get-get_or}
use Rattle.gtfs_field.proofs.ListFacts.{some_of}
use Rattle.gtfs_rows.specs.Trips.{frequencies_by_trip, stop_rows_by_trip}
use Rattle.gtfs_rows.proofs.TripFacts.{stop_times}
use Rattle.gtfs_rows.proofs.TripsAt.{content_trip}
use Rattle.gtfs_rows.specs.Rows.{StopRow, Trip}
use Rattle.gtfs_rows.specs.RowsInMemory.{IsSoundParts, content_of_parts, frequency_of, is_number_within, stop_ids, stop_row_of, trip_of}
use Rattle.gtfs_rows.specs.declared.parts.Parts.{Parts}
use Rattle.gtfs_stop_times.specs.declared.stop_row.StopRow.{StopRow as RowByNumber}
use Rattle.gtfs_rows.specs.declared.trip.Trip.{Trip as TripByNumber}
use Rattle.gtfs_rows.specs.NamedRows.{has_numbers_below, stop_row_named}
use Rattle.gtfs_table.proofs.PartFacts.{length-parts}
use Rattle.gtfs_merge.specs.MergeEntries.{Entry}
use Rattle.gtfs_merge.specs.EntryRows.{trip_from, trip_under}
use Rattle.gtfs_merge.specs.FeedIds.{known_ids}
use Rattle.gtfs_merge.specs.Headsigns.{AreHeadsigns, AreNumbersOf, HeadsignTable}
use Rattle.gtfs_merge.specs.KindEntries.{AllEntries, AreMergedKinds}
use Rattle.gtfs_merge.specs.NewNumbers.{AreNewNumbers}
use Rattle.gtfs_merge.specs.Renaming.{Renaming, stop_row_with}
use Rattle.gtfs_merge.specs.MergedSides.{merged_ids, merged_parts, side_names, side_parts}
use Rattle.gtfs_stop_times.specs.RenumberedRows.{renumbered_row}
use Rattle.gtfs_merge.specs.TripRows.{frequencies_from, stop_rows_from}
use Rattle.gtfs_merge.specs.declared.kind.Kind.TheVariants as kind
use Rattle.gtfs_merge.specs.declared.sides.Sides.{Sides}
use Rattle.gtfs_merge.proofs.ReferenceNumbers.{headsign-named, headsign-within, number-named, number-within}
use Rattle.gtfs_merge.proofs.MergedLists.{side-sound}

within-told : (count : ℕ) (o : Option ℕ) → IfSome o (λ n. n < count) → is_number_within count o ≡ true
within-told count None within = refl
within-told count (Some n) within = lt-ltb n count within

-- ---- stop times of one side

module _ (p : Parts) (merged : List (List ℕ)) (rename : Renaming) (stops : List ℕ) (are_stops : AreNewNumbers merged rename (stop_ids p) stops)
    (texts : List (List ℕ)) (headsigns : List (Option ℕ)) (are_headsigns : AreNumbersOf texts p.headsigns headsigns) where
  abbrev named : RowByNumber → StopRow
  named = stop_row_named merged texts

  row-named : (r : RowByNumber) → r.stop_id.0 < length (stop_ids p) → IfSome r.stop_headsign (λ n. n < length p.headsigns)
      → named (renumbered_row stops headsigns r) ≡ stop_row_with rename (stop_row_of p r)
  row-named r stop headsign = λ i. record (stop_row_of p r) {
    stop_id = number-named merged rename (stop_ids p) stops are_stops r.stop_id.0 stop i;
    stop_headsign = headsign-named texts p.headsigns headsigns are_headsigns r.stop_headsign headsign i;
  }

  row-within : (r : RowByNumber) → r.stop_id.0 < length (stop_ids p) → IfSome r.stop_headsign (λ n. n < length p.headsigns)
      → has_numbers_below (length merged) (length texts) (renumbered_row stops headsigns r) ≡ true
  row-within r stop headsign =
      and_from _ _ (lt-ltb _ (length merged) (number-within merged rename (stop_ids p) stops are_stops r.stop_id.0 stop))
      (within-told (length texts) _ (headsign-within texts p.headsigns headsigns are_headsigns r.stop_headsign headsign))

  pub rows-named : (rs : List RowByNumber) → All (λ r. r.stop_id.0 < length (stop_ids p)) rs → All (λ r. IfSome r.stop_headsign (λ n. n < length p.headsigns)) rs
      → map named (map (renumbered_row stops headsigns) rs) ≡ map (stop_row_with rename) (map (stop_row_of p) rs)
  rows-named [] stop headsign = refl
  rows-named (r ∷ rs) stop headsign = λ i.
      row-named r (All-head (λ r. r.stop_id.0 < length (stop_ids p)) r rs stop) (All-head (λ r. IfSome r.stop_headsign (λ n. n < length p.headsigns)) r rs headsign) i
      ∷ rows-named rs (All-tail (λ r. r.stop_id.0 < length (stop_ids p)) r rs stop) (All-tail (λ r. IfSome r.stop_headsign (λ n. n < length p.headsigns)) r rs headsign) i

  pub rows-within : (rs : List RowByNumber) → All (λ r. r.stop_id.0 < length (stop_ids p)) rs → All (λ r. IfSome r.stop_headsign (λ n. n < length p.headsigns)) rs
      → list_all (has_numbers_below (length merged) (length texts)) (map (renumbered_row stops headsigns) rs) ≡ true
  rows-within [] stop headsign = refl
  rows-within (r ∷ rs) stop headsign =
      and_from _ _ (row-within r (All-head (λ r. r.stop_id.0 < length (stop_ids p)) r rs stop) (All-head (λ r. IfSome r.stop_headsign (λ n. n < length p.headsigns)) r rs headsign))
      (rows-within rs (All-tail (λ r. r.stop_id.0 < length (stop_ids p)) r rs stop) (All-tail (λ r. IfSome r.stop_headsign (λ n. n < length p.headsigns)) r rs headsign))

-- ---- the trip of a number

record HasTrip (p : Parts) (n : ℕ) : Type 0 where
  pub row : TripByNumber
  pub rows : slice_get (stop_rows_by_trip p) n ≡ Some (get_or (stop_rows_by_trip p) n [])
  pub periods : slice_get (frequencies_by_trip p) n ≡ Some (get_or (frequencies_by_trip p) n [])
  pub there : slice_get (content_of_parts p).trips n ≡ Some (trip_of p row (get_or (stop_rows_by_trip p) n []) (get_or (frequencies_by_trip p) n []))

has-trip : (p : Parts) → IsSoundParts p → (n : ℕ) → n < length p.trips → HasTrip p n
has-trip p sound n within =
    let some = some_of p.trips n within in
    let rows = slice_get-get_or (stop_rows_by_trip p) n [] (omega (arith, length-parts p.stop_times.starts p.stop_times.rows, sound.stop_rows.0)) in
    let periods = slice_get-get_or (frequencies_by_trip p) n [] (omega (arith, length-parts p.frequency_starts p.frequencies, sound.frequencies.0)) in
    record {
      row = get_or p.trips n some;
      rows = rows;
      periods = periods;
      there = content_trip p n (get_or p.trips n some) (get_or (stop_rows_by_trip p) n []) (get_or (frequencies_by_trip p) n []) (slice_get-get_or p.trips n some within) rows periods;
    }

-- ---- both sides

module _ (sides : Sides) (sound_a : IsSoundParts sides.a.now) (sound_b : IsSoundParts sides.b.now) (k : AllEntries) (are : AreMergedKinds sides k) (hs : HeadsignTable) (are_h : AreHeadsigns sides hs) where
  abbrev named_rows : List RowByNumber → List StopRow
  named_rows = map (stop_row_named (merged_ids kind.Stop sides) hs.texts)

  abbrev rows_at : Entry → List RowByNumber
  rows_at = stop_rows_from sides k.stops.numbers hs

  abbrev IsThere : Entry → Type 0
  IsThere e = e.number < length (known_ids kind.Trip (side_parts e.side sides))

  -- the trip of an entry has these stop times and these frequencies
  record IsMergedTrip (e : Entry) (u : Trip) : Type 0 where
    pub rows : named_rows (rows_at e) ≡ u.stop_rows
    pub periods : map frequency_of (frequencies_from sides e) ≡ u.frequencies
    pub within : list_all (has_numbers_below (length (merged_ids kind.Stop sides)) (length hs.texts)) (rows_at e) ≡ true

  merged-trip : (e : Entry) (u : Trip) → IsThere e → Some u ≡ trip_from sides e → IsMergedTrip e u
  merged-trip e u there from =
      let side = side_parts e.side sides in
      let sound = side-sound e.side sides sound_a sound_b in
      let own = has-trip side sound e.number (omega (arith, there, length-map side.trips (λ t. t.trip_id))) in
      let rs = get_or (stop_rows_by_trip side) e.number [] in
      let stand = stop_times side sound e.number rs own.rows in
      let is : u ≡ trip_under (side_names e.side sides) (trip_of side own.row rs (get_or (frequencies_by_trip side) e.number [])) = cc (from ∙ ap (option_map (trip_under (side_names e.side sides))) own.there) in
      let stops : All (λ r. r.stop_id.0 < length (stop_ids side)) rs = λ i d h. let below = stand.stops i d h in omega (arith, below, length-map side.stops (λ s. s.stop_id)) in
      record {
        rows = rows-named side (merged_ids kind.Stop sides) _ _ ((are kind.Stop).numbers e.side) hs.texts _ (are_h.numbers e.side) rs stops stand.headsigns ∙ sym (ap (λ t. t.stop_rows) is);
        periods = sym (ap (λ t. t.frequencies) is);
        within = rows-within side (merged_ids kind.Stop sides) _ _ ((are kind.Stop).numbers e.side) hs.texts _ (are_h.numbers e.side) rs stops stand.headsigns;
      }

  trips-rows : (es : List Entry) (us : List Trip) → All IsThere es → map Some us ≡ map (trip_from sides) es → map named_rows (map rows_at es) ≡ map (λ u. u.stop_rows) us
  trips-rows [] [] there from = refl
  trips-rows [] (u ∷ us) there from = cc from
  trips-rows (e ∷ es) [] there from = cc from
  trips-rows (e ∷ es) (u ∷ us) there from = λ i. (merged-trip e u (All-head IsThere e es there) (cc from)).rows i ∷ trips-rows es us (All-tail IsThere e es there) (cc from) i

  trips-periods : (es : List Entry) (us : List Trip) → All IsThere es → map Some us ≡ map (trip_from sides) es → map (map frequency_of) (map (frequencies_from sides) es) ≡ map (λ u. u.frequencies) us
  trips-periods [] [] there from = refl
  trips-periods [] (u ∷ us) there from = cc from
  trips-periods (e ∷ es) [] there from = cc from
  trips-periods (e ∷ es) (u ∷ us) there from = λ i. (merged-trip e u (All-head IsThere e es there) (cc from)).periods i ∷ trips-periods es us (All-tail IsThere e es there) (cc from) i

  trips-within : (es : List Entry) (us : List Trip) → All IsThere es → map Some us ≡ map (trip_from sides) es
      → list_all (has_numbers_below (length (merged_ids kind.Stop sides)) (length hs.texts)) (flat_map (λ xs. xs) (map rows_at es)) ≡ true
  trips-within [] us there from = refl
  trips-within (e ∷ es) [] there from = cc from
  trips-within (e ∷ es) (u ∷ us) there from = all-both (rows_at e) (flat_map (λ xs. xs) (map rows_at es)) (merged-trip e u (All-head IsThere e es there) (cc from)).within (trips-within es us (All-tail IsThere e es there) (cc from))
    where
      all-both : (xs ys : List RowByNumber) → list_all (has_numbers_below (length (merged_ids kind.Stop sides)) (length hs.texts)) xs ≡ true → list_all (has_numbers_below (length (merged_ids kind.Stop sides)) (length hs.texts)) ys ≡ true
          → list_all (has_numbers_below (length (merged_ids kind.Stop sides)) (length hs.texts)) (xs ++ ys) ≡ true
      all-both [] ys g h = h
      all-both (x ∷ xs) ys g h = let both = and_parts (has_numbers_below (length (merged_ids kind.Stop sides)) (length hs.texts) x) (list_all (has_numbers_below (length (merged_ids kind.Stop sides)) (length hs.texts)) xs) g in and_from _ _ both.0 (all-both xs ys both.1 h)

  -- ---- what the merged feed cites

  pub merged-rows : map named_rows (map rows_at k.trips.rows) ≡ map (λ u. u.stop_rows) (merged_parts sides).trips
  merged-rows = trips-rows k.trips.rows (merged_parts sides).trips (are kind.Trip).rows.within (are kind.Trip).rows.rows

  pub merged-periods : map (map frequency_of) (map (frequencies_from sides) k.trips.rows) ≡ map (λ u. u.frequencies) (merged_parts sides).trips
  merged-periods = trips-periods k.trips.rows (merged_parts sides).trips (are kind.Trip).rows.within (are kind.Trip).rows.rows

  pub merged-within : list_all (has_numbers_below (length (merged_ids kind.Stop sides)) (length hs.texts)) (flat_map (λ xs. xs) (map rows_at k.trips.rows)) ≡ true
  merged-within = trips-within k.trips.rows (merged_parts sides).trips (are kind.Trip).rows.within (are kind.Trip).rows.rows
