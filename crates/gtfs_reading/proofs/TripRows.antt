-- The stop times of a dataset that passes are the rows of its trips.
use Rattle.std.proofs.Common.{◌≡◌, ◌<◌, ◌∙◌, [], ℕ, List, length, map, get_or, Bool, true, codes, Some, sym, ap, subst, arith}
use Rattle.std.specs.Prelude.{◌==◌, option_map, pos, unsigned_abs, unwrap_or}
use Rattle.std.specs.Cmp.{tied_itself}
use Rattle.std.specs.FinMap.{nat_cmp-IsAntisymmetric}
use Rattle.std.specs.List.{AllPairs, Contains, slice_get}
use Rattle.std.specs.Ordering.{nat_cmp, ordering_then}
use Rattle.std.specs.declared.cmp.Ordering.{Ordering}
use Rattle.std.specs.declared.cmp.Ordering.TheVariants.{Less, Equal}
use Rattle.std.proofs.lemmas.Bool.Decides.{nat_tests}
use Rattle.std.proofs.lemmas.Cmp.{nat_cmp_total}
use Rattle.std.proofs.lemmas.List.{ext_get_or, get_or-map, length-map}
use Rattle.std.proofs.lemmas.List.Elements.{All-contains, Contains-get_or, filter_passes}
use Rattle.std.proofs.lemmas.List.Kept.{AllPairs-filter}
use Rattle.std.proofs.lemmas.List.Sorted.{Contains-permutation, IsPermutation-sym}
use Rattle.std.proofs.lemmas.Map.Keys.{Less-from_sorted}
use Rattle.std.proofs.lemmas.Option.{slice_get-get_or, slice_get-map, slice_get_within}
use Rattle.std.proofs.lemmas.Bool.{eqb-true as same_number}
use Rattle.std.proofs.lemmas.Simd.{map-map as map-twice}
use Rattle.gtfs_table.specs.Rows.{rows}
use Rattle.gtfs_table.specs.Tables.{Dataset}
use Rattle.gtfs_table.specs.declared.file.File.TheVariants as file
use Rattle.gtfs_schema.specs.IdNumbers.{ids_by_bytes}
use Rattle.gtfs_schema.specs.Problems.{Passes}
use Rattle.gtfs_schema.specs.RowConditions.{text_in, word_in}
use Rattle.gtfs_schema.specs.FieldValues.{is_word}
use Rattle.gtfs_schema.proofs.SiteFacts.{text_itself}
use Rattle.gtfs_schema.proofs.ValueFacts.{is_word_some as word-is}
use Rattle.gtfs_stop_times.specs.declared.stop_time.StopTime.{StopTime}
use Rattle.gtfs_rules.specs.StopTimes.{AreStopTimes, SaysStopTime, stop_time_cmp}
use Rattle.gtfs_rules.proofs.PassedRows.{trip_is}
use Rattle.gtfs_rows.specs.TransferOrder.{by_key}
use Rattle.gtfs_rows.specs.ContentRead.{content_of, number_at, rows_of, stop_row_in, trip_in}
use Rattle.gtfs_rows.specs.Rows.{StopRow}
use Rattle.gtfs_rows.proofs.ByKey.{by_key_map}
use Rattle.gtfs_rows.proofs.SameElements.{contains-filter, contains-from_filter, contains-from_map, contains-map, pairs-map}
use Rattle.gtfs_reading.specs.GatheredStopTimes.{by_trip, of_trip}
use Rattle.gtfs_reading.proofs.ContentIds.{count_trips, ids_are, numbered_rows, one_number, rows_are, trip_id_at, trips_are}
use Rattle.gtfs_reading.proofs.Starts.{by_trip-at, length-by_trip}

-- of two stop times of a trip the first has the lower sequence
lower : (a b : ℕ) (r : Ordering) → a ≡ b → ordering_then (nat_cmp a b) r ≡ Less → r ≡ Less
lower a b r same less =
    let tie : nat_cmp a b ≡ Equal = ap (nat_cmp a) (sym same) ∙ tied_itself nat_cmp_total a in
    sym (ap (λ o. ordering_then o r) tie) ∙ less

abbrev row_of : StopTime → ℕ
row_of s = s.row

module _ (d : Dataset) (ss : List StopTime) (are : AreStopTimes d ss) where
  abbrev trip_ids : List (List ℕ)
  trip_ids = ids_by_bytes d file.Trips (codes "trip_id")

  abbrev names_trip : List ℕ → ℕ → Bool
  names_trip t n = is_word (word_in d file.StopTimes n "trip_id") t

  pub said : (s : StopTime) → Contains ss s → SaysStopTime d s
  said s at = All-contains (SaysStopTime d) ss s are.say at

  sequence_is : (s : StopTime) → SaysStopTime d s → number_at d file.StopTimes s.row "stop_sequence" ≡ s.stop_row.stop_sequence
  sequence_is s says = ap (λ o. unsigned_abs (unwrap_or o (pos 0))) (sym says.stop_sequence)

  module _ (k : ℕ) (t : List ℕ) (here : slice_get trip_ids k ≡ Some t) where
    abbrev own : List StopTime
    own = of_trip k ss

    abbrev is_own : StopTime → Bool
    is_own s = s.trip == k

    there : (n : ℕ) → Contains (rows_of d file.StopTimes t) n → Contains (map row_of own) n
    there n at =
        let from = contains-from_filter (names_trip t) (rows d file.StopTimes) n at in
        let found = contains-from_map row_of ss n (Contains-permutation (rows d file.StopTimes) (map row_of ss) n are.each_row from.0) in
        let s : StopTime = found.0 in
        let named : word_in d file.StopTimes s.row "trip_id" ≡ Some t = word-is (word_in d file.StopTimes s.row "trip_id") t (ap (names_trip t) found.1.1 ∙ from.1) in
        let same : s.trip ≡ k = one_number d file.Trips (codes "trip_id") s.trip k t ((said s found.1.0).trip ∙ named) here in
        let test : (s.trip == k) ≡ true = grind (arith, nat_tests, same) in
        subst (Contains (map row_of own)) found.1.1 (contains-map row_of own s (contains-filter is_own ss s test found.1.0))

    back : (n : ℕ) → Contains (map row_of own) n → Contains (rows_of d file.StopTimes t) n
    back n at =
        let found = contains-from_map row_of own n at in
        let s : StopTime = found.0 in
        let from = contains-from_filter is_own ss s found.1.0 in
        let named : word_in d file.StopTimes s.row "trip_id" ≡ Some t =
        sym (said s from.0).trip ∙ ap (slice_get trip_ids) (same_number s.trip k from.1) ∙ here in
        let listed = Contains-permutation (map row_of ss) (rows d file.StopTimes) s.row (IsPermutation-sym (rows d file.StopTimes) (map row_of ss) are.each_row) (contains-map row_of ss s from.0) in
        subst (Contains (rows_of d file.StopTimes t)) found.1.1
        (contains-filter (names_trip t) (rows d file.StopTimes) s.row (ap (λ o. is_word o t) named ∙ text_itself t) listed)

    abbrev Lower : ℕ → ℕ → Type 0
    Lower m n = nat_cmp (stop_row_in d m).stop_sequence (stop_row_in d n).stop_sequence ≡ Less

    in_order : AllPairs (λ r s. stop_time_cmp r s ≡ Less) own
    in_order = AllPairs-filter (λ r s. stop_time_cmp r s ≡ Less) is_own ss (λ i j d below within. Less-from_sorted stop_time_cmp ss i j d are.ascending below within)

    lower_rows : AllPairs (λ r s. Lower r.row s.row) own
    lower_rows i j e below within =
        let first : i < length own = omega arith in
        let r : StopTime = get_or own i e in
        let s : StopTime = get_or own j e in
        let of_r = said r (contains-from_filter is_own ss r (Contains-get_or own i e first)).0 in
        let of_s = said s (contains-from_filter is_own ss s (Contains-get_or own j e within)).0 in
        let same : r.trip ≡ s.trip = same_number r.trip k (filter_passes is_own ss i e first) ∙ sym (same_number s.trip k (filter_passes is_own ss j e within)) in
        let less = lower r.trip s.trip (nat_cmp r.stop_row.stop_sequence s.stop_row.stop_sequence) same (in_order i j e below within) in
        ap (λ a. nat_cmp a (stop_row_in d s.row).stop_sequence) (sequence_is r of_r) ∙ ap (nat_cmp r.stop_row.stop_sequence) (sequence_is s of_s) ∙ less

    -- the rows of a trip
    rows_at : by_key nat_cmp (λ r. r.stop_sequence) (map (stop_row_in d) (rows_of d file.StopTimes t)) ≡ map (λ s. stop_row_in d s.row) own
    rows_at =
        by_key_map nat_cmp nat_cmp_total nat_cmp-IsAntisymmetric (λ r. r.stop_sequence) (stop_row_in d) (rows_of d file.StopTimes t) (map row_of own)
        (record { there = there; back = back }) (pairs-map row_of Lower own lower_rows)
        ∙ map-twice (stop_row_in d) row_of own

  module _ (passes : Passes d) where
    abbrev trip_rows : List ℕ
    trip_rows = numbered_rows d file.Trips (codes "trip_id")

    -- its number is one of a trip
    pub trip_below : (s : StopTime) → SaysStopTime d s → s.trip < length (content_of d).trips
    trip_below s says =
        let named : word_in d file.StopTimes s.row "trip_id" ≡ Some (text_in d file.StopTimes s.row (codes "trip_id")) = trip_is d passes s.row says.row in
        let within = slice_get_within trip_ids s.trip (text_in d file.StopTimes s.row (codes "trip_id")) (says.trip ∙ named) in
        omega (arith, within, count_trips d passes)

    abbrev rows_by_number : List StopTime → List StopRow
    rows_by_number rs = map (λ s. stop_row_in d s.row) rs

    of_row : (k : ℕ) → k < length trip_rows → (trip_in d (get_or trip_rows k 0)).stop_rows ≡ rows_by_number (of_trip k ss)
    of_row k within =
        let n = get_or trip_rows k 0 in
        let t = text_in d file.Trips n (codes "trip_id") in
        let here : slice_get trip_ids k ≡ Some t =
        ap (λ ids. slice_get ids k) (ids_are d file.Trips (codes "trip_id")) ∙ slice_get-map (λ n. text_in d file.Trips n (codes "trip_id")) trip_rows k
        ∙ ap (option_map (λ n. text_in d file.Trips n (codes "trip_id"))) (slice_get-get_or trip_rows k 0 within) in
        ap (λ id. by_key nat_cmp (λ r. r.stop_sequence) (map (stop_row_in d) (rows_of d file.StopTimes id))) (trip_id_at d passes n (rows_are d file.Trips (codes "trip_id") k 0 within))
        ∙ rows_at k t here

    -- the rows of all trips
    pub rows_by_trip : map (map (λ s. stop_row_in d s.row)) (by_trip (length (content_of d).trips) ss) ≡ map (λ t. t.stop_rows) (content_of d).trips
    rows_by_trip =
        let n = length (content_of d).trips in
        let many : n ≡ length trip_rows = ap length (trips_are d passes) ∙ length-map trip_rows (trip_in d) in
        let left = length-map (by_trip n ss) rows_by_number ∙ length-by_trip n ss in
        ext_get_or [] (map rows_by_number (by_trip n ss)) (map (λ m. (trip_in d m).stop_rows) trip_rows)
        (left ∙ many ∙ sym (length-map trip_rows (λ m. (trip_in d m).stop_rows)))
        (λ k h.
        let below : k < n = omega (arith, h, left) in
        let within : k < length trip_rows = omega (arith, below, many) in
        get_or-map rows_by_number (by_trip n ss) k [] [] (omega (arith, below, length-by_trip n ss)) ∙ ap rows_by_number (by_trip-at n k ss below)
        ∙ sym (of_row k within) ∙ sym (get_or-map (λ m. (trip_in d m).stop_rows) trip_rows k 0 [] within))
        ∙ sym (map-twice (λ t. t.stop_rows) (trip_in d) trip_rows) ∙ ap (map (λ t. t.stop_rows)) (sym (trips_are d passes))
