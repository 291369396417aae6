-- The ids of a column by their bytes, and the rows of a content that has them as keys.
use Rattle.std.proofs.Common.{◌≡◌, ◌<◌, ◌-◌, ◌∙◌, ◌∷◌, [], ℕ, List, length, map, get_or, codes, true, Some, refl, sym, ap, arith, inl, inr}
use Rattle.std.specs.Prelude.{unwrap_or}
use Rattle.std.specs.Cmp.{tied_itself}
use Rattle.std.specs.Cmp.Lexicographic.{nat_list_cmp_total}
use Rattle.std.specs.FinMap as table
use Rattle.std.specs.List.{All, AllPairs, range_with_len, slice_get}
use Rattle.std.specs.declared.cmp.Ordering.TheVariants.{Less, Equal}
use Rattle.std.proofs.lemmas.Bool.{cases_lt}
use Rattle.std.proofs.lemmas.List.{length-map}
use Rattle.std.proofs.lemmas.List.Elements.{All-head, All-tail, filter_passes}
use Rattle.std.proofs.lemmas.Option.{get_or_from_slice_get, slice_get_within}
use Rattle.gtfs_field.specs.TextOrder.{text_cmp}
use Rattle.gtfs_table.specs.Rows.{is_row, records_in, rows}
use Rattle.gtfs_table.specs.Tables.{Dataset}
use Rattle.gtfs_table.specs.declared.file.File.{File}
use Rattle.gtfs_table.specs.declared.file.File.TheVariants as file
use Rattle.gtfs_schema.specs.Columns.{id, required}
use Rattle.gtfs_schema.specs.IdNumbers.{first_rows, ids_by_bytes}
use Rattle.gtfs_schema.specs.Problems.{Passes}
use Rattle.gtfs_schema.specs.RowConditions.{text_in}
use Rattle.gtfs_schema.specs.declared.network_ids.NetworkIds.{NetworkIds}
use Rattle.gtfs_schema.specs.steps.FeedIds.{AreNetworkIdsOf}
use Rattle.gtfs_schema.specs.steps.Ids.{ids_of}
use Rattle.gtfs_schema.proofs.ReadFacts.{id_there, stands}
use Rattle.gtfs_rows.specs.TransferOrder.{by_key}
use Rattle.gtfs_rows.specs.ContentRead.{content_of, stop_in, text_at, trip_in}
use Rattle.gtfs_rows.proofs.Held.{text_antisymmetric}
use Rattle.gtfs_reading.specs.StopTimeLists.{content_stop_ids}
use Rattle.gtfs_reading.proofs.Keyed.{by_key_made, keys_are, keys_ascend, values_are}

-- ---- a column

module _ (d : Dataset) (x : File) (column : List ℕ) where
  abbrev IsRow : ℕ → Type 0
  IsRow n = is_row (records_in d x) n ≡ true

  -- the first rows of the ids, in the order of these
  abbrev pub numbered_rows : List ℕ
  numbered_rows = table.values (first_rows d x column)

  all_rows : All IsRow (rows d x)
  all_rows = filter_passes (is_row (records_in d x)) (range_with_len 2 (length (records_in d x) - 1))

  pub rows_are : All IsRow numbered_rows
  rows_are = values_are text_cmp nat_list_cmp_total text_antisymmetric (λ n. text_in d x n column) IsRow (rows d x) all_rows

  pub ids_are : ids_by_bytes d x column ≡ map (λ n. text_in d x n column) numbered_rows
  ids_are = keys_are text_cmp nat_list_cmp_total text_antisymmetric (λ n. text_in d x n column) IsRow (rows d x) all_rows

  ids_ascend : AllPairs (λ s t. text_cmp s t ≡ Less) (ids_by_bytes d x column)
  ids_ascend = keys_ascend text_cmp (first_rows d x column)

  never_before : (a b : ℕ) (t : List ℕ) → slice_get (ids_by_bytes d x column) a ≡ Some t → slice_get (ids_by_bytes d x column) b ≡ Some t → a < b → ⊥
  never_before a b t here there below =
      let ids = ids_by_bytes d x column in
      let less : text_cmp (get_or ids a t) (get_or ids b t) ≡ Less = ids_ascend a b t below (slice_get_within ids b t there) in
      let same : text_cmp (get_or ids a t) (get_or ids b t) ≡ Equal =
      ap (λ s. text_cmp s (get_or ids b t)) (get_or_from_slice_get ids a t t here) ∙ ap (text_cmp t) (get_or_from_slice_get ids b t t there) ∙ tied_itself nat_list_cmp_total t in
      cc (less, same)

  -- an id has one number
  pub one_number : (a b : ℕ) (t : List ℕ) → slice_get (ids_by_bytes d x column) a ≡ Some t → slice_get (ids_by_bytes d x column) b ≡ Some t → a ≡ b
  one_number a b t here there = elim (cases_lt a b) [
    | inl below ↦ absurd (never_before a b t here there below)
    | inr above ↦ elim (cases_lt b a) [
      | inl below ↦ absurd (never_before b a t there here below)
      | inr not_above ↦ omega arith
    ]
  ]

  -- the rows of a content by this column
  pub content_list : {X : Type 0} (key : X → List ℕ) (f : ℕ → X) → ((n : ℕ) → IsRow n → key (f n) ≡ text_in d x n column)
      → by_key text_cmp key (map f (rows d x)) ≡ map f numbered_rows
  content_list key f keyed =
      by_key_made text_cmp f nat_list_cmp_total key (λ n. text_in d x n column) (rows d x) (λ k e h. keyed (get_or (rows d x) k e) (all_rows k e h))

-- ---- trips and stops of a dataset that passes

module _ (d : Dataset) (passes : Passes d) where
  pub trip_id_at : (n : ℕ) → is_row (records_in d file.Trips) n ≡ true → text_at d file.Trips n "trip_id" ≡ text_in d file.Trips n (codes "trip_id")
  trip_id_at n row =
      ap (λ o. unwrap_or o []) (id_there (text_in d file.Trips n (codes "trip_id"))
      (stands d passes file.Trips n row (codes "trip_id") (required "trip_id" id) refl _ refl))

  stop_id_at : (n : ℕ) → is_row (records_in d file.Stops) n ≡ true → text_at d file.Stops n "stop_id" ≡ text_in d file.Stops n (codes "stop_id")
  stop_id_at n row =
      ap (λ o. unwrap_or o []) (id_there (text_in d file.Stops n (codes "stop_id"))
      (stands d passes file.Stops n row (codes "stop_id") (required "stop_id" id) refl _ refl))

  pub trips_are : (content_of d).trips ≡ map (trip_in d) (numbered_rows d file.Trips (codes "trip_id"))
  trips_are = content_list d file.Trips (codes "trip_id") (λ t. t.trip_id) (trip_in d) trip_id_at

  -- as many ids of trips as the content has trips
  pub count_trips : length (ids_by_bytes d file.Trips (codes "trip_id")) ≡ length (content_of d).trips
  count_trips =
      let trip_rows = numbered_rows d file.Trips (codes "trip_id") in
      ap length (ids_are d file.Trips (codes "trip_id")) ∙ length-map trip_rows (λ n. text_in d file.Trips n (codes "trip_id"))
      ∙ sym (length-map trip_rows (trip_in d)) ∙ ap length (sym trips_are)

  pub trips_counted : (ids : NetworkIds) → AreNetworkIdsOf d ids → length (ids_of ids.trips) ≡ length (content_of d).trips
  trips_counted ids are = ap (λ rows. length (ids_of rows)) are.trips ∙ count_trips

  stops_are : (content_of d).stops ≡ map (stop_in d) (numbered_rows d file.Stops (codes "stop_id"))
  stops_are = content_list d file.Stops (codes "stop_id") (λ s. s.stop_id) (stop_in d) stop_id_at

  alike : (ns : List ℕ) → All (λ n. is_row (records_in d file.Stops) n ≡ true) ns
      → map (λ s. s.stop_id) (map (stop_in d) ns) ≡ map (λ n. text_in d file.Stops n (codes "stop_id")) ns
  alike [] all = refl
  alike (n ∷ ns) all = λ i. stop_id_at n (All-head (λ n. is_row (records_in d file.Stops) n ≡ true) n ns all) i ∷ alike ns (All-tail (λ n. is_row (records_in d file.Stops) n ≡ true) n ns all) i

  -- the ids of the content's stops are those of the column, each at its number
  pub stop_ids_are : content_stop_ids d ≡ ids_by_bytes d file.Stops (codes "stop_id")
  stop_ids_are =
      ap (map (λ s. s.stop_id)) stops_are ∙ alike (numbered_rows d file.Stops (codes "stop_id")) (rows_are d file.Stops (codes "stop_id"))
      ∙ sym (ids_are d file.Stops (codes "stop_id"))
