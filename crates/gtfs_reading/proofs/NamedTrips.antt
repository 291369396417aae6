-- A trip that no row names has no frequencies.
use Rattle.std.proofs.Common.{◌≡◌, ◌∙◌, ◌<◌, ◌++◌, ◌∷◌, [], ℕ, List, Bool, true, false, Option, Some, None, cond, codes, length, map, get_or, bytes_eq, refl, sym, ap, subst, arith, inl, inr}
use Rattle.std.specs.List.{All, position, position_or_len, slice_get}
use Rattle.std.specs.Ordering.{nat_cmp}
use Rattle.std.proofs.lemmas.Bool.{cases_Bool, cases_eq, ltb-true}
use Rattle.std.proofs.lemmas.Grind.{get_or-set_at}
use Rattle.std.proofs.lemmas.List.{get_or-map, get_or-set_other, get_or-set_same, length-map, length-set}
use Rattle.std.proofs.lemmas.List.Elements.{All-append, All-cons, All-nil}
use Rattle.std.proofs.lemmas.List.Folds.{list_any_at}
use Rattle.std.proofs.lemmas.List.Quantifiers.{position-Some}
use Rattle.std.proofs.lemmas.Option.{slice_get-get_or}
use Rattle.std.proofs.lemmas.Slice.Eq.{bytes_eq-Decides}
use Rattle.gtfs_field.proofs.ListFacts.{position_any}
use Rattle.gtfs_table.specs.Rows.{rows}
use Rattle.gtfs_table.specs.Tables.{Dataset}
use Rattle.gtfs_table.specs.declared.file.File.TheVariants as file
use Rattle.gtfs_schema.specs.Columns.{id, required}
use Rattle.gtfs_schema.specs.IdNumbers.{first_rows, ids_by_bytes}
use Rattle.gtfs_schema.specs.Problems.{Passes}
use Rattle.gtfs_schema.specs.RowConditions.{text_in}
use Rattle.gtfs_schema.specs.steps.Ids.{FirstRows, ids_of, number_with, rows_by_number}
use Rattle.gtfs_schema.proofs.SiteFacts.{text_itself}
use Rattle.gtfs_rows.specs.TransferOrder.{by_key}
use Rattle.gtfs_rows.specs.ContentRead.{frequency_in, rows_of, text_at, trip_in}
use Rattle.gtfs_rows.specs.RowsInMemory.{is_number_within}
use Rattle.gtfs_rows.proofs.Held.{filter_none}
use Rattle.gtfs_rows.proofs.KeyedRows.{no_entries}
use Rattle.gtfs_reading.specs.NamedTrips.{AreNamedTrips, is_marked, named_trip, with_mark}
use Rattle.gtfs_reading.proofs.CalendarFacts.{rows_named}
use Rattle.gtfs_reading.proofs.ContentIds.{ids_are, numbered_rows, one_number, trip_id_at}
use Rattle.gtfs_reading.proofs.Fields.{numbered_row}
use Rattle.gtfs_reading.proofs.IdTexts.{number_within}

-- ---- one more mark

pub as-many : (marks : List Bool) (j : Option ℕ) → length (with_mark marks j) ≡ length marks
as-many marks None = refl
as-many marks (Some j) = length-set marks j true

module _ (marks : List Bool) (j : Option ℕ) (within : is_number_within (length marks) j ≡ true) where
  -- what is marked stays so
  stays : (o : Option ℕ) → is_marked marks o ≡ true → is_marked (with_mark marks j) o ≡ true
  stays o is = by j within o is
    where
      by : (j : Option ℕ) → is_number_within (length marks) j ≡ true → (o : Option ℕ) → is_marked marks o ≡ true → is_marked (with_mark marks j) o ≡ true
      by None within o is = is
      by (Some j) within None is = refl
      by (Some j) within (Some k) is = elim (cases_eq k j) [
        | inl same ↦ get_or-set_at marks j k true false same (ltb-true j (length marks) within)
        | inr other ↦ get_or-set_other marks j k true false other ∙ is
      ]

  -- and the number is marked then
  comes : is_marked (with_mark marks j) j ≡ true
  comes = by j within
    where
      by : (j : Option ℕ) → is_number_within (length marks) j ≡ true → is_marked (with_mark marks j) j ≡ true
      by None within = refl
      by (Some j) within = get_or-set_same marks j true false (ltb-true j (length marks) within)

module _ (d : Dataset) (trips : FirstRows) where
  -- after the row of one more trip
  pub marked-more : (ns : List ℕ) (n : ℕ) (marks : List Bool) → length marks ≡ length (ids_of trips) → All (λ m. is_marked marks (named_trip d trips m) ≡ true) ns
      → All (λ m. is_marked (with_mark marks (named_trip d trips n)) (named_trip d trips m) ≡ true) (ns ++ n ∷ [])
  marked-more ns n marks count so_far =
      let within : is_number_within (length marks) (named_trip d trips n) ≡ true =
      subst (λ l. is_number_within l (named_trip d trips n) ≡ true) (sym count) (number_within trips (text_in d file.Frequencies n (codes "trip_id"))) in
      let P : ℕ → Type 0 = λ m. is_marked (with_mark marks (named_trip d trips n)) (named_trip d trips m) ≡ true in
      All-append P ns (n ∷ []) (λ k e h. stays marks (named_trip d trips n) within (named_trip d trips (get_or ns k e)) (so_far k e h))
      (All-cons P n [] (comes marks (named_trip d trips n) within) (All-nil P))

-- ---- a trip without a mark

some-if : (b : Bool) (n : ℕ) → b ≡ true → cond b (Some n) None ≡ Some n
some-if b n is = ap (λ c. cond c (Some n) None) is

module _ (d : Dataset) where
  abbrev ids : List (List ℕ)
  ids = ids_by_bytes d file.Trips (codes "trip_id")

  -- the id of a number has that number
  own_number : (k : ℕ) → k < length ids → number_with (first_rows d file.Trips (codes "trip_id")) (get_or ids k []) ≡ Some k
  own_number k within =
      let t = get_or ids k [] in
      let p : List ℕ → Bool = λ x. bytes_eq x t in
      let there = list_any_at p ids k [] within (text_itself t) in
      let some : position p ids ≡ Some (position_or_len p ids) = some-if _ (position_or_len p ids) (position_any p ids ∙ there) in
      let at = position-Some p ids (position_or_len p ids) [] some in
      let here : slice_get ids (position_or_len p ids) ≡ Some t =
      slice_get-get_or ids (position_or_len p ids) [] at.0 ∙ ap Some ((bytes_eq-Decides (get_or ids (position_or_len p ids) []) t).0 at.1) in
      some ∙ ap Some (one_number d file.Trips (codes "trip_id") (position_or_len p ids) k t here (slice_get-get_or ids k [] within))

module _ (d : Dataset) (passes : Passes d) (trips : FirstRows) (are : trips ≡ first_rows d file.Trips (codes "trip_id")) (marks : List Bool) (named : AreNamedTrips d trips marks)
    (k n : ℕ) (within : k < length (rows_by_number trips)) (row : n ≡ get_or (rows_by_number trips) k 0) (unmarked : get_or marks k false ≡ false) where
  abbrev text : List ℕ
  text = text_in d file.Trips n (codes "trip_id")

  below : k < length (numbered_rows d file.Trips (codes "trip_id"))
  below = subst (λ i. k < length (rows_by_number i)) are within

  text_is : text ≡ get_or (ids d) k []
  text_is =
      let ns = numbered_rows d file.Trips (codes "trip_id") in
      ap (λ m. text_in d file.Trips m (codes "trip_id")) (row ∙ ap (λ i. get_or (rows_by_number i) k 0) are)
      ∙ sym (get_or-map (λ m. text_in d file.Trips m (codes "trip_id")) ns k 0 [] below)
      ∙ ap (λ xs. get_or xs k []) (sym (ids_are d file.Trips (codes "trip_id")))

  number_is : number_with trips text ≡ Some k
  number_is =
      let in_ids : k < length (ids d) = omega (arith, below, ap length (ids_are d file.Trips (codes "trip_id")), length-map (numbered_rows d file.Trips (codes "trip_id")) (λ m. text_in d file.Trips m (codes "trip_id"))) in
      (λ i. number_with (are i) (text_is i)) ∙ own_number d k in_ids

  names_other : All (λ m. bytes_eq (text_in d file.Frequencies m (codes "trip_id")) text ≡ false) (rows d file.Frequencies)
  names_other j e h = elim (cases_Bool (bytes_eq (text_in d file.Frequencies (get_or (rows d file.Frequencies) j e) (codes "trip_id")) text)) [
    | inl same ↦
        let m = get_or (rows d file.Frequencies) j e in
        let is : text_in d file.Frequencies m (codes "trip_id") ≡ text = (bytes_eq-Decides (text_in d file.Frequencies m (codes "trip_id")) text).0 same in
        let marked : get_or marks k false ≡ true = sym (ap (is_marked marks) (ap (number_with trips) is ∙ number_is)) ∙ named.marked j e h in
        cc (marked, unmarked)
    | inr other ↦ other
  ]

  no_rows : rows_of d file.Frequencies (text_at d file.Trips n "trip_id") ≡ []
  no_rows =
      let trip = numbered_row d file.Trips (codes "trip_id") trips are k n within row in
      ap (rows_of d file.Frequencies) (trip_id_at d passes n trip)
      ∙ sym (rows_named d passes file.Frequencies "trip_id" (required "trip_id" id) refl refl refl text)
      ∙ filter_none (λ m. bytes_eq (text_in d file.Frequencies m (codes "trip_id")) text) (rows d file.Frequencies) names_other

  pub none-of : [] ≡ (trip_in d n).frequencies
  none-of = sym (ap (λ ns. by_key nat_cmp (λ f. f.start_time) (map (frequency_in d) ns)) no_rows ∙ ap (map (λ e. e.1)) (no_entries nat_cmp))
