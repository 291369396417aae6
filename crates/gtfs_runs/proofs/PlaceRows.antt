-- The departure rows at the place of a stop: of its stops put together, by the numbers of trips, and cut by trip.
use Rattle.std.proofs.Common.{◌≡◌, ◌≤◌, ◌<◌, ◌+◌, ◌∙◌, ◌&&◌, ◌||◌, ◌==◌, ℕ, zero, suc, Bool, true, false, not, cond, List, [], ◌∷◌, length, filter, take, drop, get_or, Option, Some, None, nat_lt, nat_le, refl, sym, ap, subst, arith, inl, inr, rules}
use Rattle.std.specs.Prelude.{option_map}
use Rattle.std.specs.List.{All, list_any, slice_get}
use Rattle.std.specs.List.Sorted.{IsPermutation}
use Rattle.std.specs.Cmp.{IsTotalOrder, ranked, tied_itself}
use Rattle.std.specs.Cmp.Rules.{comparing}
use Rattle.std.specs.Cmp.Derive.{both_true}
use Rattle.std.specs.declared.cmp.Ordering.{Ordering}
use Rattle.std.specs.declared.cmp.Ordering.TheVariants.{Less, Equal, Greater}
use Rattle.std.specs.Ordering.{is_lt, nat_cmp, ordering_reverse, ordering_then}
use Rattle.std.proofs.lemmas.Bool.{and_parts, cases_Bool, eqb-true, false≢true, true≢false, le-leb, leb-true, lt-ltb, ltb-true, ltb-false}
use Rattle.std.proofs.lemmas.Bool.Decides.{nat_tests}
use Rattle.std.proofs.lemmas.List.Elements.{All-cons, All-head, All-nil, All-tail}
use Rattle.std.proofs.lemmas.List.Kept.{AllPairs-cons, AllPairs-filter}
use Rattle.std.proofs.lemmas.List.Sorted.{All-permutation, IsPermutation-cons, IsPermutation-middle, IsPermutation-refl, IsPermutation-trans}
use Rattle.std.proofs.lemmas.Option.{get_or_from_slice_get, slice_get-get_or, slice_get_within}
use Rattle.gtfs_schema.specs.FieldValues.{if_there}
use Rattle.gtfs_field.proofs.ListFacts.{any_alike, any_silent, some_of}
use Rattle.gtfs_field.proofs.NumberFacts.{number_itself as itself}
use Rattle.gtfs_field.proofs.OrderingFacts.{less as is_less, first_at_most, tied_first as first_tie, tied_second as second_tie}
use Rattle.gtfs_rows.specs.RowChoices.{location_code}
use Rattle.gtfs_rows.specs.Places.{is_in_place, members}
use Rattle.gtfs_rows.specs.Rows as content
use Rattle.gtfs_rows.specs.TransferOrder.{Ascends}
use Rattle.gtfs_rows.specs.Runs.{is_departure_row}
use Rattle.gtfs_rows.specs.Trips.{frequencies_by_trip, stop_rows_by_trip}
use Rattle.gtfs_rows.specs.RowsInMemory.{IsSoundParts, content_of_parts, stop_ids, stop_row_of, text_of_number, trip_of}
use Rattle.gtfs_rows.specs.declared.frequency.Frequency.{Frequency}
use Rattle.gtfs_rows.specs.declared.parts.Parts.{Parts}
use Rattle.gtfs_rows.specs.declared.stop.Stop.{Stop}
use Rattle.gtfs_stop_times.specs.declared.stop_row.StopRow.{StopRow}
use Rattle.gtfs_rows.specs.declared.trip.Trip.{Trip}
use Rattle.gtfs_rows.proofs.SameElements.{pairs-head, pairs-tail}
use Rattle.gtfs_rows.proofs.TripFacts.{stop_times}
use Rattle.gtfs_rows.proofs.TripsAt.{content_trip}
use Rattle.gtfs_table.proofs.PartFacts.{length-parts}
use Rattle.gtfs_times.proofs.TimedContent.{content-timed}
use Rattle.gtfs_times.specs.TimedRows.{timed_parts}
use Rattle.gtfs_times.specs.declared.times.Times.{Times}
use Rattle.gtfs_runs.specs.Tallies.{tally}
use Rattle.gtfs_runs.specs.StopIndex.{AreDepartureRows, departure_row_cmp, has_departure_row, is_this_row, index_trip_cmp}
use Rattle.gtfs_runs.specs.declared.departure_row.DepartureRow.{DepartureRow}
use Rattle.gtfs_runs.specs.declared.stop_index.children.Child.{Child}
use Rattle.gtfs_runs.specs.steps.Children.{is_child}
use Rattle.gtfs_runs.specs.steps.AtStops.{departs_of, leaves_stop}
use Rattle.gtfs_runs.specs.steps.Passings.{leaves}
use Rattle.gtfs_runs.specs.steps.PlaceRows.{AreOfPlace, ArePlaceRows, departs_in_place, first_trip, number_cmp}
use Rattle.gtfs_runs.proofs.ChildFacts.{child_of}
use Rattle.gtfs_runs.proofs.ContentEvents.{past_trips, row_at}
use Rattle.gtfs_runs.proofs.ContentRows.{flag_at}
use Rattle.gtfs_runs.proofs.AtStopFacts.{own_rows, rows_total, trip_within}
use Rattle.gtfs_runs.proofs.IndexFacts.{any_kept}
use Rattle.gtfs_runs.proofs.LaneTallies.{tally-nothing}
use Rattle.gtfs_runs.proofs.NumberParts.{first_run}
use Rattle.gtfs_runs.proofs.PlaceFacts.{place_at}
use Rattle.gtfs_runs.proofs.Tallies.{any-tally, tally-none, tally-permutation, tally-same, one_at}

-- ---- what is asked of a stop time

module _ (p : Parts) (sound : IsSoundParts p) (s t : ℕ) (u : Trip) (rows : List StopRow) (fs : List Frequency) (at_trip : slice_get p.trips t ≡ Some u)
    (at_rows : slice_get (stop_rows_by_trip p) t ≡ Some rows) (at_periods : slice_get (frequencies_by_trip p) t ≡ Some fs) where
  pub in_place_of : (r : ℕ) → departs_in_place p s t r ≡ if_there (slice_get rows r) (λ x. leaves p s u rows fs (r, x))
  in_place_of r =
      let c = content_of_parts p in
      let id = text_of_number (stop_ids p) s in
      let asked : content.Trip → content.StopRow → Bool = λ v x. is_departure_row v x && is_in_place c id x.stop_id in
      ap (λ o. if_there o (λ v. if_there (slice_get v.stop_rows r) (asked v))) (content_trip p t u rows fs at_trip at_rows at_periods)
      ∙ row_at (stop_row_of p) (λ x. x.stop_id.0 < length p.stops) (asked (trip_of p u rows fs)) (λ x. leaves p s u rows fs (r, x)) rows r (stop_times p sound t rows at_rows).stops
      (λ x h. ap (λ b. is_departure_row (trip_of p u rows fs) (stop_row_of p x) && b) (sym (flag_at p s x.stop_id.0 h)))

-- past the last trip there is none
pub place_within : (p : Parts) (s t r : ℕ) → departs_in_place p s t r ≡ true → t < length p.trips
place_within p s t r holds = elim (cases_Bool (nat_lt t (length p.trips))) [
  | inl is ↦ ltb-true t (length p.trips) is
  | inr isnt ↦
      let c = content_of_parts p in
      let id = text_of_number (stop_ids p) s in
      let none : departs_in_place p s t r ≡ false =
      ap (λ o. if_there o (λ v. if_there (slice_get v.stop_rows r) (λ x. is_departure_row v x && is_in_place c id x.stop_id)))
      (past_trips p p.trips (stop_rows_by_trip p) (frequencies_by_trip p) t (ltb-false t (length p.trips) isnt)) in
      absurd (false≢true (sym none ∙ holds))
]

-- ---- the order of departure rows

numbers_total : IsTotalOrder number_cmp
numbers_total = search (comparing, rules) depth 20

row_itself : (x : DepartureRow) → is_this_row x.trip x.row x ≡ true
row_itself x = both_true (itself x.trip) (itself x.row)

tied : (x y : DepartureRow) → number_cmp x y ≡ Equal → is_this_row x.trip x.row y ≡ true
tied x y tie =
    let trips : x.trip ≡ y.trip = ranked x.trip y.trip Equal (sym (first_tie _ _ tie)) in
    let rows : x.row ≡ y.row = ranked x.row y.row Equal (sym (second_tie _ _ tie)) in
    both_true (ap (λ n. x.trip == n) (sym trips) ∙ itself x.trip) (ap (λ n. x.row == n) (sym rows) ∙ itself x.row)

less_if_apart : (r q : Ordering) → q ≡ ordering_reverse r → is_lt q ≡ false → (r ≡ Equal → ⊥) → r ≡ Less
less_if_apart Less q turned far apart = refl
less_if_apart Equal q turned far apart = absurd (apart refl)
less_if_apart Greater q turned far apart = absurd (false≢true (sym far ∙ ap is_lt turned))

abbrev insert : DepartureRow → List DepartureRow → List DepartureRow
insert x [] = x ∷ []
insert x (y ∷ ys) = cond (is_lt (number_cmp y x)) (y ∷ insert x ys) (x ∷ y ∷ ys)

-- rows by number
abbrev pub by_number : List DepartureRow → List DepartureRow
by_number [] = []
by_number (x ∷ xs) = insert x (by_number xs)

inserted : (x : DepartureRow) (ys : List DepartureRow) → IsPermutation (x ∷ ys) (insert x ys)
inserted x [] = IsPermutation-refl (x ∷ [])
inserted x (y ∷ ys) = elim (cases_Bool (is_lt (number_cmp y x))) [
  | inl lower ↦ rw lower (IsPermutation-trans (x ∷ y ∷ ys) (y ∷ x ∷ ys) (y ∷ insert x ys) (IsPermutation-middle (x ∷ []) y ys) (IsPermutation-cons y (x ∷ ys) (insert x ys) (inserted x ys)))
  | inr upper ↦ rw upper (IsPermutation-refl (x ∷ y ∷ ys))
]

pub numbered : (xs : List DepartureRow) → IsPermutation xs (by_number xs)
numbered [] = IsPermutation-refl []
numbered (x ∷ xs) =
    IsPermutation-trans (x ∷ xs) (x ∷ by_number xs) (insert x (by_number xs)) (IsPermutation-cons x xs (by_number xs) (numbered xs)) (inserted x (by_number xs))

-- those of them that pass a test
filter_inserted : (q : DepartureRow → Bool) (x : DepartureRow) (ys : List DepartureRow) → IsPermutation (filter q (x ∷ ys)) (filter q (insert x ys))
filter_inserted q x [] = IsPermutation-refl (filter q (x ∷ []))
filter_inserted q x (y ∷ ys) = elim (cases_Bool (is_lt (number_cmp y x))) [
  | inl lower ↦ rw lower (IsPermutation-trans (filter q (x ∷ y ∷ ys)) (filter q (y ∷ x ∷ ys)) (filter q (y ∷ insert x ys)) (swapped (q x) (q y) (filter q ys)) (more (q y) (filter q (x ∷ ys)) (filter q (insert x ys)) (filter_inserted q x ys)))
  | inr upper ↦ rw upper (IsPermutation-refl (filter q (x ∷ y ∷ ys)))
]
  where
    swapped : (a b : Bool) (zs : List DepartureRow) → IsPermutation (cond a (x ∷ cond b (y ∷ zs) zs) (cond b (y ∷ zs) zs)) (cond b (y ∷ cond a (x ∷ zs) zs) (cond a (x ∷ zs) zs))
    swapped true true zs = IsPermutation-middle (x ∷ []) y zs
    swapped true false zs = IsPermutation-refl (x ∷ zs)
    swapped false true zs = IsPermutation-refl (y ∷ zs)
    swapped false false zs = IsPermutation-refl zs

    more : (b : Bool) (us vs : List DepartureRow) → IsPermutation us vs → IsPermutation (cond b (y ∷ us) us) (cond b (y ∷ vs) vs)
    more true us vs same = IsPermutation-cons y us vs same
    more false us vs same = same

pub kept_numbered : (q : DepartureRow → Bool) (xs : List DepartureRow) → IsPermutation (filter q xs) (filter q (by_number xs))
kept_numbered q [] = IsPermutation-refl []
kept_numbered q (x ∷ xs) = IsPermutation-trans (filter q (x ∷ xs)) (filter q (x ∷ by_number xs)) (filter q (insert x (by_number xs))) (more (q x) (kept_numbered q xs)) (filter_inserted q x (by_number xs))
  where
    more : (b : Bool) → IsPermutation (filter q xs) (filter q (by_number xs)) → IsPermutation (cond b (x ∷ filter q xs) (filter q xs)) (cond b (x ∷ filter q (by_number xs)) (filter q (by_number xs)))
    more true same = IsPermutation-cons x (filter q xs) (filter q (by_number xs)) same
    more false same = same

abbrev Rises : DepartureRow → DepartureRow → Type 0
Rises x y = number_cmp x y ≡ Less

insert_up : (x : DepartureRow) (ys : List DepartureRow) → All (λ y. is_this_row x.trip x.row y ≡ false) ys → Ascends number_cmp ys → Ascends number_cmp (insert x ys)
insert_up x [] apart up = AllPairs-cons Rises x [] (All-nil (Rises x)) up
insert_up x (y ∷ ys) apart up = elim (cases_Bool (is_lt (number_cmp y x))) [
  | inl lower ↦
      rw lower (AllPairs-cons Rises y (insert x ys) (All-permutation (Rises y) (x ∷ ys) (insert x ys) (inserted x ys) (All-cons (Rises y) x ys (is_less (number_cmp y x) lower) (pairs-head Rises y ys up)))
      (insert_up x ys (All-tail (λ z. is_this_row x.trip x.row z ≡ false) y ys apart) (pairs-tail Rises y ys up)))
  | inr upper ↦
      let first : Rises x y = less_if_apart (number_cmp x y) (number_cmp y x) (numbers_total.antisymm y x) upper
      (λ tie. false≢true (sym (All-head (λ z. is_this_row x.trip x.row z ≡ false) y ys apart) ∙ tied x y tie)) in
      rw upper (AllPairs-cons Rises x (y ∷ ys) (All-cons (Rises x) y ys first (λ k d within. numbers_total.trans x y (get_or ys k d) first (pairs-head Rises y ys up k d within))) up)
]

-- of which each stands there once
ascending : (xs : List DepartureRow) → ((t r : ℕ) → tally (is_this_row t r) xs ≤ 1) → Ascends number_cmp (by_number xs)
ascending [] once = λ i j d before within. absurd (omega arith)
ascending (x ∷ xs) once =
    insert_up x (by_number xs) (All-permutation (λ y. is_this_row x.trip x.row y ≡ false) xs (by_number xs) (numbered xs) apart)
    (ascending xs (λ t r. less (is_this_row t r x) (tally (is_this_row t r) xs) (once t r)))
  where
    less : (b : Bool) (n : ℕ) → cond b 1 0 + n ≤ 1 → n ≤ 1
    less b n most = omega (arith, most)

    both : (b : Bool) (n : ℕ) → b ≡ true → cond b 1 0 + n ≤ 1 → 1 ≤ n → ⊥
    both b n is most some = let one : ◌≡◌ {A = ℕ} (cond b 1 0) 1 = ap (λ c. cond c 1 0) is in omega (arith, one, most, some)

    apart : All (λ y. is_this_row x.trip x.row y ≡ false) xs
    apart k d within = elim (cases_Bool (is_this_row x.trip x.row (get_or xs k d))) [
      | inr other ↦ other
      | inl same ↦ absurd (both (is_this_row x.trip x.row x) (tally (is_this_row x.trip x.row) xs) (row_itself x) (once x.trip x.row) (one_at (is_this_row x.trip x.row) xs k d within same))
    ]

-- in ascending ones each stands once
not_again : (p : Parts) (x y : DepartureRow) → departure_row_cmp p x y ≡ Less → (t r : ℕ) → is_this_row t r x ≡ true → is_this_row t r y ≡ false
not_again p x y less t r is = elim (cases_Bool (is_this_row t r y)) [
  | inr isnt ↦ isnt
  | inl also ↦
      let a = and_parts (t == x.trip) (r == x.row) is in
      let b = and_parts (t == y.trip) (r == y.row) also in
      let trips : x.trip ≡ y.trip = sym (eqb-true t x.trip a.0) ∙ eqb-true t y.trip b.0 in
      let rows : x.row ≡ y.row = sym (eqb-true r x.row a.1) ∙ eqb-true r y.row b.1 in
      absurd (never (sym (same_row trips rows) ∙ less))
]
  where
    never : Equal ≡ Less → ⊥
    never same = false≢true (ap is_lt same)

    same_row : x.trip ≡ y.trip → x.row ≡ y.row → departure_row_cmp p x y ≡ Equal
    same_row trips rows = (λ i. ordering_then (index_trip_cmp p (trips i) y.trip) (nat_cmp (rows i) y.row)) ∙ tied_itself (rows_total p) y

once : (p : Parts) (xs : List DepartureRow) (t r : ℕ) → Ascends (departure_row_cmp p) xs → tally (is_this_row t r) xs ≡ cond (list_any (is_this_row t r) xs) 1 0
once p [] t r up = refl
once p (x ∷ xs) t r up = elim (cases_Bool (is_this_row t r x)) [
  | inl is ↦
      let above = pairs-head (λ a b. departure_row_cmp p a b ≡ Less) x xs up in
      let none : tally (is_this_row t r) xs ≡ 0 = tally-none (is_this_row t r) xs (λ k d within. not_again p x (get_or xs k d) (above k d within) t r is) in
      rw (is, none) refl
  | inr isnt ↦ rw isnt (ap (λ n. 0 + n) (once p xs t r (pairs-tail (λ a b. departure_row_cmp p a b ≡ Less) x xs up)) ∙ nothing (cond (list_any (is_this_row t r) xs) 1 0))
]
  where
    nothing : (n : ℕ) → 0 + n ≡ n
    nothing n = omega arith

-- ---- those of the stops of a place

-- how often the index has a stop time at a stop
pub told_at : (choice : Times) (p : Parts) → IsSoundParts p → (index : List (List DepartureRow)) → AreDepartureRows choice p index → (s t r : ℕ) (xs : List DepartureRow) → s < length p.stops
    → slice_get index s ≡ Some xs → tally (is_this_row t r) xs ≡ cond (departs_of (timed_parts choice p) s t r) 1 0
told_at choice p sound index are s t r xs within at =
    let q = timed_parts choice p in
    let id = text_of_number (stop_ids p) s in
    let there = slice_get_within index s xs at in
    let known : nat_lt s (length p.stops) ≡ true = lt-ltb s (length p.stops) within in
    once p xs t r (subst (Ascends (departure_row_cmp p)) (get_or_from_slice_get index s xs xs at) (are.in_order s xs there))
    ∙ ap (λ l. cond (list_any (is_this_row t r) l) 1 0) (sym (get_or_from_slice_get index s xs [] at))
    ∙ ap (λ b. cond b 1 0)
    (are.all s t r within ∙ ap (λ c. has_departure_row c id t r) (sym (content-timed choice p sound)) ∙ ap (λ b. b && has_departure_row (content_of_parts q) id t r) (sym known))

-- a stop time is at the place where it is at the stop, or at a child
one_place : (a b e : Bool) → cond a 1 0 + cond (b && not a && e) 1 0 ≡ cond (a || (b && e)) 1 0
one_place true true e = refl
one_place true false e = refl
one_place false true true = refl
one_place false true false = refl
one_place false false e = refl

module _ (p : Parts) (sound : IsSoundParts p) (s : ℕ) (within : s < length p.stops) (xs : List Child) (own : (n : ℕ) → tally (λ x. n == x.stop) xs ≡ cond (is_child p s n) 1 0) where
  -- of a departure row at a stop
  member_sum : (n : ℕ) → n < length p.stops
      → cond (n == s) 1 0 + tally (λ x. n == x.stop) xs ≡ cond (get_or (members (content_of_parts p) (text_of_number (stop_ids p) s)) n false) 1 0
  member_sum n known =
      let d : Stop = some_of p.stops n known in
      let row = get_or p.stops n d in
      let at : slice_get p.stops n ≡ Some row = slice_get-get_or p.stops n d known in
      let plain = location_code row.location_type == 0 in
      let named = if_there (option_map (λ m. m.0) row.parent_station) (λ m. s == m) in
      ap (λ k. cond (n == s) 1 0 + k) (own n ∙ ap (λ b. cond b 1 0) (child_of p s n row at))
      ∙ one_place (n == s) plain named
      ∙ ap (λ b. cond b 1 0) (sym (flag_at p s n known ∙ place_at p sound d s n row within at))

  of_row : (a flag : Bool) (n : ℕ) → cond (n == s) 1 0 + tally (λ x. n == x.stop) xs ≡ cond flag 1 0
      → cond (a && (n == s)) 1 0 + tally (λ x. a && (n == x.stop)) xs ≡ cond (a && flag) 1 0
  of_row true flag n sum = sum
  of_row false flag n sum = ap (λ k. 0 + k) (tally-nothing (λ x. false) xs (λ x. refl))

  of_rows : (u : Trip) (rows : List StopRow) (fs : List Frequency) (r : ℕ) → All (λ x. x.stop_id.0 < length p.stops) rows
      → cond (if_there (slice_get rows r) (leaves_stop p u rows fs s)) 1 0 + tally (λ x. if_there (slice_get rows r) (leaves_stop p u rows fs x.stop)) xs
      ≡ cond (if_there (slice_get rows r) (λ x. leaves p s u rows fs (r, x))) 1 0
  of_rows u rows fs r known = by (slice_get rows r) refl
    where
      by : (o : Option StopRow) → slice_get rows r ≡ o
          → cond (if_there o (leaves_stop p u rows fs s)) 1 0 + tally (λ x. if_there o (leaves_stop p u rows fs x.stop)) xs ≡ cond (if_there o (λ x. leaves p s u rows fs (r, x))) 1 0
      by None at = ap (λ k. 0 + k) (tally-nothing (λ x. false) xs (λ x. refl))
      by (Some x) at =
          let n = x.stop_id.0 in
          let inside : n < length p.stops =
          subst (λ (y : StopRow). y.stop_id.0 < length p.stops) (get_or_from_slice_get rows r x x at) (known r x (slice_get_within rows r x at)) in
          of_row (is_departure_row (trip_of p u rows fs) (stop_row_of p x)) (get_or (members (content_of_parts p) (text_of_number (stop_ids p) s)) n false) n (member_sum n inside)

  pub place_sum : (t r : ℕ) → cond (departs_of p s t r) 1 0 + tally (λ x. departs_of p x.stop t r) xs ≡ cond (departs_in_place p s t r) 1 0
  place_sum t r = elim (cases_Bool (nat_lt t (length p.trips))) [
    | inl is ↦
        let inside : t < length p.trips = ltb-true t (length p.trips) is in
        let here : t < length (stop_rows_by_trip p) = omega (arith, inside, length-parts p.stop_times.starts p.stop_times.rows, sound.stop_rows.0) in
        let periods : t < length (frequencies_by_trip p) = omega (arith, inside, length-parts p.frequency_starts p.frequencies, sound.frequencies.0) in
        let some = some_of p.trips t inside in
        let u = get_or p.trips t some in
        let rows = get_or (stop_rows_by_trip p) t [] in
        let fs = get_or (frequencies_by_trip p) t [] in
        let at_trip = slice_get-get_or p.trips t some inside in
        let at_rows = slice_get-get_or (stop_rows_by_trip p) t [] here in
        let at_periods = slice_get-get_or (frequencies_by_trip p) t [] periods in
        let known = (stop_times p sound t rows at_rows).stops in
        let told : (n : ℕ) → departs_of p n t r ≡ if_there (slice_get rows r) (leaves_stop p u rows fs n) = λ n. sym (own_rows p sound t u rows fs at_trip at_rows at_periods known n r) in
        (λ i. cond (told s i) 1 0 + tally-same (λ x. departs_of p x.stop t r) (λ x. if_there (slice_get rows r) (leaves_stop p u rows fs x.stop)) xs (λ x. told x.stop) i)
        ∙ of_rows u rows fs r known
        ∙ ap (λ b. cond b 1 0) (sym (in_place_of p sound s t u rows fs at_trip at_rows at_periods r))
    | inr isnt ↦
        let none : (n : ℕ) → departs_of p n t r ≡ false = λ n. refuted (departs_of p n t r) (λ holds. true≢false (sym (lt-ltb t (length p.trips) (trip_within p n t r holds)) ∙ isnt)) in
        let also : departs_in_place p s t r ≡ false = refuted (departs_in_place p s t r) (λ holds. true≢false (sym (lt-ltb t (length p.trips) (place_within p s t r holds)) ∙ isnt)) in
        (λ i. cond (none s i) 1 0 + tally-nothing (λ x. departs_of p x.stop t r) xs (λ x. none x.stop) i) ∙ ap (λ b. cond b 1 0) (sym also)
  ]
    where
      refuted : (b : Bool) → (b ≡ true → ⊥) → b ≡ false
      refuted true never = absurd (never refl)
      refuted false never = refl

-- all of them, by number
pub by-number : (p : Parts) (s : ℕ) (rows : List DepartureRow) → AreOfPlace p s rows → ArePlaceRows p s 0 (by_number rows)
by-number p s rows told = record {
  in_order = ascending rows (λ t r. most (departs_in_place p s t r) (tally (is_this_row t r) rows) (told t r));
  all = λ t r.
      any-tally (is_this_row t r) (by_number rows) (departs_in_place p s t r) (tally-permutation (is_this_row t r) rows (by_number rows) (numbered rows) ∙ told t r)
      ∙ ap (λ b. b && departs_in_place p s t r) (sym (le-leb 0 t (omega arith)));
}
  where
    most : (b : Bool) (n : ℕ) → n ≡ cond b 1 0 → n ≤ 1
    most true n is = omega (arith, is)
    most false n is = omega (arith, is)

-- ---- cut by trip

pub trips_rise : (xs : List DepartureRow) → Ascends number_cmp xs → (i j : ℕ) (d : DepartureRow) → i < j → j < length xs → (get_or xs i d).trip ≤ (get_or xs j d).trip
trips_rise xs up i j d before within =
    let x = get_or xs i d in
    let y = get_or xs j d in
    first_at_most x.trip y.trip (nat_cmp x.row y.row) (up i j d before within)

-- no trip comes before that of the first
pub first_lowest : (n : ℕ) (xs : List DepartureRow) → Ascends number_cmp xs → All (λ x. first_trip n xs ≤ x.trip) xs
first_lowest n [] up k d within = absurd (omega arith)
first_lowest n (x ∷ xs) up zero d within = omega arith
first_lowest n (x ∷ xs) up (suc k) d within = trips_rise (x ∷ xs) up 0 (suc k) d (omega arith) within

-- and there is one of the first trip
pub first_counted : (n : ℕ) (xs : List DepartureRow) (t : ℕ) → first_trip n xs ≡ t → 0 < length xs → 0 < tally (λ x. x.trip == t) xs
first_counted n [] t is some = absurd (omega arith)
first_counted n (x ∷ xs) t is some = let here : (x.trip == t) ≡ true = ap (λ k. k == t) is ∙ itself t in rw here (omega arith)

-- of a trip's number and a later one
pub other_row : (t v r : ℕ) (x : DepartureRow) → (v == t) ≡ false → (is_this_row v r x && not (x.trip == t)) ≡ is_this_row v r x
other_row t v r x other = elim (cases_Bool (v == x.trip)) [
  | inr apart ↦ rw apart refl
  | inl same ↦
      let not_t : (x.trip == t) ≡ false = ap (λ n. n == t) (sym (eqb-true v x.trip same)) ∙ other in
      rw (not_t, same) (alone (r == x.row))
]
  where
    alone : (b : Bool) → (b && true) ≡ b
    alone true = refl
    alone false = refl

pub own_row : (t r : ℕ) (x : DepartureRow) → (is_this_row t r x && (x.trip == t)) ≡ is_this_row t r x
own_row t r x = elim (cases_Bool (t == x.trip)) [
  | inr apart ↦ rw apart refl
  | inl same ↦
      let is_t : (x.trip == t) ≡ true = ap (λ n. n == t) (sym (eqb-true t x.trip same)) ∙ itself t in
      rw (is_t, same) (alone (r == x.row))
]
  where
    alone : (b : Bool) → (b && true) ≡ b
    alone true = refl
    alone false = refl

pub none_left : (t r : ℕ) (x : DepartureRow) → (is_this_row t r x && not (x.trip == t)) ≡ false
none_left t r x = elim (cases_Bool (t == x.trip)) [
  | inr apart ↦ rw apart refl
  | inl same ↦
      let is_t : (x.trip == t) ≡ true = ap (λ n. n == t) (sym (eqb-true t x.trip same)) ∙ itself t in
      rw is_t (never (is_this_row t r x))
]
  where
    never : (b : Bool) → (b && false) ≡ false
    never true = refl
    never false = refl

module _ (p : Parts) (s t n : ℕ) (xs : List DepartureRow) (are : ArePlaceRows p s t xs) (is : n ≡ tally (λ x. x.trip == t) xs) where
  low : All (λ x. t ≤ x.trip) xs
  low k d within =
      let x = get_or xs k d in
      let there = any_at (is_this_row x.trip x.row) xs k d within (row_itself x) in
      leb-true t x.trip (and_parts (nat_le t x.trip) (departs_in_place p s x.trip x.row) (sym (are.all x.trip x.row) ∙ there)).0
    where
      any_at : (q : DepartureRow → Bool) (ys : List DepartureRow) (j : ℕ) (e : DepartureRow) → j < length ys → q (get_or ys j e) ≡ true → list_any q ys ≡ true
      any_at q [] j e inside holds = absurd (omega arith)
      any_at q (y ∷ ys) zero e inside holds = rw holds refl
      any_at q (y ∷ ys) (suc j) e inside holds = rw (any_at q ys j e (omega arith) holds) (or_true (q y))
        where
          or_true : (b : Bool) → (b || true) ≡ true
          or_true true = refl
          or_true false = refl

  cut : (take n xs ≡ filter (λ x. x.trip == t) xs) × (drop n xs ≡ filter (λ x. not (x.trip == t)) xs)
  cut = subst (λ m. (take m xs ≡ filter (λ x. x.trip == t) xs) × (drop m xs ≡ filter (λ x. not (x.trip == t)) xs)) (sym is) (first_run (λ x. x.trip) xs t (trips_rise xs are.in_order) low)

  pub own_up : Ascends number_cmp (take n xs)
  own_up = subst (Ascends number_cmp) (sym cut.0) (AllPairs-filter (λ x y. number_cmp x y ≡ Less) (λ x. x.trip == t) xs are.in_order)

  pub own_trip : All (λ x. x.trip ≡ t) (take n xs)
  own_trip = subst (All (λ x. x.trip ≡ t)) (sym cut.0) (kept_pass xs)
    where
      kept_pass : (ys : List DepartureRow) → All (λ x. x.trip ≡ t) (filter (λ x. x.trip == t) ys)
      kept_pass [] = λ k d within. absurd (omega arith)
      kept_pass (y ∷ ys) = elim (cases_Bool (y.trip == t)) [
        | inl is ↦ rw is (All-cons (λ x. x.trip ≡ t) y (filter (λ x. x.trip == t) ys) (eqb-true y.trip t is) (kept_pass ys))
        | inr isnt ↦ rw isnt (kept_pass ys)
      ]

  pub own_all : (r : ℕ) → list_any (is_this_row t r) (take n xs) ≡ departs_in_place p s t r
  own_all r =
      ap (list_any (is_this_row t r)) cut.0 ∙ any_kept (is_this_row t r) (λ x. x.trip == t) xs ∙ any_alike (λ x. is_this_row t r x && (x.trip == t)) (is_this_row t r) xs (own_row t r)
      ∙ are.all t r ∙ ap (λ b. b && departs_in_place p s t r) (le-leb t t (omega arith))

  pub left_rows : ArePlaceRows p s (t + 1) (drop n xs)
  left_rows = record {
    in_order = subst (Ascends number_cmp) (sym cut.1) (AllPairs-filter (λ x y. number_cmp x y ≡ Less) (λ x. not (x.trip == t)) xs are.in_order);
    all = λ v r.
        ap (list_any (is_this_row v r)) cut.1 ∙ any_kept (is_this_row v r) (λ x. not (x.trip == t)) xs
        ∙ elim (cases_Bool (v == t)) [
          | inl same ↦
              let here : v ≡ t = eqb-true v t same in
              let past : nat_le (t + 1) v ≡ false = grind (arith, nat_tests) in
              any_silent (λ x. is_this_row v r x && not (x.trip == t)) xs (subst (λ n. (x : DepartureRow) → (is_this_row n r x && not (x.trip == t)) ≡ false) (sym here) (none_left t r))
              ∙ ap (λ b. b && departs_in_place p s v r) (sym past)
          | inr other ↦
              let later : nat_le t v ≡ nat_le (t + 1) v = grind (arith, nat_tests) in
              any_alike (λ x. is_this_row v r x && not (x.trip == t)) (is_this_row v r) xs (λ x. other_row t v r x other) ∙ are.all v r ∙ ap (λ b. b && departs_in_place p s v r) later
        ];
  }
