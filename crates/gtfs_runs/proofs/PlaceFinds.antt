-- What leaves a place, by its departure rows: those of a trip are the stop times that it passes there, and a trip without any
-- adds nothing.
use Rattle.std.proofs.Common.{◌≡◌, ◌≤◌, ◌<◌, ◌+◌, ◌*◌, ◌-◌, ◌++◌, ◌∙◌, ◌&&◌, ◌||◌, ◌==◌, ℕ, zero, suc, Bool, true, false, cond, List, [], ◌∷◌, length, map, filter, get_or, Some, None, nat_lt, nat_le, refl, sym, ap, subst, arith, inl, inr, zero-add}
use Rattle.std.specs.List.{All, AllPairs, enumerate_from, list_any, slice_get}
use Rattle.std.specs.Cmp.{ranked, tied_itself}
use Rattle.std.specs.Ordering.{nat_cmp, ordering_then}
use Rattle.std.specs.declared.cmp.Ordering.TheVariants.{Less, Equal}
use Rattle.std.proofs.lemmas.Cmp.{nat_cmp_total}
use Rattle.std.proofs.lemmas.Bool.{and_parts, cases_Bool, eqb-true, true≢false, le-leb, leb-true, lt-ltb, ltb-true, ltb-false, ne_eqb}
use Rattle.std.proofs.lemmas.Bool.Decides.{nat_tests}
use Rattle.std.proofs.lemmas.List.{append-nil}
use Rattle.std.proofs.lemmas.List.Elements.{All-head, All-map, All-tail}
use Rattle.std.proofs.lemmas.List.Sorted.{IsPermutation-refl}
use Rattle.std.proofs.lemmas.Option.{same_Some, slice_get-get_or}
use Rattle.std.proofs.lemmas.Simd.{map-map}
use Rattle.gtfs_schema.specs.FieldValues.{if_there}
use Rattle.gtfs_field.proofs.ListFacts.{any_mapped, some_of}
use Rattle.gtfs_field.proofs.NumberFacts.{number_itself as itself}
use Rattle.gtfs_rows.specs.TransferOrder.{Ascends}
use Rattle.gtfs_rows.specs.Trips.{frequencies_by_trip, stop_rows_by_trip}
use Rattle.gtfs_rows.specs.RowsInMemory.{IsSoundParts}
use Rattle.gtfs_rows.specs.declared.frequency.Frequency.{Frequency}
use Rattle.gtfs_rows.specs.declared.parts.Parts.{Parts}
use Rattle.gtfs_stop_times.specs.declared.stop_row.StopRow.{StopRow}
use Rattle.gtfs_rows.specs.declared.trip.Trip.{Trip}
use Rattle.gtfs_rows.proofs.SameElements.{pairs-head, pairs-map, pairs-tail}
use Rattle.gtfs_table.proofs.PartFacts.{length-parts}
use Rattle.gtfs_runs.specs.Tallies.{tally}
use Rattle.gtfs_runs.specs.StopIndex.{is_this_row}
use Rattle.gtfs_runs.specs.declared.event.Event.{Event}
use Rattle.gtfs_runs.specs.declared.departure_row.DepartureRow.{DepartureRow}
use Rattle.gtfs_runs.specs.declared.stop_lanes.passing.Passing.{Passing}
use Rattle.gtfs_runs.specs.steps.Courses.{Stopping}
use Rattle.gtfs_stop_times.specs.StopLists.{stops_in}
use Rattle.gtfs_runs.specs.steps.FoundEvents.{AreTold, stopping_at, times_passed_in}
use Rattle.gtfs_runs.specs.steps.Passings.{ArePassings, first_left, leaves, passing_at, passings_of}
use Rattle.gtfs_runs.specs.steps.PlaceRows.{AreOfPlace, ArePlaceRows, IsStopTime, departs_in_place, first_trip, number_cmp, passing_of}
use Rattle.gtfs_runs.proofs.AtStopFacts.{asked_within}
use Rattle.gtfs_runs.proofs.PlaceRows.{first_lowest, in_place_of, place_within}
use Rattle.gtfs_runs.proofs.Tallies.{no_trips, one_at}
use Rattle.gtfs_runs.proofs.TripFinds.{listed_told, periods_told}

-- ---- elements with their positions, by which they are those that pass

none_equal : {X : Type 0} (a : ℕ) (ys : List (ℕ × X)) → All (λ y. a < y.0) ys → list_any (λ y. a == y.0) ys ≡ false
none_equal a [] above = refl
none_equal a (y ∷ ys) above =
    let less = All-head (λ z. a < z.0) y ys above in
    let other : (a == y.0) ≡ false = ne_eqb a y.0 (λ same. omega (arith, less, same)) in
    rw other (none_equal a ys (All-tail (λ z. a < z.0) y ys above))

further : (a r : ℕ) → a + suc r ≡ a + 1 + r
further a r = omega arith

-- what is asked of the positions after the first
asked_later : {X : Type 0} (q : ℕ × X → Bool) (a : ℕ) (x : X) (xs : List X) (ys : List (ℕ × X)) → ((r : ℕ) → list_any (λ y. a + r == y.0) ys ≡ if_there (slice_get (x ∷ xs) r) (λ z. q (a + r, z)))
    → (r : ℕ) → list_any (λ y. a + 1 + r == y.0) ys ≡ if_there (slice_get xs r) (λ z. q (a + 1 + r, z))
asked_later q a x xs ys same r =
    let e = further a r in
    ap (λ n. list_any (λ y. n == y.0) ys) (sym e) ∙ same (suc r) ∙ ap (λ n. if_there (slice_get xs r) (λ z. q (n, z))) e

-- the first is asked for
asked_first : {X : Type 0} (q : ℕ × X → Bool) (a : ℕ) (x : X) (xs : List X) (ys : List (ℕ × X)) → ((r : ℕ) → list_any (λ y. a + r == y.0) ys ≡ if_there (slice_get (x ∷ xs) r) (λ z. q (a + r, z)))
    → list_any (λ y. a == y.0) ys ≡ q (a, x)
asked_first q a x xs ys same =
    let e : a + 0 ≡ a = omega arith in
    ap (λ n. list_any (λ y. n == y.0) ys) (sym e) ∙ same 0 ∙ ap (λ n. q (n, x)) e

-- elements after the first of a list
later_at : {X : Type 0} (a : ℕ) (x : X) (xs : List X) (ys : List (ℕ × X)) → All (λ y. a < y.0) ys → All (λ y. slice_get (x ∷ xs) (y.0 - a) ≡ Some y.1) ys
    → All (λ y. slice_get xs (y.0 - (a + 1)) ≡ Some y.1) ys
later_at a x xs ys above at k d within =
    let y = get_or ys k d in
    let e : y.0 - a ≡ suc (y.0 - (a + 1)) = let less = above k d within in omega (arith, less) in
    sym (ap (slice_get (x ∷ xs)) e) ∙ at k d within

positions : {X : Type 0} (q : ℕ × X → Bool) (a : ℕ) (xs : List X) (ys : List (ℕ × X)) → AllPairs (λ y z. y.0 < z.0) ys → All (λ y. a ≤ y.0) ys
    → All (λ y. slice_get xs (y.0 - a) ≡ Some y.1) ys → ((r : ℕ) → list_any (λ y. a + r == y.0) ys ≡ if_there (slice_get xs r) (λ z. q (a + r, z)))
    → ys ≡ filter q (enumerate_from a xs)
positions q a [] [] up from at same = refl
positions {X} q a [] (y ∷ ys) up from at same = let here : None ≡ Some y.1 = All-head (λ z. slice_get {X = X} [] (z.0 - a) ≡ Some z.1) y ys at in cc
positions q a (x ∷ xs) [] up from at same =
    rw (sym (asked_first q a x xs [] same)) (positions q (a + 1) xs [] up (λ k d within. absurd (omega arith)) (λ k d within. absurd (omega arith)) (asked_later q a x xs [] same))
positions {X} q a (x ∷ xs) (y ∷ ys) up from at same = elim (cases_Bool (a == y.0)) [
  | inl is ↦
      let first : a ≡ y.0 = eqb-true a y.0 is in
      let none : y.0 - a ≡ 0 = omega (arith, first) in
      let value : x ≡ y.1 = same_Some x y.1 (sym (ap (slice_get (x ∷ xs)) none) ∙ All-head (λ z. slice_get (x ∷ xs) (z.0 - a) ≡ Some z.1) y ys at) in
      let passes : q (a, x) ≡ true = sym (asked_first q a x xs (y ∷ ys) same) ∙ ap (λ b. b || list_any (λ z. a == z.0) ys) is in
      let above : All (λ z. a < z.0) ys = λ k d within. let rise = pairs-head (λ v w. v.0 < w.0) y ys up k d within in omega (arith, first, rise) in
      let later : (r : ℕ) → list_any (λ z. a + 1 + r == z.0) ys ≡ if_there (slice_get xs r) (λ z. q (a + 1 + r, z)) =
      λ r. let other : (a + 1 + r == y.0) ≡ false = ne_eqb (a + 1 + r) y.0 (λ equal. omega (arith, equal, first)) in
      sym (ap (λ b. b || list_any (λ z. a + 1 + r == z.0) ys) other) ∙ asked_later q a x xs (y ∷ ys) same r in
      let rest = positions q (a + 1) xs ys (pairs-tail (λ v w. v.0 < w.0) y ys up) (λ k d within. let less = above k d within in omega (arith, less))
      (later_at a x xs ys above (All-tail (λ z. slice_get (x ∷ xs) (z.0 - a) ≡ Some z.1) y ys at)) later in
      let head : ◌≡◌ {A = ℕ × X} y (a, x) = λ i. (sym first i, sym value i) in
      rw passes (λ i. head i ∷ rest i)
  | inr isnt ↦
      let low = All-head (λ z. a ≤ z.0) y ys from in
      let less : a < y.0 = elim (cases_Bool (nat_lt a y.0)) [
        | inl lower ↦ ltb-true a y.0 lower
        | inr not_lower ↦ let equal : a ≡ y.0 = omega (arith, low, ltb-false a y.0 not_lower) in absurd (true≢false (sym (ap (λ n. a == n) (sym equal) ∙ itself a) ∙ isnt))
      ] in
      let above : All (λ z. a < z.0) (y ∷ ys) = later_all y ys less (pairs-head (λ v w. v.0 < w.0) y ys up) in
      let fails : q (a, x) ≡ false = sym (asked_first q a x xs (y ∷ ys) same) ∙ none_equal a (y ∷ ys) above in
      rw fails (positions q (a + 1) xs (y ∷ ys) up (λ k d within. let more = above k d within in omega (arith, more)) (later_at a x xs (y ∷ ys) above at) (asked_later q a x xs (y ∷ ys) same))
]
  where
    later_all : (v : ℕ × X) (vs : List (ℕ × X)) → a < v.0 → All (λ z. v.0 < z.0) vs → All (λ z. a < z.0) (v ∷ vs)
    later_all v vs less rise zero d within = less
    later_all v vs less rise (suc k) d within = let more = rise k d (omega arith) in omega (arith, less, more)

-- ---- the departure rows of one trip

any_at : {X : Type 0} (q : X → Bool) (ys : List X) (j : ℕ) (e : X) → j < length ys → q (get_or ys j e) ≡ true → list_any q ys ≡ true
any_at q [] j e inside holds = absurd (omega arith)
any_at q (y ∷ ys) zero e inside holds = rw holds refl
any_at q (y ∷ ys) (suc j) e inside holds = rw (any_at q ys j e (omega arith) holds) (or_true (q y))
  where
    or_true : (b : Bool) → (b || true) ≡ true
    or_true true = refl
    or_true false = refl

any_of : {X : Type 0} (q r : X → Bool) (ys : List X) → All (λ y. q y ≡ r y) ys → list_any q ys ≡ list_any r ys
any_of q r [] same = refl
any_of q r (y ∷ ys) same = λ i. All-head (λ z. q z ≡ r z) y ys same i || any_of q r ys (All-tail (λ z. q z ≡ r z) y ys same) i

rows_rise : (x y : DepartureRow) → x.trip ≡ y.trip → number_cmp x y ≡ Less → x.row < y.row
rows_rise x y same less =
    let tie : nat_cmp x.trip y.trip ≡ Equal = (λ i. nat_cmp (same i) y.trip) ∙ tied_itself nat_cmp_total y.trip in
    ranked x.row y.row Less (sym (sym (ap (λ o. ordering_then o (nat_cmp x.row y.row)) tie) ∙ less))

module _ (p : Parts) (sound : IsSoundParts p) (s t : ℕ) (u : Trip) (rows : List StopRow) (fs : List Frequency) (at_trip : slice_get p.trips t ≡ Some u)
    (at_rows : slice_get (stop_rows_by_trip p) t ≡ Some rows) (at_periods : slice_get (frequencies_by_trip p) t ≡ Some fs) where
  -- it passes the place at none
  no_passings : ((r : ℕ) → departs_in_place p s t r ≡ false) → [] ≡ passings_of p s u rows fs
  no_passings none =
      ap (map (passing_at (first_left rows)))
      (positions (leaves p s u rows fs) 0 rows [] (λ i j d before within. absurd (omega arith)) (λ k d within. absurd (omega arith)) (λ k d within. absurd (omega arith))
      (λ r. sym (ap (λ n. if_there (slice_get rows r) (λ x. leaves p s u rows fs (n, x))) (zero-add r) ∙ sym (in_place_of p sound s t u rows fs at_trip at_rows at_periods r) ∙ none r)))

  module _ (own : List DepartureRow) (of_trip : All (λ x. x.trip ≡ t) own) (all : (r : ℕ) → list_any (is_this_row t r) own ≡ departs_in_place p s t r) where
    own_within : All (λ x. x.row < length rows) own
    own_within k d within =
        let x = get_or own k d in
        let is : is_this_row t x.row x ≡ true = subst (λ n. is_this_row n x.row x ≡ true) (of_trip k d within) (itself_row x) in
        let there = any_at (is_this_row t x.row) own k d within is in
        asked_within true (λ z. leaves p s u rows fs (x.row, z)) rows x.row (sym (in_place_of p sound s t u rows fs at_trip at_rows at_periods x.row) ∙ sym (all x.row) ∙ there)
      where
        itself_row : (x : DepartureRow) → is_this_row x.trip x.row x ≡ true
        itself_row x = rw (itself x.trip, itself x.row) refl

    own_passings : (d : StopRow) → Ascends number_cmp own → map (passing_of rows d) own ≡ passings_of p s u rows fs
    own_passings d up =
        let f : DepartureRow → ℕ × StopRow = λ x. (x.row, get_or rows x.row d) in
        let q = leaves p s u rows fs in
        sym (map-map {B = ℕ × StopRow} (passing_at (first_left rows)) f own)
        ∙ ap (map (passing_at (first_left rows)))
        (positions q 0 rows (map f own)
        (pairs-map f (λ v w. v.0 < w.0) own (λ i j e before within.
        rows_rise (get_or own i e) (get_or own j e) (of_trip i e (omega (arith, before, within)) ∙ sym (of_trip j e within)) (up i j e before within)))
        (λ k e within. omega arith)
        (All-map (λ v. slice_get rows (v.0 - 0) ≡ Some v.1) f own (λ k e within.
        let x = get_or own k e in
        ap (slice_get rows) (nothing x.row) ∙ slice_get-get_or rows x.row d (own_within k e within)))
        (λ r. any_mapped (λ v. 0 + r == v.0) f own
        ∙ any_of (λ x. 0 + r == x.row) (is_this_row t r) own (λ k e within. own_row (get_or own k e) r (of_trip k e within))
        ∙ all r ∙ in_place_of p sound s t u rows fs at_trip at_rows at_periods r ∙ ap (λ n. if_there (slice_get rows r) (λ x. q (n, x))) (sym (zero-add r))))
      where
        nothing : (n : ℕ) → n - 0 ≡ n
        nothing n = omega arith

        own_row : (x : DepartureRow) (r : ℕ) → x.trip ≡ t → (0 + r == x.row) ≡ is_this_row t r x
        own_row x r is = ap (λ n. n == x.row) (zero-add r) ∙ ap (λ b. b && (r == x.row)) (sym (ap (λ n. t == n) is ∙ itself t))

none_passed : (t : ℕ) (e : Event) (fs : List Frequency) → times_passed_in t e [] fs ≡ 0
none_passed t e [] = refl
none_passed t e (f ∷ fs) = ap (λ n. 0 + n) (none_passed t e fs)

module _ (p : Parts) (sound : IsSoundParts p) (s : ℕ) where
  module _ (t : ℕ) (within : t < length p.trips) where
    abbrev u : Trip
    u = get_or p.trips t (some_of p.trips t within)

    abbrev rows : List StopRow
    rows = get_or (stop_rows_by_trip p) t []

    abbrev fs : List Frequency
    fs = get_or (frequencies_by_trip p) t []

    at_trip : slice_get p.trips t ≡ Some u
    at_trip = slice_get-get_or p.trips t (some_of p.trips t within) within

    at_rows : slice_get (stop_rows_by_trip p) t ≡ Some rows
    at_rows =
        let here : t < length (stop_rows_by_trip p) = omega (arith, within, length-parts p.stop_times.starts p.stop_times.rows, sound.stop_rows.0) in
        slice_get-get_or (stop_rows_by_trip p) t [] here

    at_periods : slice_get (frequencies_by_trip p) t ≡ Some fs
    at_periods =
        let here : t < length (frequencies_by_trip p) = omega (arith, within, length-parts p.frequency_starts p.frequencies, sound.frequencies.0) in
        slice_get-get_or (frequencies_by_trip p) t [] here

    -- the stop times of a trip at its departure rows there are all that it passes
    pub are-passings : (own : List DepartureRow) (xs : List Passing) → Ascends number_cmp own → All (λ x. x.trip ≡ t) own → ((r : ℕ) → list_any (is_this_row t r) own ≡ departs_in_place p s t r)
        → ((rs : List StopRow) (d : StopRow) → slice_get (stop_rows_by_trip p) t ≡ Some rs → xs ≡ map (passing_of rs d) own) → 0 < length own → ArePassings p s t xs
    are-passings own xs up of_trip all made some v rs gs at =
        let same : rs ≡ rows = same_Some rs rows (sym at ∙ at_rows) in
        let first : DepartureRow = some_of own 0 some in
        let inside = own_within p sound s t u rows fs at_trip at_rows at_periods own of_trip all 0 first some in
        let d : StopRow = some_of rows (get_or own 0 first).row inside in
        made rs d at ∙ ap (λ l. map (passing_of l d) own) same ∙ own_passings p sound s t u rows fs at_trip at_rows at_periods own of_trip all d up
        ∙ (λ i. passings_of p s u (sym same i) fs)

    pub rows_within : (own : List DepartureRow) → All (λ x. x.trip ≡ t) own → ((r : ℕ) → list_any (is_this_row t r) own ≡ departs_in_place p s t r)
        → (rs : List StopRow) → slice_get (stop_rows_by_trip p) t ≡ Some rs → All (λ x. x.row < length rs) own
    rows_within own of_trip all rs at =
        subst (λ l. All (λ x. x.row < length l) own) (same_Some rows rs (sym at_rows ∙ at)) (own_within p sound s t u rows fs at_trip at_rows at_periods own of_trip all)

    -- a departure row is one of its stop times
    row_within : (r : ℕ) → departs_in_place p s t r ≡ true → r < length rows
    row_within r there = asked_within true (λ z. leaves p s u rows fs (r, z)) rows r (sym (in_place_of p sound s t u rows fs at_trip at_rows at_periods r) ∙ there)

    -- a trip that does not depart there adds nothing
    pub none_more : ((r : ℕ) → departs_in_place p s t r ≡ false) → (listed : List Stopping) (told : ℕ → Event → ℕ) (count : ℕ) → AreTold p s t listed told count → AreTold p s (t + 1) listed told count
    none_more none listed told count was = of_periods fs at_periods
      where
        no_more : (n : ℕ) → n ≡ n + 0
        no_more n = omega arith

        no_product : (n m : ℕ) → n ≡ n + m * 0
        no_product n m = omega arith

        nothing : (b : Bool) → ◌≡◌ {A = ℕ} 0 (cond b 0 0)
        nothing true = refl
        nothing false = refl

        of_periods : (gs : List Frequency) → slice_get (frequencies_by_trip p) t ≡ Some gs → AreTold p s (t + 1) listed told count
        of_periods [] at =
            let no = no_passings p sound s t u rows [] at_trip at_rows at none in
            listed_told p sound s t u rows at_trip at_rows at listed listed told count
            (sym (append-nil listed) ∙ ap (λ l. listed ++ map (stopping_at (stops_in rows) u.service_id.0 t (first_left rows)) l) no) was
        of_periods (g ∷ gs) at =
            let no = no_passings p sound s t u rows (g ∷ gs) at_trip at_rows at none in
            periods_told p sound s t u rows (g ∷ gs) at_trip at_rows at (omega arith) listed told told count count
            (λ k e. no_more (told k e)
            ∙ ap (λ n. told k e + n) (nothing (u.service_id.0 == k) ∙ ap (λ n. cond (u.service_id.0 == k) n 0) (sym (none_passed t e (g ∷ gs)) ∙ ap (λ l. times_passed_in t e l (g ∷ gs)) no)))
            (no_product count (length (g ∷ gs)) ∙ ap (λ l. count + length (g ∷ gs) * length l) no) was

  -- ---- from trip to trip

  none_until : (k n : ℕ) → k + n ≤ length p.trips → ((t : ℕ) → k ≤ t → t < k + n → (r : ℕ) → departs_in_place p s t r ≡ false)
      → (listed : List Stopping) (told : ℕ → Event → ℕ) (count : ℕ) → AreTold p s k listed told count → AreTold p s (k + n) listed told count
  none_until k zero upto none listed told count was = let same : k ≡ k + 0 = omega arith in subst (λ m. AreTold p s m listed told count) same was
  none_until k (suc n) upto none listed told count was =
      let next : k + n + 1 ≡ k + suc n = omega arith in
      subst (λ m. AreTold p s m listed told count) next
      (none_more (k + n) (omega (arith, upto)) (none (k + n) (omega arith) (omega arith)) listed told count
      (none_until k n (omega (arith, upto)) (λ t from below. none t from (omega (arith, below))) listed told count was))

  module _ (k : ℕ) (ys : List DepartureRow) (are : ArePlaceRows p s k ys) (upto : k ≤ length p.trips) where
    abbrev first : ℕ
    first = first_trip (length p.trips) ys

    -- the first of these trips
    bounds : (zs : List DepartureRow) → ArePlaceRows p s k zs → (k ≤ first_trip (length p.trips) zs) × (first_trip (length p.trips) zs ≤ length p.trips)
    bounds [] all = (upto, omega arith)
    bounds (z ∷ zs) all =
        let is : is_this_row z.trip z.row z ≡ true = rw (itself z.trip, itself z.row) refl in
        let both = and_parts (nat_le k z.trip) (departs_in_place p s z.trip z.row) (sym (all.all z.trip z.row) ∙ ap (λ b. b || list_any (is_this_row z.trip z.row) zs) is) in
        let inside = place_within p s z.trip z.row both.1 in
        (leb-true k z.trip both.0, omega (arith, inside))

    -- none of a trip before it
    none_lower : (zs : List DepartureRow) (t r : ℕ) → All (λ x. t < x.trip) zs → list_any (is_this_row t r) zs ≡ false
    none_lower [] t r above = refl
    none_lower (z ∷ zs) t r above =
        let less = All-head (λ x. t < x.trip) z zs above in
        let other : (t == z.trip) ≡ false = ne_eqb t z.trip (λ same. omega (arith, less, same)) in
        rw other (none_lower zs t r (All-tail (λ x. t < x.trip) z zs above))

    silent : (t r : ℕ) → t < first → list_any (is_this_row t r) ys ≡ false
    silent t r below = none_lower ys t r (λ j d within. let low = first_lowest (length p.trips) ys are.in_order j d within in omega (arith, below, low))

    pub raised : (listed : List Stopping) (told : ℕ → Event → ℕ) (count : ℕ) → AreTold p s k listed told count → AreTold p s (first_trip (length p.trips) ys) listed told count
    raised listed told count was =
        let b = bounds ys are in
        let n = first - k in
        let sum : k + n ≡ first = omega (arith, b.0) in
        subst (λ m. AreTold p s m listed told count) sum
        (none_until k n (omega (arith, b.0, b.1)) (λ t from below r. of_trip t r from (omega (arith, below, b.0))) listed told count was)
      where
        of_trip : (t r : ℕ) → k ≤ t → t < first → departs_in_place p s t r ≡ false
        of_trip t r from below = ap (λ b. b && departs_in_place p s t r) (sym (le-leb k t from)) ∙ sym (are.all t r) ∙ silent t r below

    pub rows_raised : ArePlaceRows p s (first_trip (length p.trips) ys) ys
    rows_raised = record {
      in_order = are.in_order;
      all = λ t r. elim (cases_Bool (nat_le first t)) [
        | inl is ↦
            let low = (bounds ys are).0 in
            let both : nat_le k t ≡ nat_le first t = le-leb k t (let from = leb-true first t is in omega (arith, from, low)) ∙ sym is in
            are.all t r ∙ ap (λ b. b && departs_in_place p s t r) both
        | inr isnt ↦
            let below : t < first = grind (arith, nat_tests) in
            silent t r below ∙ ap (λ b. b && departs_in_place p s t r) (sym isnt)
      ];
    }

-- ---- the steps of the code

pub nothing_told : (p : Parts) (s : ℕ) → AreTold p s 0 [] (λ k e. 0) 0
nothing_told p s = record {
  exact = λ k e within. no_trips e.trip.0 _;
  known = λ k d within. absurd (omega arith);
  own = λ k d within. absurd (omega arith);
  courses = IsPermutation-refl [];
  counted = refl;
}

-- the trip of the first is one of the feed
pub first_within : (p : Parts) (s t : ℕ) (xs : List DepartureRow) → ArePlaceRows p s t xs → first_trip (length p.trips) xs ≡ t → 0 < length xs → t < length p.trips
first_within p s t [] are is some = absurd (omega arith)
first_within p s t (x ∷ xs) are is some =
    let here : is_this_row x.trip x.row x ≡ true = rw (itself x.trip, itself x.row) refl in
    let both = and_parts (nat_le t x.trip) (departs_in_place p s x.trip x.row) (sym (are.all x.trip x.row) ∙ ap (λ b. b || list_any (is_this_row x.trip x.row) xs) here) in
    let inside = place_within p s x.trip x.row both.1 in
    omega (arith, inside, is)

-- they are stop times of trips
pub stop_times_there : (p : Parts) → IsSoundParts p → (s : ℕ) (xs : List DepartureRow) → AreOfPlace p s xs → All (IsStopTime p) xs
stop_times_there p sound s xs of j d below =
    let x = get_or xs j d in
    let here : is_this_row x.trip x.row x ≡ true = rw (itself x.trip, itself x.row) refl in
    let there = counted_one (departs_in_place p s x.trip x.row) (tally (is_this_row x.trip x.row) xs) (of x.trip x.row) (one_at (is_this_row x.trip x.row) xs j d below here) in
    let inside = place_within p s x.trip x.row there in
    ap (λ o. if_there o (λ rs. nat_lt x.row (length rs))) (at_rows p sound s x.trip inside)
    ∙ lt-ltb x.row (length (get_or (stop_rows_by_trip p) x.trip [])) (row_within p sound s x.trip inside x.row there)
  where
    counted_one : (b : Bool) (n : ℕ) → n ≡ cond b 1 0 → 1 ≤ n → b ≡ true
    counted_one true n is some = refl
    counted_one false n is some = absurd (omega (arith, is, some))
