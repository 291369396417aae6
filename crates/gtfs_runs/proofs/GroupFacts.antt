-- The trips of a feed by their groups: how they are made, and that the numbers of their groups compare like the groups.
use Rattle.std.proofs.Common.{◌≡◌, ◌≤◌, ◌<◌, ◌+◌, ◌-◌, ◌++◌, ◌∙◌, ◌==◌, ◌&&◌, ℕ, zero, suc, Bool, true, false, not, cond, List, [], ◌∷◌, Option, None, Some, length, map, get_or, nat_lt, refl, sym, ap, subst, arith, inl, inr, zero-add, add-one}
use Rattle.std.specs.Prelude.{option_map, unwrap_or}
use Rattle.std.specs.List.{All, range_with_len, slice_get}
use Rattle.std.specs.List.Sorted.{IsPermutation, IsSorted}
use Rattle.std.specs.Cmp.{tied_itself}
use Rattle.std.specs.declared.cmp.Ordering.{Ordering}
use Rattle.std.specs.declared.cmp.Ordering.TheVariants.{Less, Equal, Greater}
use Rattle.std.specs.Ordering.{is_eq, is_lt, nat_cmp, ordering_reverse}
use Rattle.std.proofs.Math.ListN.{get_or-map as mapped}
use Rattle.std.proofs.Math.Seq.{get_or-append_seam}
use Rattle.std.proofs.lemmas.Bool.Decides.{nat_tests}
use Rattle.std.proofs.lemmas.Bool.{cases_Bool, eqb-true, ltb-false, ltb-true, true≢false}
use Rattle.std.proofs.lemmas.List.{get_or_append_left, get_or_default}
use Rattle.std.proofs.lemmas.List.Elements.{All-nil, All-push}
use Rattle.std.proofs.lemmas.List.FromFn.{get_or-range_with_len, length-range_with_len}
use Rattle.std.proofs.lemmas.List.Sorted.{All-permutation, ranks_by, sorted_far}
use Rattle.std.proofs.lemmas.Option.{get_or_from_slice_get, slice_get_within}
use Rattle.gtfs_field.proofs.NumberFacts.{number_itself as itself}
use Rattle.gtfs_field.proofs.OrderingFacts.{less as is_less}
use Rattle.gtfs_schema.specs.FieldValues.{if_there}
use Rattle.gtfs_rows.specs.Trips.{frequencies_by_trip, stop_rows_by_trip}
use Rattle.gtfs_rows.specs.RowsInMemory.{IsSoundParts, content_of_parts}
use Rattle.gtfs_rows.specs.declared.parts.Parts.{Parts}
use Rattle.gtfs_stop_times.specs.declared.stop_row.StopRow.{StopRow}
use Rattle.gtfs_rows.specs.declared.trip.Trip.{Trip}
use Rattle.gtfs_runs.specs.Tallies.{tally}
use Rattle.gtfs_runs.specs.Lanes.{has_periods}
use Rattle.gtfs_runs.specs.declared.departure_row.DepartureRow.{DepartureRow}
use Rattle.gtfs_runs.specs.declared.stop_index.indexed_trips.IndexedTrip.{IndexedTrip}
use Rattle.gtfs_runs.specs.declared.stop_lanes.listed.ListedEvent.{ListedEvent}
use Rattle.gtfs_runs.specs.steps.Courses.{IsListed, stopping_of}
use Rattle.gtfs_runs.specs.steps.TripGroups.{AreOfTrips, Group, GroupedTripValue, below, group_cmp, group_of, lower_trips, trip_group}
use Rattle.gtfs_stop_times.specs.StopLists.{stops_in}
use Rattle.gtfs_runs.specs.steps.CourseNumbers.{AreNumbered}
use Rattle.gtfs_runs.specs.steps.Passings.{first_left}
use Rattle.gtfs_runs.specs.steps.IndexedTrips.{AreIndexedTrips, IsIndexedTrip, IsOfRank, IsRanked, group_number}
use Rattle.gtfs_runs.proofs.Chunks.{all_mapped}
use Rattle.gtfs_runs.proofs.ContentEvents.{past_trips}
use Rattle.gtfs_runs.proofs.Numbers.{groups_antisymmetric, groups_total}
use Rattle.gtfs_runs.proofs.Ranks.{parted_tally, ranks_compare}
use Rattle.gtfs_runs.proofs.Tallies.{one_at, one_more_below, tally-permutation, tally-push}

-- the group of a trip by its row and its stop times
pub group_is : (p : Parts) (t : ℕ) (u : Trip) (rs : List StopRow) → slice_get p.trips t ≡ Some u → slice_get (stop_rows_by_trip p) t ≡ Some rs
    → ◌≡◌ {A = Group} (u.service_id.0, stops_in rs) (trip_group p t)
group_is p t u rs at_trip at_rows =
    λ i. (unwrap_or (option_map (λ v. v.service_id.0) (sym at_trip i)) 0, stops_in (sym (get_or_from_slice_get (stop_rows_by_trip p) t rs [] at_rows) i))

-- ---- all trips

range_push : (a n : ℕ) → range_with_len a (n + 1) ≡ range_with_len a n ++ (a + n) ∷ []
range_push a n = rw add-one (next a n)
  where
    next : (b m : ℕ) → range_with_len b (suc m) ≡ range_with_len b m ++ (b + m) ∷ []
    next b zero = let same : b ≡ b + 0 = omega arith in ap (λ k. k ∷ []) same
    next b (suc m) = let same : b + 1 + m ≡ b + suc m = omega arith in ap (λ l. b ∷ l) (next (b + 1) m ∙ ap (λ k. range_with_len (b + 1) m ++ k ∷ []) same)

pub one_trip_more : (p : Parts) (n : ℕ) (xs new : List GroupedTripValue) (x : GroupedTripValue) → x.trip.0 ≡ n → group_of x ≡ trip_group p n → x.start ≡ first_left (get_or (stop_rows_by_trip p) n [])
    → new ≡ xs ++ x ∷ [] → AreOfTrips p n xs → AreOfTrips p (n + 1) new
one_trip_more p n xs new x is group start pushed are = record {
  once = λ t.
      ap (tally (λ y. t == y.trip.0)) pushed ∙ tally-push (λ y. t == y.trip.0) xs x ∙ ap (λ m. tally (λ y. t == y.trip.0) xs + cond (t == m) 1 0) is
      ∙ ap (λ m. m + cond (t == n) 1 0) (are.once t) ∙ next t;
  groups = subst (All (λ y. group_of y ≡ trip_group p y.trip.0)) (sym pushed)
      (All-push (λ y. group_of y ≡ trip_group p y.trip.0) xs x are.groups (group ∙ ap (trip_group p) (sym is)));
  starts = subst (All (λ y. y.start ≡ first_left (get_or (stop_rows_by_trip p) y.trip.0 []))) (sym pushed)
      (All-push (λ y. y.start ≡ first_left (get_or (stop_rows_by_trip p) y.trip.0 [])) xs x are.starts (start ∙ ap (λ m. first_left (get_or (stop_rows_by_trip p) m [])) (sym is)));
  lower = λ g.
      ap (tally (λ y. is_lt (group_cmp (group_of y) g))) pushed ∙ tally-push (λ y. is_lt (group_cmp (group_of y) g)) xs x
      ∙ (λ i. are.lower g i + cond (is_lt (group_cmp (group i) g)) 1 0)
      ∙ sym (ap (tally (λ t. is_lt (group_cmp (trip_group p t) g))) (range_push 0 n ∙ ap (λ m. range_with_len 0 n ++ m ∷ []) (zero-add n)) ∙ tally-push (λ t. is_lt (group_cmp (trip_group p t) g)) (range_with_len 0 n) n);
}
  where
    and_true : (b : Bool) → ◌≡◌ {A = ℕ} (cond b 1 0) (cond (b && true) 1 0)
    and_true true = refl
    and_true false = refl

    next : (t : ℕ) → cond (nat_lt t n) 1 0 + cond (t == n) 1 0 ≡ cond (nat_lt t (n + 1)) 1 0
    next t = (λ i. and_true (nat_lt t n) i + and_true (t == n) i) ∙ one_more_below t n true ∙ sym (and_true (nat_lt t (n + 1)))

pub none_of_trips : (p : Parts) → AreOfTrips p 0 []
none_of_trips p = record {
  once = λ t. let none : nat_lt t 0 ≡ false = grind (arith, nat_tests) in rw none refl;
  groups = All-nil (λ x. group_of x ≡ trip_group p x.trip.0);
  starts = All-nil (λ x. x.start ≡ first_left (get_or (stop_rows_by_trip p) x.trip.0 []));
  lower = λ g. refl;
}

-- the same in another order
pub trips_moved : (p : Parts) (n : ℕ) (xs ys : List GroupedTripValue) → IsPermutation xs ys → AreOfTrips p n xs → AreOfTrips p n ys
trips_moved p n xs ys same are = record {
  once = λ t. tally-permutation (λ x. t == x.trip.0) xs ys same ∙ are.once t;
  groups = All-permutation (λ x. group_of x ≡ trip_group p x.trip.0) xs ys same are.groups;
  starts = All-permutation (λ x. x.start ≡ first_left (get_or (stop_rows_by_trip p) x.trip.0 [])) xs ys same are.starts;
  lower = λ g. tally-permutation (λ x. is_lt (group_cmp (group_of x) g)) xs ys same ∙ are.lower g;
}

-- a place where a test passes, of a list in which one passes
pub found_at : {X : Type 0} (q : X → Bool) (xs : List X) (R : Type 0) → 1 ≤ tally q xs → ((i : ℕ) → i < length xs → ((d : X) → q (get_or xs i d) ≡ true) → R) → R
found_at q [] R some take = absurd (omega (arith, some))
found_at q (x ∷ xs) R some take = elim (cases_Bool (q x)) [
  | inl here ↦ take 0 (omega arith) (λ d. here)
  | inr other ↦
      let none : ◌≡◌ {A = ℕ} (cond (q x) 1 0) 0 = ap (λ b. cond b 1 0) other in
      found_at q xs R (omega (arith, some, none)) (λ i within holds. take (suc i) (omega (arith, within)) holds)
]

-- ---- numbers of groups

-- a trip of a higher group than the one before it has a higher group than all before it
pub higher_than : (xs : List GroupedTripValue) (n : ℕ) → IsSorted (λ x y. group_cmp (group_of x) (group_of y)) xs → n < length xs
    → ((d : GroupedTripValue) → is_lt (group_cmp (group_of (get_or xs (n - 1) d)) (group_of (get_or xs n d))) ≡ true)
    → (k : ℕ) (d : GroupedTripValue) → k < n → group_cmp (group_of (get_or xs k d)) (group_of (get_or xs n d)) ≡ Less
higher_than xs n up within rises k d before =
    let x = group_of (get_or xs k d) in
    let y = group_of (get_or xs (n - 1) d) in
    let z = group_of (get_or xs n d) in
    let far : is_lt (group_cmp y x) ≡ false = sorted_far (λ a b. is_lt (group_cmp (group_of a) (group_of b))) (ranks_by groups_total group_of) xs up k (n - 1) d (omega (arith, before)) (omega (arith, before, within)) in
    rising x y z (group_cmp x y) refl far (is_less (group_cmp y z) (rises d))
  where
    rising : (x y z : Group) (r : Ordering) → group_cmp x y ≡ r → is_lt (group_cmp y x) ≡ false → group_cmp y z ≡ Less → group_cmp x z ≡ Less
    rising x y z Less is far up = groups_total.trans x y z is up
    rising x y z Equal is far up = groups_total.congr x y z is ∙ up
    rising x y z Greater is far up = absurd (true≢false (sym (ap is_lt (groups_total.antisymm y x ∙ ap ordering_reverse is)) ∙ far))

-- such a trip is the first of its group: so many have a lower one as come before it
pub first_of_group : (xs : List GroupedTripValue) (n : ℕ) → IsSorted (λ x y. group_cmp (group_of x) (group_of y)) xs → n < length xs
    → ((k : ℕ) (d : GroupedTripValue) → k < n → group_cmp (group_of (get_or xs k d)) (group_of (get_or xs n d)) ≡ Less) → (d : GroupedTripValue) → n ≡ below xs (group_of (get_or xs n d))
first_of_group xs n up within lower d =
    let g = group_of (get_or xs n d) in
    let q : GroupedTripValue → Bool = λ x. is_lt (group_cmp (group_of x) g) in
    parted_tally q xs n (omega (arith, within))
    (λ k e from to. ap (λ h. is_lt (group_cmp (group_of (get_or xs k e)) (group_of h))) (get_or_default xs n d e within) ∙ ap is_lt (lower k e to))
    (λ k e from to. ap (λ h. is_lt (group_cmp (group_of (get_or xs k e)) (group_of h))) (get_or_default xs n d e within) ∙ later k e from to)
  where
    later : (k : ℕ) (e : GroupedTripValue) → n ≤ k → k < length xs → is_lt (group_cmp (group_of (get_or xs k e)) (group_of (get_or xs n e))) ≡ false
    later k e from to = elim (cases_Bool (nat_lt n k)) [
      | inl past ↦ sorted_far (λ a b. is_lt (group_cmp (group_of a) (group_of b))) (ranks_by groups_total group_of) xs up n k e (omega (arith, ltb-true n k past)) to
      | inr here ↦
          let same : k ≡ n = omega (arith, ltb-false n k here, from) in
          ap (λ m. is_lt (group_cmp (group_of (get_or xs m e)) (group_of (get_or xs n e)))) same ∙ ap is_lt (tied_itself groups_total (group_of (get_or xs n e)))
    ]

-- two groups of which neither is lower are one
pub neither_lower : (g h : Group) → is_lt (group_cmp g h) ≡ false → is_lt (group_cmp h g) ≡ false → g ≡ h
neither_lower g h first second = by (group_cmp g h) refl
  where
    by : (r : Ordering) → group_cmp g h ≡ r → g ≡ h
    by Less is = absurd (true≢false (sym (ap is_lt is) ∙ first))
    by Equal is = groups_antisymmetric g h is
    by Greater is = absurd (true≢false (sym (ap is_lt (groups_total.antisymm h g ∙ ap ordering_reverse is)) ∙ second))

pub same_as_before : (xs : List GroupedTripValue) (n : ℕ) → IsSorted (λ x y. group_cmp (group_of x) (group_of y)) xs → 0 < n → n < length xs
    → ((d : GroupedTripValue) → is_lt (group_cmp (group_of (get_or xs (n - 1) d)) (group_of (get_or xs n d))) ≡ false) → (d : GroupedTripValue) → group_of (get_or xs (n - 1) d) ≡ group_of (get_or xs n d)
same_as_before xs n up some within low d =
    let g = group_of (get_or xs (n - 1) d) in
    let next : n - 1 + 1 ≡ n = omega (arith, some) in
    neither_lower g (group_of (get_or xs n d)) (low d)
    (ap (λ m. is_lt (group_cmp (group_of (get_or xs m d)) g)) (sym next) ∙ up (n - 1) d (omega arith) (omega (arith, next, within)))

-- what the code has compared
pub order_read : (xs : List GroupedTripValue) (n : ℕ) (a b : GroupedTripValue) → 0 < n → n < length xs → a ≡ get_or xs (n - 1) a → b ≡ get_or xs n b
    → (r : Bool) → is_lt (group_cmp (group_of a) (group_of b)) ≡ r → (d : GroupedTripValue) → is_lt (group_cmp (group_of (get_or xs (n - 1) d)) (group_of (get_or xs n d))) ≡ r
order_read xs n a b some within first last r is d =
    (λ i. is_lt (group_cmp (group_of ((get_or_default xs (n - 1) d a (omega (arith, some, within)) ∙ sym first) i)) (group_of ((get_or_default xs n d b within ∙ sym last) i)))) ∙ is

-- ---- all together

module _ (p : Parts) (sound : IsSoundParts p) (sorted : List GroupedTripValue) (are : AreOfTrips p (length p.trips) sorted) where
  times_there : (t : ℕ) → tally (λ x. t == x.trip.0) sorted ≡ cond (nat_lt t (length p.trips)) 1 0
  times_there = are.once

  pub trips_known : All (λ x. x.trip.0 < length p.trips) sorted
  trips_known k d within =
      let t = (get_or sorted k d).trip.0 in
      let some = one_at (λ x. t == x.trip.0) sorted k d within (itself t) in
      inside t (nat_lt t (length p.trips)) refl (times_there t) some
    where
      inside : (t : ℕ) (b : Bool) → nat_lt t (length p.trips) ≡ b → tally (λ x. t == x.trip.0) sorted ≡ cond b 1 0 → 1 ≤ tally (λ x. t == x.trip.0) sorted → t < length p.trips
      inside t true is count some = ltb-true t (length p.trips) is
      inside t false is count some = absurd (omega (arith, count, some))

  -- the number of its group is that of a trip
  pub numbered : (n : ℕ) (d : GroupedTripValue) → n < length sorted → below sorted (group_of (get_or sorted n d)) ≡ group_number p (get_or sorted n d).trip.0
  numbered n d within = are.lower (group_of (get_or sorted n d)) ∙ ap (lower_trips p (length p.trips)) (are.groups n d within)

-- the stops that it has
pub listed_stops : (p : Parts) (t : ℕ) (lists : List (List ℕ)) (stops : List ℕ) → lists ≡ map stops_in (stop_rows_by_trip p) → slice_get lists t ≡ Some stops → stops ≡ (trip_group p t).1
listed_stops p t lists stops are at =
    sym (get_or_from_slice_get lists t stops [] at) ∙ ap (λ l. get_or l t []) are ∙ mapped stops_in (stop_rows_by_trip p) t []

-- what is kept of a trip that stands nowhere
abbrev pub no_trip : IndexedTrip
no_trip = record { group = 0; service = 0; start = 0; has_frequencies = false }

-- one more trip is indexed
pub one_indexed_more : (p : Parts) (sorted : List GroupedTripValue) (trips new : List IndexedTrip) (n : ℕ) (x : IndexedTrip) → length trips ≡ n → new ≡ trips ++ x ∷ []
    → ((d : GroupedTripValue) → IsIndexedTrip p (get_or sorted n d).trip.0 x)
    → ((k : ℕ) (d : GroupedTripValue) (e : IndexedTrip) → k < n → IsIndexedTrip p (get_or sorted k d).trip.0 (get_or trips k e))
    → (k : ℕ) (d : GroupedTripValue) (e : IndexedTrip) → k < n + 1 → IsIndexedTrip p (get_or sorted k d).trip.0 (get_or new k e)
one_indexed_more p sorted trips new n x size pushed is so_far k d e upto = elim (cases_Bool (nat_lt k n)) [
  | inl low ↦
      let before = ltb-true k n low in
      subst (IsIndexedTrip p (get_or sorted k d).trip.0) (sym (ap (λ l. get_or l k e) pushed ∙ get_or_append_left trips (x ∷ []) e k (omega (arith, before, size)))) (so_far k d e before)
  | inr high ↦
      let last : k ≡ n = omega (arith, ltb-false k n high, upto) in
      let here : get_or new k e ≡ x = ap (λ l. get_or l k e) pushed ∙ ap (λ m. get_or (trips ++ x ∷ []) m e) (last ∙ sym size) ∙ get_or-append_seam trips x [] e in
      subst (λ m. IsIndexedTrip p (get_or sorted m d).trip.0 (get_or new k e)) (sym last) (subst (IsIndexedTrip p (get_or sorted n d).trip.0) (sym here) (is d))
]

-- ---- the events of an index

pub trips_listed : (p q : Parts) (xs : List ListedEvent) → All (IsListed q) (map (stopping_of p) xs) → All (λ x. x.trip < length q.trips) xs
trips_listed p q xs own k d within = known (get_or xs k d).trip (all_mapped (IsListed q) (stopping_of p) xs own k d within).listed
  where
    known : (t : ℕ) → if_there (slice_get (content_of_parts q).trips t) (λ u. not (has_periods u)) ≡ true → t < length q.trips
    known t holds = elim (cases_Bool (nat_lt t (length q.trips))) [
      | inl is ↦ ltb-true t (length q.trips) is
      | inr isnt ↦
          let none : if_there (slice_get (content_of_parts q).trips t) (λ u. not (has_periods u)) ≡ false =
          ap (λ o. if_there o (λ u. not (has_periods u))) (past_trips q q.trips (stop_rows_by_trip q) (frequencies_by_trip q) t (ltb-false t (length q.trips) isnt)) in
          absurd (true≢false (sym holds ∙ none))
    ]

-- the numbers of groups compare like the groups
pub numbers_compare : (p : Parts) (t u : ℕ) → t < length p.trips → u < length p.trips → nat_cmp (group_number p t) (group_number p u) ≡ group_cmp (trip_group p t) (trip_group p u)
numbers_compare p t u first second =
    ranks_compare group_cmp groups_total (trip_group p) (range_with_len 0 (length p.trips)) (trip_group p t) (trip_group p u) groups_antisymmetric (there t first) (there u second)
  where
    there : (n : ℕ) → n < length p.trips → 1 ≤ tally (λ m. is_eq (group_cmp (trip_group p m) (trip_group p n))) (range_with_len 0 (length p.trips))
    there n within =
        let size = length-range_with_len 0 (length p.trips) in
        let here : get_or (range_with_len 0 (length p.trips)) n 0 ≡ n = get_or-range_with_len 0 (length p.trips) n 0 within ∙ zero-add n in
        one_at (λ m. is_eq (group_cmp (trip_group p m) (trip_group p n))) (range_with_len 0 (length p.trips)) n 0 (omega (arith, size, within))
        (ap (λ m. is_eq (group_cmp (trip_group p m) (trip_group p n))) here ∙ ap is_eq (tied_itself groups_total (trip_group p n)))

pub numbers_of : (p : Parts) (xs : List ListedEvent) → All (λ x. x.trip < length p.trips) xs → All (λ x. group_number p x.trip ≡ x.group) xs → AreNumbered p xs
numbers_of p xs known groups i d within j e inside =
    (λ k. nat_cmp (sym (groups i d within) k) (sym (groups j e inside) k))
    ∙ numbers_compare p (get_or xs i d).trip (get_or xs j e).trip (known i d within) (known j e inside)

pub nothing_numbered : (p : Parts) (xs : List ListedEvent) → xs ≡ [] → All (λ x. group_number p x.trip ≡ x.group) xs
nothing_numbered p [] none = λ k d within. absurd (omega arith)
nothing_numbered p (x ∷ xs) none = cc

-- what is kept of the trips in their order is found by the rows that have their ranks
pub ranked : (p : Parts) (sorted : List GroupedTripValue) (trips : List IndexedTrip) → AreIndexedTrips p sorted trips → (x : DepartureRow) → IsOfRank sorted x → IsRanked p trips x
ranked p sorted trips are x is = found (slice_get sorted x.rank) refl is
  where
    found : (o : Option GroupedTripValue) → slice_get sorted x.rank ≡ o → if_there o (λ y. y.trip.0 == x.trip) ≡ true → IsRanked p trips x
    found None at holds = absurd (true≢false (sym holds))
    found (Some y) at holds =
        let within : x.rank < length sorted = slice_get_within sorted x.rank y at in
        let same : (get_or sorted x.rank y).trip.0 ≡ x.trip = ap (λ (z : GroupedTripValue). z.trip.0) (get_or_from_slice_get sorted x.rank y y at) ∙ eqb-true y.trip.0 x.trip holds in
        (omega (arith, within, are.counted), λ e. subst (λ t. IsIndexedTrip p t (get_or trips x.rank e)) same (are.each x.rank y e within))

pub all_ranked : (p : Parts) (sorted : List GroupedTripValue) (trips : List IndexedTrip) → AreIndexedTrips p sorted trips → (rows : List (List DepartureRow)) → All (All (IsOfRank sorted)) rows
    → All (All (IsRanked p trips)) rows
all_ranked p sorted trips are rows all s l inside k x within = ranked p sorted trips are (get_or (get_or rows s l) k x) (all s l inside k x within)
