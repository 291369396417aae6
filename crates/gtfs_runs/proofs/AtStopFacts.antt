-- The departure rows of all stops: what one stop time adds, those of a trip, and their order.
use Rattle.std.proofs.Common.{◌≡◌, ◌≤◌, ◌<◌, ◌+◌, ◌++◌, ◌∙◌, ◌&&◌, ◌==◌, ℕ, zero, suc, Bool, true, false, cond, List, [], ◌∷◌, length, map, get_or, Option, Some, None, nat_lt, refl, set, sym, take, ap, subst, arith, inl, inr, ◌⊎◌}
use Rattle.std.specs.Prelude.{bytes_eq}
use Rattle.std.specs.List.{All, slice_get}
use Rattle.std.specs.Cmp.{IsTotalOrder, ranked, tied_itself}
use Rattle.std.specs.declared.cmp.Ordering.{Ordering}
use Rattle.std.specs.declared.cmp.Ordering.TheVariants.{Less, Equal, Greater}
use Rattle.std.specs.List.Sorted.{IsSorted}
use Rattle.std.specs.Ordering.{is_lt, nat_cmp, ordering_reverse, ordering_then}
use Rattle.std.specs.Cmp.Derive.{both_true}
use Rattle.std.proofs.lemmas.Bool.{and_parts, cases_Bool, eqb-false, eqb-true, false≢true, lt-ltb, ltb-true, ltb-false}
use Rattle.std.proofs.lemmas.Cmp.{nat_cmp_total, on_total, then_total}
use Rattle.std.proofs.lemmas.List.{get_or-map, get_or-set_other, get_or-set_same, get_or-take, get_or_default, length-take-le, map-append, map-set, take_all, take_more}
use Rattle.std.proofs.lemmas.List.Elements.{All-cons, All-nil, All-push, All-set}
use Rattle.std.proofs.lemmas.List.Quantifiers.{all_pairs_push}
use Rattle.std.proofs.lemmas.List.Sorted.{ranks_by, sorted_far}
use Rattle.std.proofs.lemmas.Option.{get_or_from_slice_get, slice_get-get_or, slice_get_within}
use Rattle.gtfs_field.proofs.ListFacts.{some_of}
use Rattle.gtfs_field.proofs.NumberFacts.{number_itself as itself}
use Rattle.gtfs_field.proofs.OrderingFacts.{nat-less, tied_second}
use Rattle.gtfs_schema.specs.FieldValues.{if_there}
use Rattle.gtfs_rows.specs.Rows as content
use Rattle.gtfs_rows.specs.Runs.{is_departure_row}
use Rattle.gtfs_rows.specs.Trips.{frequencies_by_trip, stop_rows_by_trip}
use Rattle.gtfs_rows.specs.RowsInMemory.{IsSoundParts, content_of_parts, stop_ids, stop_row_of, text_of_number, trip_of}
use Rattle.gtfs_rows.specs.declared.frequency.Frequency.{Frequency}
use Rattle.gtfs_rows.specs.declared.parts.Parts.{Parts}
use Rattle.gtfs_stop_times.specs.declared.stop_row.StopRow.{StopRow}
use Rattle.gtfs_rows.specs.declared.trip.Trip.{Trip}
use Rattle.gtfs_rows.proofs.TripsAt.{content_trip}
use Rattle.gtfs_table.proofs.PartFacts.{length-parts}
use Rattle.gtfs_times.proofs.FilledContent.{sound-timed}
use Rattle.gtfs_times.specs.TimedRows.{timed_parts, timed_stop_times}
use Rattle.gtfs_times.specs.declared.times.Times.{Times}
use Rattle.gtfs_runs.specs.Tallies.{tally}
use Rattle.gtfs_rows.specs.TransferOrder.{Ascends}
use Rattle.gtfs_runs.specs.StopIndex.{departure_row_cmp, has_departure_row, is_this_row, index_trip_cmp}
use Rattle.gtfs_runs.specs.steps.TripGroups.{AreOfTrips, GroupedTripValue, group_cmp, grouped_cmp, trip_group}
use Rattle.gtfs_runs.specs.declared.departure_row.DepartureRow.{DepartureRow}
use Rattle.gtfs_runs.specs.steps.AtStops.{StandBefore, at_stop, departs_of, leaves_stop, position_of}
use Rattle.gtfs_runs.specs.steps.NotedRows.{IsNoted, noted_row}
use Rattle.gtfs_runs.specs.steps.Passings.{first_left}
use Rattle.gtfs_runs.proofs.ContentEvents.{past_trips, row_at}
use Rattle.gtfs_runs.proofs.GroupFacts.{found_at}
use Rattle.gtfs_runs.proofs.Numbers.{grouped_total, groups_total}
use Rattle.gtfs_runs.proofs.PlaceFacts.{same_stop}
use Rattle.gtfs_runs.proofs.Pushes.{pushed-more}
use Rattle.gtfs_runs.proofs.Tallies.{kept, one_at, tally-push, two_at}
use Rattle.gtfs_runs.proofs.TimedTrips.{rows_timed, trip_times}

-- ---- one stop time

-- what is asked of the element at a position
pub asked_here : {X : Type 0} (a : Bool) (q : X → Bool) (xs : List X) (n r : ℕ) (d : X) → n < length xs → (a && (r == n) && if_there (slice_get xs r) q) ≡ (a && (r == n) && q (get_or xs n d))
asked_here a q xs n r d within = elim (cases_Bool (r == n)) [
  | inl same ↦ ap (λ o. a && (r == n) && if_there o q) (ap (slice_get xs) (eqb-true r n same) ∙ slice_get-get_or xs n d within)
  | inr other ↦ rw other (never a (if_there (slice_get xs r) q) (q (get_or xs n d)))
]
  where
    never : (c x y : Bool) → (c && false && x) ≡ (c && false && y)
    never true x y = refl
    never false x y = refl

pub alone : (b : Bool) → (b && true) ≡ b
alone true = refl
alone false = refl

pub never : (b : Bool) → (b && false) ≡ false
never true = refl
never false = refl

-- the list of its stop gets one more
pub row_added : (p : Parts) (u : Trip) (rows : List StopRow) (fs : List Frequency) (t k n : ℕ) (d y : StopRow) (old new : List (List DepartureRow)) (x : DepartureRow) → n < length rows
    → is_departure_row (trip_of p u rows fs) (stop_row_of p (get_or rows n d)) ≡ true → x ≡ noted_row t k n y
    → (get_or rows n d).stop_id.0 < length old → new ≡ set old (get_or rows n d).stop_id.0 (at_stop old (get_or rows n d).stop_id.0 ++ x ∷ [])
    → (s v r : ℕ) → tally (is_this_row v r) (at_stop new s)
    ≡ tally (is_this_row v r) (at_stop old s) + cond ((v == t) && (r == n) && if_there (slice_get rows r) (leaves_stop p u rows fs s)) 1 0
row_added p u rows fs t k n d y old new x within departs is known pushed s v r =
    let stop = (get_or rows n d).stop_id.0 in
    let asked : ((v == t) && (r == n) && (stop == s)) ≡ ((v == t) && (r == n) && if_there (slice_get rows r) (leaves_stop p u rows fs s)) =
    ap (λ b. (v == t) && (r == n) && (b && (stop == s))) (sym departs) ∙ sym (asked_here (v == t) (leaves_stop p u rows fs s) rows n r d within) in
    ap (λ l. tally (is_this_row v r) (at_stop l s)) pushed
    ∙ here stop known (cases_Bool (stop == s))
    ∙ ap (λ b. tally (is_this_row v r) (at_stop old s) + cond b 1 0) asked
  where
    here : (stop : ℕ) → stop < length old → (((stop == s) ≡ true) ⊎ ((stop == s) ≡ false)) → tally (is_this_row v r) (at_stop (set old stop (at_stop old stop ++ x ∷ [])) s)
        ≡ tally (is_this_row v r) (at_stop old s) + cond ((v == t) && (r == n) && (stop == s)) 1 0
    here stop within (inl same) =
        let now : stop ≡ s = eqb-true stop s same in
        ap (λ k. tally (is_this_row v r) (at_stop (set old stop (at_stop old stop ++ x ∷ [])) k)) (sym now)
        ∙ ap (tally (is_this_row v r)) (get_or-set_same old stop (at_stop old stop ++ x ∷ []) [] within)
        ∙ tally-push (is_this_row v r) (at_stop old stop) x
        ∙ (λ i. tally (is_this_row v r) (at_stop old (now i)) + cond (is_this_row v r (is i)) 1 0)
        ∙ ap (λ b. tally (is_this_row v r) (at_stop old s) + cond b 1 0) (sym (alone ((v == t) && (r == n))) ∙ ap (λ b. (v == t) && (r == n) && b) (sym same))
    here stop within (inr other) =
        ap (tally (is_this_row v r)) (get_or-set_other old stop s (at_stop old stop ++ x ∷ []) [] (λ same. eqb-false stop s other (sym same)))
        ∙ kept (tally (is_this_row v r) (at_stop old s)) _ (ap (λ b. (v == t) && (r == n) && b) other ∙ never ((v == t) && (r == n)))

pub row_passed : (p : Parts) (u : Trip) (rows : List StopRow) (fs : List Frequency) (t n : ℕ) (d : StopRow) (old : List (List DepartureRow)) → n < length rows
    → is_departure_row (trip_of p u rows fs) (stop_row_of p (get_or rows n d)) ≡ false
    → (s v r : ℕ) → tally (is_this_row v r) (at_stop old s) ≡ tally (is_this_row v r) (at_stop old s) + cond ((v == t) && (r == n) && if_there (slice_get rows r) (leaves_stop p u rows fs s)) 1 0
row_passed p u rows fs t n d old within stays s v r =
    kept (tally (is_this_row v r) (at_stop old s)) _
    (asked_here (v == t) (leaves_stop p u rows fs s) rows n r d within
    ∙ ap (λ b. (v == t) && (r == n) && (b && ((get_or rows n d).stop_id.0 == s))) stays ∙ never ((v == t) && (r == n)))

-- one of the lists gets one more
pub pushed_at : {V : Type 0} (f : V → List DepartureRow) (lists : List V) (i : ℕ) (old new : V) (x : DepartureRow) → i < length lists → old ≡ get_or lists i old → f new ≡ f old ++ x ∷ []
    → map f (set lists i new) ≡ set (map f lists) i (at_stop (map f lists) i ++ x ∷ [])
pushed_at f lists i old new x within at pushed =
    map-set f lists i new ∙ ap (set (map f lists) i) (pushed ∙ ap (λ ys. ys ++ x ∷ []) (ap f at ∙ sym (get_or-map f lists i old [] within)))

-- a position of which something is asked is one of the list
pub asked_within : {X : Type 0} (a : Bool) (q : X → Bool) (xs : List X) (r : ℕ) → (a && if_there (slice_get xs r) q) ≡ true → r < length xs
asked_within a q xs r holds = there (slice_get xs r) refl (and_parts a (if_there (slice_get xs r) q) holds).1
  where
    there : (o : Option _) → slice_get xs r ≡ o → if_there o q ≡ true → r < length xs
    there None at none = absurd (false≢true none)
    there (Some x) at some = slice_get_within xs r x at

-- ---- a trip

with_all : {X : Type 0} (b : Bool) (f : X → Bool) (o : Option X) → if_there o (λ x. b && f x) ≡ (b && if_there o f)
with_all true f None = refl
with_all false f None = refl
with_all b f (Some x) = refl

module _ (p : Parts) (sound : IsSoundParts p) where
  -- the stop of a stop time, by its number and by its id
  stop_is : (u : Trip) (rows : List StopRow) (fs : List Frequency) (s : ℕ) (x : StopRow) → x.stop_id.0 < length p.stops
      → (nat_lt s (length p.stops) && (is_departure_row (trip_of p u rows fs) (stop_row_of p x) && bytes_eq (stop_row_of p x).stop_id (text_of_number (stop_ids p) s))) ≡ leaves_stop p u rows fs s x
  stop_is u rows fs s x known = elim (cases_Bool (nat_lt s (length p.stops))) [
    | inl within ↦ rw within (ap (λ b. is_departure_row (trip_of p u rows fs) (stop_row_of p x) && b)
        (same_stop p sound (some_of p.stops x.stop_id.0 known) x.stop_id.0 s known (ltb-true s (length p.stops) within)))
    | inr past ↦
        let other : (x.stop_id.0 == s) ≡ false = apart x.stop_id.0 s (omega (arith, known, ltb-false s (length p.stops) past)) in
        rw (past, other) (never (is_departure_row (trip_of p u rows fs) (stop_row_of p x)))
  ]
    where
      apart : (m n : ℕ) → m < n → (m == n) ≡ false
      apart m n less = elim (cases_Bool (m == n)) [
        | inl same ↦ absurd (omega (arith, less, eqb-true m n same))
        | inr other ↦ other
      ]

      never : (b : Bool) → false ≡ (b && false)
      never true = refl
      never false = refl

  module _ (t : ℕ) (u : Trip) (rows : List StopRow) (fs : List Frequency) (at_trip : slice_get p.trips t ≡ Some u) (at_rows : slice_get (stop_rows_by_trip p) t ≡ Some rows)
      (at_periods : slice_get (frequencies_by_trip p) t ≡ Some fs) (known : All (λ r. r.stop_id.0 < length p.stops) rows) where
    pub own_rows : (s r : ℕ) → if_there (slice_get rows r) (leaves_stop p u rows fs s) ≡ departs_of p s t r
    own_rows s r =
        let c = content_of_parts p in
        let id = text_of_number (stop_ids p) s in
        let b = nat_lt s (length p.stops) in
        let asked : content.Trip → content.StopRow → Bool = λ v x. is_departure_row v x && bytes_eq x.stop_id id in
        sym (row_at (stop_row_of p) (λ x. x.stop_id.0 < length p.stops) (λ x. b && asked (trip_of p u rows fs) x) (leaves_stop p u rows fs s) rows r known (stop_is u rows fs s))
        ∙ with_all b (asked (trip_of p u rows fs)) (slice_get (map (stop_row_of p) rows) r)
        ∙ ap (λ o. b && if_there o (λ v. if_there (slice_get v.stop_rows r) (asked v))) (sym (content_trip p t u rows fs at_trip at_rows at_periods))

    -- what is found of the trip
    pub of_trip : (v s r : ℕ) → ((v == t) && if_there (slice_get rows r) (leaves_stop p u rows fs s)) ≡ ((v == t) && departs_of p s v r)
    of_trip v s r = elim (cases_Bool (v == t)) [
      | inl same ↦ ap (λ b. (v == t) && b) (own_rows s r ∙ ap (λ n. departs_of p s n r) (sym (eqb-true v t same)))
      | inr other ↦ rw other refl
    ]

-- the rows of a trip under a choice of times
pub trip_added : (choice : Times) (p : Parts) → IsSoundParts p → (t : ℕ) (rs own : List StopRow) (old new : List (List DepartureRow)) → slice_get (stop_rows_by_trip p) t ≡ Some rs
    → own ≡ timed_stop_times choice rs
    → ((s v r : ℕ) (q : Parts) (u : Trip) (fs : List Frequency)
    → tally (is_this_row v r) (at_stop new s) ≡ tally (is_this_row v r) (at_stop old s) + cond ((v == t) && if_there (slice_get own r) (leaves_stop q u own fs s)) 1 0)
    → (s v r : ℕ) → tally (is_this_row v r) (at_stop new s) ≡ tally (is_this_row v r) (at_stop old s) + cond ((v == t) && departs_of (timed_parts choice p) s v r) 1 0
trip_added choice p sound t rs own old new at is added s v r =
    let q = timed_parts choice p in
    let fair = sound-timed p sound choice in
    let at_rows = rows_timed choice p sound t rs own at is in
    let within : t < length p.trips = omega (arith, slice_get_within (stop_rows_by_trip p) t rs at, length-parts p.stop_times.starts p.stop_times.rows, sound.stop_rows.0) in
    let periods : t < length (frequencies_by_trip p) = omega (arith, within, length-parts p.frequency_starts p.frequencies, sound.frequencies.0) in
    let some = some_of p.trips t within in
    let u = get_or p.trips t some in
    let fs = get_or (frequencies_by_trip p) t [] in
    added s v r q u fs
    ∙ ap (λ b. tally (is_this_row v r) (at_stop old s) + cond b 1 0)
    (of_trip q fair t u own fs (slice_get-get_or p.trips t some within) at_rows (slice_get-get_or (frequencies_by_trip p) t [] periods) (trip_times q fair t own at_rows).stops v s r)

-- past the last trip there is none
pub trip_within : (p : Parts) (s t r : ℕ) → departs_of p s t r ≡ true → t < length p.trips
trip_within p s t r holds = elim (cases_Bool (nat_lt t (length p.trips))) [
  | inl is ↦ ltb-true t (length p.trips) is
  | inr isnt ↦
      let id = text_of_number (stop_ids p) s in
      let none : has_departure_row (content_of_parts p) id t r ≡ false =
      ap (λ o. if_there o (λ v. if_there (slice_get v.stop_rows r) (λ x. is_departure_row v x && bytes_eq x.stop_id id)))
      (past_trips p p.trips (stop_rows_by_trip p) (frequencies_by_trip p) t (ltb-false t (length p.trips) isnt)) in
      absurd (false≢true (sym none ∙ (and_parts (nat_lt s (length p.stops)) (has_departure_row (content_of_parts p) id t r) holds).1))
]

-- ---- their order

pub trips_total : (p : Parts) → IsTotalOrder (index_trip_cmp p)
trips_total p = then_total (on_total (trip_group p) groups_total) (then_total (on_total (λ t. first_left (get_or (stop_rows_by_trip p) t [])) nat_cmp_total) nat_cmp_total)

-- two trips that tie are one
trips_tied : (p : Parts) (t u : ℕ) → index_trip_cmp p t u ≡ Equal → t ≡ u
trips_tied p t u tie = ranked t u Equal (sym (tied_second _ _ (tied_second _ _ tie)))

pub rows_total : (p : Parts) → IsTotalOrder (departure_row_cmp p)
rows_total p = then_total (on_total (λ x. x.trip) (trips_total p)) (on_total (λ x. x.row) nat_cmp_total)

later_row : (p : Parts) (t n : ℕ) → departure_row_cmp p (position_of t n) (position_of t (n + 1)) ≡ Less
later_row p t n = rw (tied_itself (trips_total p) t) (nat-less n (n + 1) (omega arith))

-- what stands before a position of a trip stands before the next one
module _ (p : Parts) (t n : ℕ) where
  stand_later : (xs : List DepartureRow) → StandBefore p t n xs → StandBefore p t (n + 1) xs
  stand_later xs stand = record {
    in_order = stand.in_order;
    before = λ k d within. (rows_total p).trans (get_or xs k d) (position_of t n) (position_of t (n + 1)) (stand.before k d within) (later_row p t n);
  }

  pub row_later : (lists : List (List DepartureRow)) → All (StandBefore p t n) lists → All (StandBefore p t (n + 1)) lists
  row_later lists all = λ k d within. stand_later (get_or lists k d) (all k d within)

  -- the row at the position comes last
  pub row_last : (s k : ℕ) (y : StopRow) (x : DepartureRow) (old new : List (List DepartureRow)) → x ≡ noted_row t k n y → s < length old
      → new ≡ set old s (at_stop old s ++ x ∷ []) → All (StandBefore p t n) old → All (StandBefore p t (n + 1)) new
  row_last s k y x old new is within pushed all =
      let own = at_stop old s in
      let stand = all s [] within in
      let first = stand_later own stand in
      let last : StandBefore p t (n + 1) (own ++ x ∷ []) = record {
        in_order = all_pairs_push (λ a b. departure_row_cmp p a b ≡ Less) own x stand.in_order (λ j d inside. ap (departure_row_cmp p (get_or own j d)) is ∙ stand.before j d inside);
        before = All-push (λ y. departure_row_cmp p y (position_of t (n + 1)) ≡ Less) own x first.before
            (ap (λ y. departure_row_cmp p y (position_of t (n + 1))) is ∙ later_row p t n);
      } in
      subst (All (StandBefore p t (n + 1))) (sym pushed) (All-set (StandBefore p t (n + 1)) old s (own ++ x ∷ []) last (row_later old all))

-- ---- trip after trip

-- the trips of a feed in their order, some of which are done: how often each of these is
abbrev pub done : List GroupedTripValue → ℕ → ℕ → ℕ
done trips n t = tally (λ x. t == x.trip.0) (take n trips)

pub done_more : (trips : List GroupedTripValue) (n t : ℕ) (d : GroupedTripValue) → n < length trips → done trips (n + 1) t ≡ done trips n t + cond (t == (get_or trips n d).trip.0) 1 0
done_more trips n t d within = ap (tally (λ x. t == x.trip.0)) (take_more trips n d within) ∙ tally-push (λ x. t == x.trip.0) (take n trips) (get_or trips n d)

-- the rows of one trip more
pub rows_more : (departs : Bool) (a b old new : ℕ) (own : Bool) → old ≡ cond departs a 0 → new ≡ old + cond (own && departs) 1 0 → b ≡ a + cond own 1 0 → new ≡ cond departs b 0
rows_more true a b old new true was more is = omega (arith, was, more, is)
rows_more true a b old new false was more is = omega (arith, was, more, is)
rows_more false a b old new true was more is = omega (arith, was, more)
rows_more false a b old new false was more is = omega (arith, was, more)

pub none_done : (departs : Bool) (trips : List GroupedTripValue) (t : ℕ) → ◌≡◌ {A = ℕ} 0 (cond departs (done trips 0 t) 0)
none_done true trips t = refl
none_done false trips t = refl

module _ (p : Parts) (trips : List GroupedTripValue) (are : AreOfTrips p (length p.trips) trips) where
  -- each is one of the feed
  pub known_trip : (n : ℕ) (x : GroupedTripValue) → n < length trips → x ≡ get_or trips n x → x.trip.0 < length p.trips
  known_trip n x within is =
      let t = x.trip.0 in
      let some = one_at (λ z. t == z.trip.0) trips n x within (ap (λ (z : GroupedTripValue). t == z.trip.0) (sym is) ∙ itself t) in
      inside (nat_lt t (length p.trips)) refl (are.once t) some
    where
      inside : (b : Bool) → nat_lt x.trip.0 (length p.trips) ≡ b → tally (λ z. x.trip.0 == z.trip.0) trips ≡ cond b 1 0 → 1 ≤ tally (λ z. x.trip.0 == z.trip.0) trips → x.trip.0 < length p.trips
      inside true below count some = ltb-true x.trip.0 (length p.trips) below
      inside false below count some = absurd (omega (arith, count, some))

  -- and all are done at the end
  pub rows_all : (n : ℕ) → length trips ≤ n → (t : ℕ) (departs : Bool) → (departs ≡ true → t < length p.trips) → cond departs (done trips n t) 0 ≡ cond departs 1 0
  rows_all n past t departs within = by departs refl
    where
      by : (b : Bool) → departs ≡ b → cond b (done trips n t) 0 ≡ cond b 1 0
      by true is = ap (tally (λ x. t == x.trip.0)) (take_all n trips past) ∙ are.once t ∙ ap (λ b. cond b 1 0) (lt-ltb t (length p.trips) (within is))
      by false is = refl

module _ (p : Parts) (trips : List GroupedTripValue) (are : AreOfTrips p (length p.trips) trips) (up : IsSorted grouped_cmp trips) (n : ℕ) (within : n < length trips) where
  -- the order of trips is that of their rows
  same_order : (i j : ℕ) (d : GroupedTripValue) → i < length trips → j < length trips
      → grouped_cmp (get_or trips i d) (get_or trips j d) ≡ index_trip_cmp p (get_or trips i d).trip.0 (get_or trips j d).trip.0
  same_order i j d first second = λ k.
      ordering_then (group_cmp (are.groups i d first k) (are.groups j d second k))
      (ordering_then (nat_cmp (are.starts i d first k) (are.starts j d second k)) (nat_cmp (get_or trips i d).trip.0 (get_or trips j d).trip.0))

  -- each of the trips before is a lower one
  lower : (k : ℕ) (d : GroupedTripValue) → k < n → index_trip_cmp p (get_or trips k d).trip.0 (get_or trips n d).trip.0 ≡ Less
  lower k d before =
      let x = get_or trips k d in
      let y = get_or trips n d in
      let far : is_lt (grouped_cmp y x) ≡ false = sorted_far (λ a b. is_lt (grouped_cmp a b)) (ranks_by grouped_total (λ a. a)) trips up k n d (omega (arith, before)) within in
      let below : k < length trips = omega (arith, before, within) in
      strict (index_trip_cmp p x.trip.0 y.trip.0) (index_trip_cmp p y.trip.0 x.trip.0) ((trips_total p).antisymm y.trip.0 x.trip.0) (ap is_lt (sym (same_order n k d within below)) ∙ far)
      (λ tie. twice x.trip.0 y.trip.0 (trips_tied p x.trip.0 y.trip.0 tie) (two_at (λ z. y.trip.0 == z.trip.0) trips k n d before within))
    where
      strict : (r q : Ordering) → q ≡ ordering_reverse r → is_lt q ≡ false → (r ≡ Equal → ⊥) → r ≡ Less
      strict Less q turned far apart = refl
      strict Equal q turned far apart = absurd (apart refl)
      strict Greater q turned far apart = absurd (false≢true (sym far ∙ ap is_lt turned))

      most : (b : Bool) (m : ℕ) → m ≡ cond b 1 0 → 2 ≤ m → ⊥
      most true m is two = omega (arith, is, two)
      most false m is two = omega (arith, is, two)

      twice : (t u : ℕ) → t ≡ u → ((u == t) ≡ true → (u == u) ≡ true → 2 ≤ tally (λ z. u == z.trip.0) trips) → ⊥
      twice t u same two = most (nat_lt u (length p.trips)) (tally (λ z. u == z.trip.0) trips) (are.once u) (two (ap (λ m. u == m) same ∙ itself u) (itself u))

  -- so all rows so far stand before those of the next trip
  pub stand_before : (lists : List (List DepartureRow)) (departs : ℕ → ℕ → ℕ → Bool) (d : GroupedTripValue) → All (Ascends (departure_row_cmp p)) lists
      → ((s t r : ℕ) → tally (is_this_row t r) (at_stop lists s) ≡ cond (departs s t r) (done trips n t) 0) → All (StandBefore p (get_or trips n d).trip.0 0) lists
  stand_before lists departs d in_order told = λ s l inside. record {
    in_order = in_order s l inside;
    before = λ k x there.
        let row = get_or (get_or lists s l) k x in
        let here : is_this_row row.trip row.row row ≡ true = both_true (itself row.trip) (itself row.row) in
        let some = one_at (is_this_row row.trip row.row) (get_or lists s l) k x there here in
        let count : tally (is_this_row row.trip row.row) (get_or lists s l) ≡ cond (departs s row.trip row.row) (done trips n row.trip) 0 =
        ap (tally (is_this_row row.trip row.row)) (get_or_default lists s l [] inside) ∙ told s row.trip row.row in
        found_at (λ z. row.trip == z.trip.0) (take n trips) _ (counted (departs s row.trip row.row) (done trips n row.trip) (tally (is_this_row row.trip row.row) (get_or lists s l)) count some)
        (λ i taken is.
        let below : i < n = let size = length-take-le n trips (omega (arith, within)) in omega (arith, taken, size) in
        let same : row.trip ≡ (get_or trips i d).trip.0 = eqb-true row.trip (get_or trips i d).trip.0 (ap (λ (z : GroupedTripValue). row.trip == z.trip.0) (sym (get_or-take n trips i d below)) ∙ is d) in
        let less : index_trip_cmp p row.trip (get_or trips n d).trip.0 ≡ Less = ap (λ m. index_trip_cmp p m (get_or trips n d).trip.0) same ∙ lower i d below in
        ap (λ o. ordering_then o (nat_cmp row.row 0)) less);
  }
    where
      counted : (b : Bool) (a m : ℕ) → m ≡ cond b a 0 → 1 ≤ m → 1 ≤ a
      counted true a m is some = omega (arith, is, some)
      counted false a m is some = absurd (omega (arith, is, some))

-- what is noted of a stop time at a position of its trip is right
pub noted_here : (p : Parts) (t k n : ℕ) (rows : List StopRow) (y : StopRow) (x : DepartureRow) → slice_get (stop_rows_by_trip p) t ≡ Some rows → n < length rows → y ≡ get_or rows n y → x ≡ noted_row t k n y
    → IsNoted p x
noted_here p t k n rows y x at within is noted = λ others d there inside.
    let lists = stop_rows_by_trip p in
    let same : others ≡ rows = sym (get_or_from_slice_get lists x.trip others [] there) ∙ ap (λ z. get_or lists z.trip []) noted ∙ get_or_from_slice_get lists t rows [] at in
    let item : get_or others x.row d ≡ y = (λ i. get_or (same i) (noted i).row d) ∙ get_or_default rows n d y within ∙ sym is in
    noted ∙ (λ i. noted_row (sym noted i).trip (sym noted i).rank (sym noted i).row (sym item i))

-- one list gets one more of these
pub one_more : (P : DepartureRow → Type 0) (s : ℕ) (x : DepartureRow) (old new : List (List DepartureRow)) → P x → s < length old → new ≡ set old s (at_stop old s ++ x ∷ []) → All (All P) old
    → All (All P) new
one_more P s x old new is within pushed all =
    let own = at_stop old s in
    subst (All (All P)) (sym pushed) (All-set (All P) old s (own ++ x ∷ []) (All-push P own x (all s [] within) is) all)

-- ---- before the first trip

pub none_yet : {X : Type 0} (P : DepartureRow → Type 0) (xs : List X) → All (All P) (map (λ _. []) xs)
none_yet P [] = All-nil (All P)
none_yet P (x ∷ xs) = All-cons (All P) [] (map (λ _. []) xs) (All-nil P) (none_yet P xs)

pub nothing_at : {X : Type 0} (xs : List X) (s : ℕ) → at_stop (map (λ _. []) xs) s ≡ []
nothing_at [] s = refl
nothing_at (x ∷ xs) zero = refl
nothing_at (x ∷ xs) (suc s) = nothing_at xs s

pub nothing_ascends : {X : Type 0} (p : Parts) (xs : List X) → All (Ascends (departure_row_cmp p)) (map (λ _. []) xs)
nothing_ascends p [] = All-nil (Ascends (departure_row_cmp p))
nothing_ascends p (x ∷ xs) = All-cons (Ascends (departure_row_cmp p)) [] (map (λ _. []) xs) (λ i j d before within. absurd (omega (arith, within))) (nothing_ascends p xs)

-- one more list is empty
pub room_more : {V X : Type 0} (f : V → List DepartureRow) (xs : List X) (n : ℕ) (before after : List V) (v : V) → n < length xs → map f before ≡ map (λ _. []) (take n xs)
    → after ≡ before ++ v ∷ [] → f v ≡ [] → map f after ≡ map (λ _. []) (take (n + 1) xs)
room_more f xs n before after v within so_far pushed empty =
    let some = some_of xs n within in
    let x = get_or xs n some in
    pushed-more (λ _. []) xs n x (map f before) (map f after) (f v) within (get_or_default xs n some x within) so_far (ap (map f) pushed ∙ map-append f before (v ∷ [])) empty
