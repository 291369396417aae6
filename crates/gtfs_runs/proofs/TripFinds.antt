-- What one trip adds to what is found of the trips before it.
use Rattle.std.proofs.Common.{◌≡◌, ◌≤◌, ◌<◌, ◌+◌, ◌*◌, ◌-◌, ◌++◌, ◌∙◌, ℕ, zero, suc, Bool, true, false, not, cond, List, [], ◌∷◌, length, map, filter, take, get_or, Option, Some, None, refl, sym, ap, subst, arith, inl, inr, ◌&&◌, ◌==◌, zero-add}
use Rattle.std.specs.Prelude.{is_some, option_map, unwrap_or}
use Rattle.std.specs.List.{All, enumerate_from, flat_map, list_any, slice_get}
use Rattle.std.specs.List.Sorted.{IsPermutation}
use Rattle.std.specs.Cmp.{both_ways}
use Rattle.std.specs.Cmp.Derive.{both_true}
use Rattle.std.proofs.lemmas.Bool.{and_parts, cases_Bool, eq-eqb as equal_holds, eqb-true}
use Rattle.std.proofs.lemmas.Bool.Decides.{nat_tests}
use Rattle.std.proofs.lemmas.Grind.{flat_map-append}
use Rattle.std.proofs.lemmas.List.{append-nil, length-append, length-map, map-append, take_more as taken}
use Rattle.std.proofs.lemmas.List.Elements.{All-append, All-map, filter-append}
use Rattle.std.proofs.lemmas.List.Sorted.{IsPermutation-append, IsPermutation-refl}
use Rattle.std.proofs.lemmas.Option.{get_or_from_slice_get, slice_get_within}
use Rattle.std.proofs.lemmas.Simd.{map-map}
use Rattle.gtfs_schema.specs.FieldValues.{if_there}
use Rattle.gtfs_rows.specs.Rows as content
use Rattle.gtfs_rows.specs.declared.frequency.Frequency.{Frequency}
use Rattle.gtfs_rows.specs.declared.parts.Parts.{Parts}
use Rattle.gtfs_stop_times.specs.declared.stop_row.StopRow.{StopRow}
use Rattle.gtfs_rows.specs.declared.trip.Trip.{Trip}
use Rattle.gtfs_rows.specs.RowsInMemory.{IsSoundParts, content_of_parts, frequency_of, service_ids, stop_ids, stop_row_of, text_of_number, trip_of}
use Rattle.gtfs_rows.specs.Trips.{ArePeriods, frequencies_by_trip, stop_rows_by_trip}
use Rattle.gtfs_stop_times.specs.RowTimes.{left_at}
use Rattle.gtfs_rows.proofs.NumberFacts.{trip_service}
use Rattle.gtfs_rows.proofs.TripFacts.{periods, stop_times}
use Rattle.gtfs_rows.proofs.TripsAt.{content_trip}
use Rattle.gtfs_runs.specs.EventOrder.{is_same}
use Rattle.gtfs_runs.specs.Tallies.{tally}
use Rattle.gtfs_runs.specs.Events.{is_event}
use Rattle.gtfs_runs.specs.Lanes.{Course, courses_of, departure_rows, has_periods, stops_of}
use Rattle.gtfs_rows.specs.Places.{members}
use Rattle.gtfs_rows.specs.Runs.{allows_boarding, is_departure_row, is_not_last, is_run, is_timed, passes_at, starts_run, trip_start}
use Rattle.gtfs_runs.specs.declared.event.Event.{Event}
use Rattle.gtfs_runs.specs.declared.stop_lanes.passing.Passing.{Passing}
use Rattle.gtfs_runs.specs.steps.Courses.{IsCourse, IsListed, Stopping, course_of, stopping_events}
use Rattle.gtfs_stop_times.specs.StopLists.{stops_in}
use Rattle.gtfs_runs.specs.steps.FoundEvents.{AreTold, stopping_at, times_passed_in}
use Rattle.gtfs_runs.specs.steps.Passings.{first_left, leaves, passing_at, passing_event, passings_of}
use Rattle.gtfs_runs.proofs.ContentEvents.{event_is, is_at}
use Rattle.gtfs_runs.proofs.ContentRows.{departure_rows_are, own_run, period_run}
use Rattle.gtfs_runs.proofs.Counting.{same-is, same-self, tally-map}
use Rattle.gtfs_runs.proofs.CourseOrder.{stopping-append}
use Rattle.gtfs_runs.proofs.LaneTallies.{begun, ended, plus-zero, tally-guard, tally-nothing}
use Rattle.gtfs_runs.proofs.Tallies.{one_more_below, tally-append}
use Rattle.gtfs_runs.proofs.TripTimes.{starts_before}

-- ---- of rows with their positions, those at one position

tally-cond : {X : Type 0} (q : X → Bool) (b : Bool) (y : X) (ys : List X) → tally q (cond b (y ∷ ys) ys) ≡ cond (b && q y) 1 0 + tally q ys
tally-cond q true y ys = refl
tally-cond q false y ys = sym (zero-add (tally q ys))

passed_over : (b c : Bool) (n : ℕ) → c ≡ false → cond (b && c) 1 0 + n ≡ n
passed_over true c n fails = rw fails (zero-add n)
passed_over false c n fails = zero-add n

none_at : {X : Type 0} (q t : ℕ × X → Bool) (i a : ℕ) (xs : List X) → ((k : ℕ) (x : X) → q (k, x) ≡ true → k ≡ i) → i < a → tally q (filter t (enumerate_from a xs)) ≡ 0
none_at q t i a [] one before = refl
none_at q t i a (x ∷ xs) one before =
    let fails : q (a, x) ≡ false = elim (cases_Bool (q (a, x))) [
      | inl is ↦ let e : a ≡ i = one a x is in absurd (omega arith)
      | inr isnt ↦ isnt
    ] in
    tally-cond q (t (a, x)) (a, x) (filter t (enumerate_from (a + 1) xs)) ∙ passed_over (t (a, x)) (q (a, x)) _ fails ∙ none_at q t i (a + 1) xs one (omega arith)

one_at : {X : Type 0} (q t : ℕ × X → Bool) (j a : ℕ) (xs : List X) → ((k : ℕ) (x : X) → q (k, x) ≡ true → k ≡ a + j)
    → tally q (filter t (enumerate_from a xs)) ≡ cond (if_there (slice_get xs j) (λ x. t (a + j, x) && q (a + j, x))) 1 0
one_at q t j a [] one = refl
one_at q t zero a (x ∷ xs) one =
    let here : a + 0 ≡ a = omega arith in
    tally-cond q (t (a, x)) (a, x) (filter t (enumerate_from (a + 1) xs))
    ∙ ap (λ n. cond (t (a, x) && q (a, x)) 1 0 + n) (none_at q t (a + 0) (a + 1) xs one (omega arith))
    ∙ plus-zero (cond (t (a, x) && q (a, x)) 1 0)
    ∙ ap (λ k. cond (t (k, x) && q (k, x)) 1 0) (sym here)
one_at q t (suc j) a (x ∷ xs) one =
    let e : a + 1 + j ≡ a + suc j = omega arith in
    let fails : q (a, x) ≡ false = elim (cases_Bool (q (a, x))) [
      | inl is ↦ let same : a ≡ a + suc j = one a x is in absurd (omega arith)
      | inr isnt ↦ isnt
    ] in
    tally-cond q (t (a, x)) (a, x) (filter t (enumerate_from (a + 1) xs)) ∙ passed_over (t (a, x)) (q (a, x)) _ fails
    ∙ one_at q t j (a + 1) xs (λ k y h. one k y h ∙ sym e)
    ∙ ap (λ k. cond (if_there (slice_get xs j) (λ y. t (k, y) && q (k, y))) 1 0) e

there-same : {X : Type 0} (o : Option X) (f g : X → Bool) → ((x : X) → o ≡ Some x → f x ≡ g x) → if_there o f ≡ if_there o g
there-same None f g same = refl
there-same (Some x) f g same = same x refl

not_same : (e y : Event) → (e ≡ y → ⊥) → is_same e y ≡ false
not_same e y other = elim (cases_Bool (is_same e y)) [
  | inl is ↦ absurd (other (same-is e y is))
  | inr isnt ↦ isnt
]

-- ---- the events of one run of a trip

-- those of a run that starts at another second are not this event
run_tally : (trip r : ℕ) (e : Event) (xs : List Passing) → tally (λ x. is_same e (passing_event trip r x)) xs ≡ cond (e.run == r) (tally (λ x. is_same e (passing_event trip e.run x)) xs) 0
run_tally trip r e xs =
    let n = tally (λ x. is_same e (passing_event trip e.run x)) xs in
    elim (cases_Bool (e.run == r)) [
      | inl is ↦ ap (λ m. tally (λ x. is_same e (passing_event trip m x)) xs) (sym (eqb-true e.run r is)) ∙ ap (λ b. cond b n 0) (sym is)
      | inr isnt ↦
          tally-nothing (λ x. is_same e (passing_event trip r x)) xs (λ x. not_same e (passing_event trip r x) (λ same. other (ap (λ y. y.run) same) isnt)) ∙ ap (λ b. cond b n 0) (sym isnt)
    ]
  where
    other : e.run ≡ r → (e.run == r) ≡ false → ⊥
    other same isnt = let holds = equal_holds e.run r same in cc

-- those of another trip neither
other_trip : (trip r : ℕ) (e : Event) (xs : List Passing) → (e.trip.0 == trip) ≡ false → tally (λ x. is_same e (passing_event trip r x)) xs ≡ 0
other_trip trip r e xs isnt = tally-nothing (λ x. is_same e (passing_event trip r x)) xs (λ x. not_same e (passing_event trip r x) (λ same. other (ap (λ y. y.trip.0) same)))
  where
    other : e.trip.0 ≡ trip → ⊥
    other same = let holds = equal_holds e.trip.0 trip same in cc

later : (r l s : ℕ) → s ≤ l → r + l - s ≡ r + (l - s)
later r l s h = omega arith

start_is : (p : Parts) (row : Trip) (rs : List StopRow) (fs : List Frequency) → trip_start (trip_of p row rs fs) ≡ first_left rs
start_is p row [] fs = refl
start_is p row (r ∷ rs) fs = refl

module _ (p : Parts) (sound : IsSoundParts p) (s t : ℕ) (row : Trip) (rs : List StopRow) (fs : List Frequency)
    (at_trip : slice_get p.trips t ≡ Some row) (at_rows : slice_get (stop_rows_by_trip p) t ≡ Some rs) (at_periods : slice_get (frequencies_by_trip p) t ≡ Some fs) where
  abbrev u : content.Trip
  u = trip_of p row rs fs

  abbrev start : ℕ
  start = first_left rs

  abbrev xs : List Passing
  xs = passings_of p s row rs fs

  abbrev ev : ℕ → Event → Bool
  ev k e = is_event (content_of_parts p) (text_of_number (stop_ids p) s) (text_of_number (service_ids p) k) e

  passes : (e : Event) (x : StopRow) → slice_get rs e.row ≡ Some x → is_departure_row u (stop_row_of p x) ≡ true
      → passes_at u e.run (stop_row_of p x) ≡ e.run + (unwrap_or (left_at x) 0 - start)
  passes e x at departs =
      let r = stop_row_of p x in
      let timed : is_some (left_at x) ≡ true = (and_parts (is_timed r) (is_not_last u r) (and_parts (is_timed r && is_not_last u r) (allows_boarding r) departs).0).0 in
      let is = get_or_from_slice_get rs e.row x x at in
      let from : start ≤ unwrap_or (left_at x) 0 =
      subst (λ y. start ≤ unwrap_or (left_at y) 0) is
      (starts_before p rs (stop_times p sound t rs at_rows) e.row x (slice_get_within rs e.row x at) (subst (λ y. is_some (left_at y) ≡ true) (sym is) timed)) in
      ap (λ n. e.run + unwrap_or (left_at x) 0 - n) (start_is p row rs fs) ∙ later e.run (unwrap_or (left_at x) 0) start from

  -- the event is that of this stop time
  row_same : (e : Event) (x : StopRow) → e.trip.0 ≡ t → slice_get rs e.row ≡ Some x
      → (leaves p s row rs fs (e.row, x) && is_same e (passing_event t e.run (passing_at start (e.row, x)))) ≡ is_at p s row rs fs e x
  row_same e x own at =
      let y = passing_event t e.run (passing_at start (e.row, x)) in
      let departs = is_departure_row u (stop_row_of p x) in
      let flag = get_or (members (content_of_parts p) (text_of_number (stop_ids p) s)) x.stop_id.0 false in
      let seq = x.stop_sequence == e.seq in
      let pass = passes_at u e.run (stop_row_of p x) == e.at in
      both_ways (leaves p s row rs fs (e.row, x) && is_same e y) (is_at p s row rs fs e x)
      (λ holds.
      let a = and_parts (departs && flag) (is_same e y) holds in
      let b = and_parts departs flag a.0 in
      let is = same-is e y a.1 in
      let seqs : x.stop_sequence ≡ e.seq = sym (ap (λ z. z.seq) is) in
      let ats : passes_at u e.run (stop_row_of p x) ≡ e.at = passes e x at b.0 ∙ sym (ap (λ z. z.at) is) in
      both_true (both_true (both_true (equal_holds x.stop_sequence e.seq seqs) b.0) b.1) (equal_holds (passes_at u e.run (stop_row_of p x)) e.at ats))
      (λ holds.
      let a = and_parts (seq && departs && flag) pass holds in
      let b = and_parts (seq && departs) flag a.0 in
      let c = and_parts seq departs b.0 in
      let ats : e.at ≡ e.run + (unwrap_or (left_at x) 0 - start) = sym (eqb-true (passes_at u e.run (stop_row_of p x)) e.at a.1) ∙ passes e x at c.1 in
      let seqs : e.seq ≡ x.stop_sequence = sym (eqb-true x.stop_sequence e.seq c.0) in
      let is : e ≡ y = λ i. record { at = ats i; trip = record { 0 = own i }; run = e.run; seq = seqs i; row = e.row } in
      both_true (both_true c.1 b.1) (subst (λ z. is_same e z ≡ true) is (same-self e)))

  -- a run passes the place by the event once, if it is one at the place
  trip_tally : (e : Event) → e.trip.0 ≡ t → tally (λ x. is_same e (passing_event t e.run x)) xs ≡ cond (if_there (slice_get rs e.row) (is_at p s row rs fs e)) 1 0
  trip_tally e own =
      let q : ℕ × StopRow → Bool = λ y. is_same e (passing_event t e.run (passing_at start y)) in
      tally-map (λ x. is_same e (passing_event t e.run x)) (passing_at start) (filter (leaves p s row rs fs) (enumerate_from 0 rs))
      ∙ one_at q (leaves p s row rs fs) e.row 0 rs (λ k x h. sym (ap (λ y. y.row) (same-is e (passing_event t e.run (passing_at start (k, x))) h)) ∙ sym (zero-add e.row))
      ∙ ap (λ k. cond (if_there (slice_get rs e.row) (λ x. leaves p s row rs fs (k, x) && q (k, x))) 1 0) (zero-add e.row)
      ∙ ap (λ b. cond b 1 0) (there-same (slice_get rs e.row) (λ x. leaves p s row rs fs (e.row, x) && q (e.row, x)) (is_at p s row rs fs e) (λ x at. row_same e x own at))

  own_event : (k : ℕ) (e : Event) → k < length p.services → e.trip.0 ≡ t
      → ev k e ≡ ((row.service_id.0 == k) && is_run u e.run && if_there (slice_get rs e.row) (is_at p s row rs fs e))
  own_event k e within own =
      event_is p sound s k row rs fs e within (subst (λ n. slice_get p.trips n ≡ Some row) (sym own) at_trip)
      (subst (λ n. slice_get (stop_rows_by_trip p) n ≡ Some rs) (sym own) at_rows) (subst (λ n. slice_get (frequencies_by_trip p) n ≡ Some fs) (sym own) at_periods)
      (stop_times p sound t rs at_rows).stops

  known : (k : ℕ) (d : StopRow) → k < length rs → (get_or rs k d).stop_id.0 < length p.stops
  known = (stop_times p sound t rs at_rows).stops

  there : slice_get (content_of_parts p).trips t ≡ Some u
  there = content_trip p t row rs fs at_trip at_rows at_periods

  rows_are : departure_rows (content_of_parts p) (text_of_number (stop_ids p) s) u ≡ map (λ x. (x.0, stop_row_of p x.1)) (filter (leaves p s row rs fs) (enumerate_from 0 rs))
  rows_are = departure_rows_are p s row rs fs (stop_times p sound t rs at_rows).stops

-- ---- a trip more

trips_more : {Y : Type 0} (q : content.Trip → Bool) (g : content.Trip → List Y) (ts : List content.Trip) (t : ℕ) (v : content.Trip) → slice_get ts t ≡ Some v
    → flat_map g (filter q (take (t + 1) ts)) ≡ flat_map g (filter q (take t ts)) ++ cond (q v) (g v) []
trips_more {Y = Y} q g ts t v at =
    let one : get_or ts t v ≡ v = get_or_from_slice_get ts t v v at in
    ap (λ l. flat_map g (filter q l)) (taken ts t v (slice_get_within ts t v at) ∙ ap (λ w. take t ts ++ w ∷ []) one)
    ∙ ap (flat_map g) (filter-append q (take t ts) (v ∷ []))
    ∙ flat_map-append g (filter q (take t ts)) (filter q (v ∷ []))
    ∙ ap (λ l. flat_map g (filter q (take t ts)) ++ l) (last (q v))
  where
    last : (b : Bool) → ◌≡◌ {A = List Y} (flat_map g (cond b (v ∷ []) [])) (cond b (g v) [])
    last true = append-nil (g v)
    last false = refl

-- ---- the events of a trip without frequencies

filter-all : {X Y : Type 0} (q : Y → Bool) (f : X → Y) (xs : List X) → ((x : X) → q (f x) ≡ true) → filter q (map f xs) ≡ map f xs
filter-all q f [] all = refl
filter-all q f (x ∷ xs) all = rw (all x) (ap (λ l. f x ∷ l) (filter-all q f xs all))

filter-no : {X Y : Type 0} (q : Y → Bool) (f : X → Y) (xs : List X) → ((x : X) → q (f x) ≡ false) → filter q (map f xs) ≡ []
filter-no q f [] none = refl
filter-no q f (x ∷ xs) none = rw (none x) (filter-no q f xs none)

own_times : (stops : List ℕ) (service trip start k : ℕ) (e : Event) (xs : List Passing)
    → tally (is_same e) (stopping_events k (map (stopping_at stops service trip start) xs)) ≡ cond (service == k) (tally (λ x. is_same e (passing_event trip start x)) xs) 0
own_times stops service trip start k e xs = elim (cases_Bool (service == k)) [
  | inl is ↦
      rw is (ap (λ l. tally (is_same e) (map (λ x. x.event) l)) (filter-all (λ x. x.course.service == k) (stopping_at stops service trip start) xs (λ x. is))
      ∙ ap (tally (is_same e)) (map-map (λ x. x.event) (stopping_at stops service trip start) xs) ∙ tally-map (is_same e) (passing_event trip start) xs)
  | inr isnt ↦ rw isnt (ap (λ l. tally (is_same e) (map (λ x. x.event) l)) (filter-no (λ x. x.course.service == k) (stopping_at stops service trip start) xs (λ x. isnt)))
]

-- a trip without frequencies runs once
once : (p : Parts) (row : Trip) (rs : List StopRow) (r n : ℕ) (q : StopRow → Bool)
    → ◌≡◌ {A = ℕ} (cond (r == first_left rs) (cond (if_there (slice_get rs n) q) 1 0) 0) (cond (is_run (trip_of p row rs []) r && if_there (slice_get rs n) q) 1 0)
once p row [] r n q = never (r == 0)
  where
    never : (b : Bool) → ◌≡◌ {A = ℕ} (cond b 0 0) 0
    never true = refl
    never false = refl
once p row (x ∷ rs) r n q =
    let some : 0 < length (x ∷ rs) = omega arith in
    let run : is_run (trip_of p row (x ∷ rs) []) r ≡ (r == unwrap_or (left_at x) 0) = own_run p row (x ∷ rs) x r some in
    guarded (r == unwrap_or (left_at x) 0) (if_there (slice_get (x ∷ rs) n) q) ∙ ap (λ b. cond (b && if_there (slice_get (x ∷ rs) n) q) 1 0) (sym run)
  where
    guarded : (a b : Bool) → ◌≡◌ {A = ℕ} (cond a (cond b 1 0) 0) (cond (a && b) 1 0)
    guarded true b = refl
    guarded false b = refl

three : (a b c : Bool) → ◌≡◌ {A = ℕ} (cond a (cond (b && c) 1 0) 0) (cond (a && b && c) 1 0)
three true true c = refl
three true false c = refl
three false b c = refl

module _ (p : Parts) (sound : IsSoundParts p) (s t : ℕ) (row : Trip) (rs : List StopRow) (at_trip : slice_get p.trips t ≡ Some row) (at_rows : slice_get (stop_rows_by_trip p) t ≡ Some rs) where
  module _ (at_periods : slice_get (frequencies_by_trip p) t ≡ Some []) where
    listed_delta : (k : ℕ) (e : Event) → k < length p.services
        → cond (row.service_id.0 == k) (tally (λ x. is_same e (passing_event t (first_left rs) x)) (passings_of p s row rs [])) 0 ≡ cond ((e.trip.0 == t) && ev p sound s t row rs [] at_trip at_rows at_periods k e) 1 0
    listed_delta k e within =
        let event = ev p sound s t row rs [] at_trip at_rows at_periods k e in
        elim (cases_Bool (e.trip.0 == t)) [
          | inl is ↦
              let own = eqb-true e.trip.0 t is in
              let at = if_there (slice_get rs e.row) (is_at p s row rs [] e) in
              ap (λ n. cond (row.service_id.0 == k) n 0)
              (run_tally t (first_left rs) e (passings_of p s row rs []) ∙ ap (λ n. cond (e.run == first_left rs) n 0) (trip_tally p sound s t row rs [] at_trip at_rows at_periods e own)
              ∙ once p row rs e.run e.row (is_at p s row rs [] e))
              ∙ three (row.service_id.0 == k) (is_run (trip_of p row rs []) e.run) at
              ∙ ap (λ b. cond b 1 0) (sym (own_event p sound s t row rs [] at_trip at_rows at_periods k e within own))
              ∙ ap (λ b. cond (b && event) 1 0) (sym is)
          | inr isnt ↦
              ap (λ n. cond (row.service_id.0 == k) n 0) (other_trip t (first_left rs) e (passings_of p s row rs []) isnt) ∙ never (row.service_id.0 == k)
              ∙ ap (λ b. cond (b && event) 1 0) (sym isnt)
        ]
      where
        never : (b : Bool) → ◌≡◌ {A = ℕ} (cond b 0 0) 0
        never true = refl
        never false = refl

    stops_are : map (text_of_number (stop_ids p)) (stops_in rs) ≡ stops_of (trip_of p row rs [])
    stops_are = map-map (text_of_number (stop_ids p)) (λ r. r.stop_id.0) rs ∙ sym (map-map (λ r. r.stop_id) (stop_row_of p) rs)

    courses_are : map (λ x. course_of p x.course) (map (stopping_at (stops_in rs) row.service_id.0 t (first_left rs)) (passings_of p s row rs []))
        ≡ courses_of (content_of_parts p) (text_of_number (stop_ids p) s) (trip_of p row rs [])
    courses_are =
        let ys = filter (leaves p s row rs []) (enumerate_from 0 rs) in
        let text = text_of_number (stop_ids p) in
        let service = text_of_number (service_ids p) row.service_id.0 in
        map-map (λ x. course_of p x.course) (stopping_at (stops_in rs) row.service_id.0 t (first_left rs)) (passings_of p s row rs [])
        ∙ map-map {A = ℕ × StopRow} (λ x. (map text (stops_in rs), x.row, service)) (passing_at (first_left rs)) ys
        ∙ ap (λ l. map {A = ℕ × StopRow} {B = Course} (λ y. (l, y.0, service)) ys) stops_are
        ∙ sym (ap (map {A = ℕ × content.StopRow} {B = Course} (λ y. (stops_of (trip_of p row rs []), y.0, service))) (rows_are p sound s t row rs [] at_trip at_rows at_periods)
        ∙ map-map {A = ℕ × StopRow} (λ y. (stops_of (trip_of p row rs []), y.0, service)) (λ x. (x.0, stop_row_of p x.1)) ys)

    -- each of its events is one of a trip without frequencies
    own_course : (x : Passing) → IsListed p (stopping_at (stops_in rs) row.service_id.0 t (first_left rs) x)
    own_course x =
        let at : slice_get (content_of_parts p).trips t ≡ Some (trip_of p row rs []) = content_trip p t row rs [] at_trip at_rows at_periods in
        record {
          listed = ap (λ o. if_there o (λ w. not (has_periods w))) at;
          course = ap (option_map (λ w. (stops_of w, x.row, w.service_id))) at ∙ ap (λ l. Some (l, x.row, text_of_number (service_ids p) row.service_id.0)) (sym stops_are);
        }

    pub listed_told : (old new : List Stopping) (told : ℕ → Event → ℕ) (count : ℕ) → new ≡ old ++ map (stopping_at (stops_in rs) row.service_id.0 t (first_left rs)) (passings_of p s row rs [])
        → AreTold p s t old told count → AreTold p s (t + 1) new told count
    listed_told old new told count pushed was =
        let c = content_of_parts p in
        let id = text_of_number (stop_ids p) s in
        let v = trip_of p row rs [] in
        let xs = passings_of p s row rs [] in
        let f : Passing → Stopping = stopping_at (stops_in rs) row.service_id.0 t (first_left rs) in
        let at : slice_get c.trips t ≡ Some v = content_trip p t row rs [] at_trip at_rows at_periods in
        record {
          exact = λ k e within.
              ap (λ l. tally (is_same e) (stopping_events k l) + told k e) pushed
              ∙ ap (λ n. n + told k e) (ap (tally (is_same e)) (stopping-append k old (map f xs)) ∙ tally-append (is_same e) (stopping_events k old) (stopping_events k (map f xs)))
              ∙ swap (tally (is_same e) (stopping_events k old)) (tally (is_same e) (stopping_events k (map f xs))) (told k e)
              ∙ (λ i. was.exact k e within i + (own_times (stops_in rs) row.service_id.0 t (first_left rs) k e xs ∙ listed_delta k e within) i)
              ∙ one_more_below e.trip.0 t (ev p sound s t row rs [] at_trip at_rows at_periods k e);
          known = subst (λ l. All (λ x. IsCourse p x.course) l) (sym pushed)
              (All-append (λ x. IsCourse p x.course) old (map f xs) was.known (All-map (λ x. IsCourse p x.course) f xs (λ k d h. record {
                service = trip_service p sound t row at_trip;
                stops = All-map (λ n. n < length p.stops) (λ r. r.stop_id.0) rs (stop_times p sound t rs at_rows).stops;
              })));
          own = subst (λ l. All (IsListed p) l) (sym pushed) (All-append (IsListed p) old (map f xs) was.own (All-map (IsListed p) f xs (λ k d h. own_course (get_or xs k d))));
          courses =
              let few = flat_map (courses_of c id) (filter (λ w. not (has_periods w)) (take t c.trips)) in
              let now : map (λ x. course_of p x.course) new ≡ map (λ x. course_of p x.course) old ++ courses_of c id v =
              ap (map (λ x. course_of p x.course)) pushed ∙ map-append (λ x. course_of p x.course) old (map f xs) ∙ ap (λ l. map (λ x. course_of p x.course) old ++ l) courses_are in
              subst (IsPermutation (flat_map (courses_of c id) (filter (λ w. not (has_periods w)) (take (t + 1) c.trips)))) (sym now)
              (subst (λ l. IsPermutation l (map (λ x. course_of p x.course) old ++ courses_of c id v)) (sym (trips_more (λ w. not (has_periods w)) (courses_of c id) c.trips t v at))
              (IsPermutation-append few (map (λ x. course_of p x.course) old) (courses_of c id v) (courses_of c id v) was.courses (IsPermutation-refl (courses_of c id v))));
          counted = was.counted ∙ ap length (sym (trips_more has_periods (λ w. flat_map (λ period. departure_rows c id w) w.frequencies) c.trips t v at ∙ append-nil _));
        }
      where
        swap : (a b m : ℕ) → a + b + m ≡ a + m + b
        swap a b m = omega arith

-- ---- the lanes of the frequencies of a trip

-- at most one period starts a run at a second
sum-guard : (trip : ℕ) (e : Event) (xs : List Passing) (fs : List Frequency) → ArePeriods fs
    → times_passed_in trip e xs fs ≡ cond (list_any (λ f. starts_run (frequency_of f) e.run) fs) (tally (λ x. is_same e (passing_event trip e.run x)) xs) 0
sum-guard trip e xs [] are = refl
sum-guard trip e xs (f ∷ fs) are =
    let q : Frequency → Bool = λ g. starts_run (frequency_of g) e.run in
    let n = tally (λ x. is_same e (passing_event trip e.run x)) xs in
    let rest : ArePeriods fs = record { filled = λ k d h. are.filled (suc k) d (omega arith); apart = λ i j d before h. are.apart (suc i) (suc j) d (omega arith) (omega arith) } in
    (λ i. tally-guard (q f) (λ x. is_same e (passing_event trip e.run x)) xs i + sum-guard trip e xs fs rest i)
    ∙ elim (cases_Bool (q f)) [
      | inl here ↦
          let none : list_any q fs ≡ false = later_none fs (λ k d h. let ends = ended f e.run here in let from = are.apart 0 (suc k) d (omega arith) (omega arith) in omega (arith, ends, from)) in
          rw (here, none) (plus-zero n)
      | inr other ↦ rw other (zero-add (cond (list_any q fs) n 0))
    ]
  where
    later_none : (gs : List Frequency) → ((k : ℕ) (d : Frequency) → k < length gs → e.run < (get_or gs k d).start_time) → list_any (λ g. starts_run (frequency_of g) e.run) gs ≡ false
    later_none [] after = refl
    later_none (g ∷ gs) after = elim (cases_Bool (starts_run (frequency_of g) e.run)) [
      | inl is ↦ let from = begun g e.run is in let to = after 0 g (omega arith) in absurd (omega (arith, from, to))
      | inr isnt ↦ rw isnt (later_none gs (λ k d h. after (suc k) d (omega arith)))
    ]

length-each : {X Y : Type 0} (ys : List Y) (zs : List X) → length (flat_map (λ z. ys) zs) ≡ length zs * length ys
length-each ys [] = let e : 0 ≡ 0 * length ys = omega arith in e
length-each ys (z ∷ zs) = length-append ys (flat_map (λ w. ys) zs) ∙ ap (λ n. length ys + n) (length-each ys zs) ∙ more (length zs) (length ys)
  where
    more : (a b : ℕ) → b + a * b ≡ suc a * b
    more a b = omega arith

periodic : (p : Parts) (row : Trip) (rs : List StopRow) (fs : List Frequency) → 0 < length fs → has_periods (trip_of p row rs fs) ≡ true
periodic p row rs [] some = absurd (omega arith)
periodic p row rs (f ∷ fs) some = let e : (suc (length (map frequency_of fs)) == 0) ≡ false = grind (arith, nat_tests) in rw e refl

-- runs of a trip with frequencies are those that they start
several : (p : Parts) (row : Trip) (rs : List StopRow) (fs : List Frequency) (r n : ℕ) (q : StopRow → Bool) → 0 < length fs
    → ◌≡◌ {A = ℕ} (cond (list_any (λ f. starts_run (frequency_of f) r) fs) (cond (if_there (slice_get rs n) q) 1 0) 0) (cond (is_run (trip_of p row rs fs) r && if_there (slice_get rs n) q) 1 0)
several p row [] fs r n q some = never (list_any (λ f. starts_run (frequency_of f) r) fs)
  where
    never : (b : Bool) → ◌≡◌ {A = ℕ} (cond b 0 0) 0
    never true = refl
    never false = refl
several p row (x ∷ rs) fs r n q some =
    let filled : 0 < length (x ∷ rs) = omega arith in
    guarded (list_any (λ f. starts_run (frequency_of f) r) fs) (if_there (slice_get (x ∷ rs) n) q)
    ∙ ap (λ b. cond (b && if_there (slice_get (x ∷ rs) n) q) 1 0) (sym (period_run p row (x ∷ rs) fs r filled some))
  where
    guarded : (a b : Bool) → ◌≡◌ {A = ℕ} (cond a (cond b 1 0) 0) (cond (a && b) 1 0)
    guarded true b = refl
    guarded false b = refl

module _ (p : Parts) (sound : IsSoundParts p) (s t : ℕ) (row : Trip) (rs : List StopRow) (fs : List Frequency) (at_trip : slice_get p.trips t ≡ Some row)
    (at_rows : slice_get (stop_rows_by_trip p) t ≡ Some rs) (at_periods : slice_get (frequencies_by_trip p) t ≡ Some fs) (some : 0 < length fs) where
  periods_delta : (k : ℕ) (e : Event) → k < length p.services
      → cond (row.service_id.0 == k) (times_passed_in t e (passings_of p s row rs fs) fs) 0 ≡ cond ((e.trip.0 == t) && ev p sound s t row rs fs at_trip at_rows at_periods k e) 1 0
  periods_delta k e within =
      let xs = passings_of p s row rs fs in
      let guard = sum-guard t e xs fs (periods p sound t fs at_periods) in
      let event = ev p sound s t row rs fs at_trip at_rows at_periods k e in
      elim (cases_Bool (e.trip.0 == t)) [
        | inl is ↦
            let own = eqb-true e.trip.0 t is in
            let at = if_there (slice_get rs e.row) (is_at p s row rs fs e) in
            ap (λ n. cond (row.service_id.0 == k) n 0)
            (guard ∙ ap (λ n. cond (list_any (λ f. starts_run (frequency_of f) e.run) fs) n 0) (trip_tally p sound s t row rs fs at_trip at_rows at_periods e own)
            ∙ several p row rs fs e.run e.row (is_at p s row rs fs e) some)
            ∙ three (row.service_id.0 == k) (is_run (trip_of p row rs fs) e.run) at
            ∙ ap (λ b. cond b 1 0) (sym (own_event p sound s t row rs fs at_trip at_rows at_periods k e within own))
            ∙ ap (λ b. cond (b && event) 1 0) (sym is)
        | inr isnt ↦
            ap (λ n. cond (row.service_id.0 == k) n 0) (guard ∙ ap (λ n. cond (list_any (λ f. starts_run (frequency_of f) e.run) fs) n 0) (other_trip t e.run e xs isnt)
            ∙ never (list_any (λ f. starts_run (frequency_of f) e.run) fs)) ∙ never (row.service_id.0 == k)
            ∙ ap (λ b. cond (b && event) 1 0) (sym isnt)
      ]
    where
      never : (b : Bool) → ◌≡◌ {A = ℕ} (cond b 0 0) 0
      never true = refl
      never false = refl

  pub periods_told : (listed : List Stopping) (old new : ℕ → Event → ℕ) (before after : ℕ)
      → ((k : ℕ) (e : Event) → new k e ≡ old k e + cond (row.service_id.0 == k) (times_passed_in t e (passings_of p s row rs fs) fs) 0)
      → after ≡ before + length fs * length (passings_of p s row rs fs)
      → AreTold p s t listed old before → AreTold p s (t + 1) listed new after
  periods_told listed old new before after told count was =
      let c = content_of_parts p in
      let id = text_of_number (stop_ids p) s in
      let v = trip_of p row rs fs in
      let xs = passings_of p s row rs fs in
      let has : has_periods v ≡ true = periodic p row rs fs some in
      let at : slice_get c.trips t ≡ Some v = content_trip p t row rs fs at_trip at_rows at_periods in
      let ys = filter (leaves p s row rs fs) (enumerate_from 0 rs) in
      let rows : length (departure_rows c id v) ≡ length xs =
      ap length (rows_are p sound s t row rs fs at_trip at_rows at_periods) ∙ length-map ys (λ x. (x.0, stop_row_of p x.1)) ∙ sym (length-map ys (passing_at (first_left rs))) in
      let each : length (flat_map (λ period. departure_rows c id v) v.frequencies) ≡ length fs * length xs =
      length-each (departure_rows c id v) (map frequency_of fs) ∙ (λ i. length-map fs frequency_of i * rows i) in
      let group : content.Trip → List (ℕ × content.StopRow) = λ w. flat_map (λ period. departure_rows c id w) w.frequencies in
      record {
        exact = λ k e within.
            ap (λ n. tally (is_same e) (stopping_events k listed) + n) (told k e)
            ∙ sums (tally (is_same e) (stopping_events k listed)) (old k e) (cond (row.service_id.0 == k) (times_passed_in t e xs fs) 0)
            ∙ (λ i. was.exact k e within i + periods_delta k e within i)
            ∙ one_more_below e.trip.0 t (ev p sound s t row rs fs at_trip at_rows at_periods k e);
        known = was.known;
        own = was.own;
        courses = subst (λ l. IsPermutation l (map (λ x. course_of p x.course) listed)) (sym (trips_more (λ w. not (has_periods w)) (courses_of c id) c.trips t v at
            ∙ ap (λ b. flat_map (courses_of c id) (filter (λ w. not (has_periods w)) (take t c.trips)) ++ cond (not b) (courses_of c id v) []) has ∙ append-nil _)) was.courses;
        counted = count ∙ (λ i. was.counted i + sym each i) ∙ sym (length-append (flat_map group (filter has_periods (take t c.trips))) (group v))
            ∙ ap length (sym (trips_more has_periods group c.trips t v at ∙ ap (λ b. flat_map group (filter has_periods (take t c.trips)) ++ cond b (group v) []) has));
      }
    where
      sums : (a b m : ℕ) → a + (b + m) ≡ a + b + m
      sums a b m = omega arith
