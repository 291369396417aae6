-- The latest of the events that lanes tell is the latest of the content.
use Rattle.std.proofs.Common.{◌≡◌, ◌≤◌, ◌<◌, ◌+◌, ◌++◌, ◌∙◌, ℕ, zero, suc, Bool, true, false, cond, List, [], ◌∷◌, length, map, filter, get_or, Option, Some, None, refl, sym, ap, subst, arith, inl, inr, ◌&&◌, ◌==◌, ◌||◌, zero-add}
use Rattle.std.specs.Prelude.{bytes_eq, max, unwrap_or}
use Rattle.std.specs.List.{All, enumerate_from, flat_map, fold, list_any, range_with_len, slice_get}
use Rattle.std.specs.Cmp.Derive.{both_true}
use Rattle.std.proofs.lemmas.Bool.{and_parts, cases_Bool, eqb-true, false≢true}
use Rattle.std.proofs.lemmas.Bool.Decides.{nat_tests}
use Rattle.std.proofs.lemmas.List.{get_or_append_left, length-append, length-map}
use Rattle.std.proofs.lemmas.List.Elements.{All-append, All-cons, All-head, All-map, All-nil, All-tail}
use Rattle.std.proofs.lemmas.Option.{get_or_from_slice_get, same_Some as one, slice_get-get_or, slice_get_within}
use Rattle.gtfs_field.proofs.NumberFacts.{number_itself as itself}
use Rattle.gtfs_field.proofs.ListFacts.{fold-rises, some_of}
use Rattle.gtfs_table.proofs.PartFacts.{length-parts}
use Rattle.gtfs_schema.proofs.SiteFacts.{text_itself}
use Rattle.gtfs_schema.specs.FieldValues.{if_there}
use Rattle.gtfs_rows.specs.Content.{Content}
use Rattle.gtfs_rows.specs.Rows as content
use Rattle.gtfs_rows.specs.declared.frequency.Frequency.{Frequency}
use Rattle.gtfs_rows.specs.declared.parts.Parts.{Parts}
use Rattle.gtfs_stop_times.specs.declared.stop_row.StopRow.{StopRow}
use Rattle.gtfs_rows.specs.declared.trip.Trip.{Trip}
use Rattle.gtfs_rows.specs.RowsInMemory.{IsSoundParts, content_of_parts, frequency_of, service_ids, stop_ids, text_of_number, trip_of}
use Rattle.gtfs_rows.specs.Trips.{frequencies_by_trip, stop_rows_by_trip}
use Rattle.gtfs_stop_times.specs.RowTimes.{left_at}
use Rattle.gtfs_rows.proofs.NumberFacts.{trip_service}
use Rattle.gtfs_rows.proofs.TripsAt.{content_trip}
use Rattle.gtfs_runs.specs.EventOrder.{is_same}
use Rattle.gtfs_runs.specs.Tallies.{tally}
use Rattle.gtfs_runs.specs.Events.{is_event}
use Rattle.gtfs_runs.specs.Lanes.{departure_rows, latest}
use Rattle.gtfs_rows.specs.Places.{is_in_place}
use Rattle.gtfs_runs.specs.StopLanes.{AreLanesOf, LaneValue, events_of_service}
use Rattle.gtfs_rows.specs.Runs.{is_departure_row, is_run, passes_at, runs, starts_run}
use Rattle.gtfs_runs.specs.declared.event.Event.{Event}
use Rattle.gtfs_runs.specs.steps.FoundEvents.{HasRuns}
use Rattle.gtfs_runs.specs.steps.LatestOfLists.{latest_of}
use Rattle.gtfs_runs.proofs.ContentRows.{no_run, own_run, period_run}
use Rattle.gtfs_runs.proofs.Counting.{same-is, same-self}
use Rattle.gtfs_runs.proofs.CourseOrder.{all-right}
use Rattle.gtfs_runs.proofs.LaneTallies.{ended}
use Rattle.gtfs_runs.proofs.Tallies.{one_at, tally-append}
use Rattle.gtfs_runs.proofs.TripTimes.{left_within, periods_run, rows_at}
use Rattle.gtfs_runs.proofs.WholeLanes.{trips_within}

-- ---- the greatest of numbers

fold-upper : (a : ℕ) (xs : List ℕ) → All (λ x. x ≤ fold max a xs) xs
fold-upper a [] = All-nil (λ x. x ≤ a)
fold-upper a (x ∷ xs) =
    let n = fold-rises (max a x) xs in
    let m : x ≤ max a x = omega arith in
    All-cons (λ y. y ≤ fold max (max a x) xs) x xs (omega (arith, n, m)) (fold-upper (max a x) xs)

fold-least : (n a : ℕ) (xs : List ℕ) → a ≤ n → All (λ x. x ≤ n) xs → fold max a xs ≤ n
fold-least n a [] start all = start
fold-least n a (x ∷ xs) start all =
    let first : x ≤ n = All-head (λ y. y ≤ n) x xs all in
    fold-least n (max a x) xs (omega (arith, first, start)) (All-tail (λ y. y ≤ n) x xs all)

-- ---- what holds of all of a list of lists

pub left-all : {X : Type 0} (P : X → Type 0) (xs ys : List X) → All P (xs ++ ys) → All P xs
left-all P xs ys all k d within =
    subst P (get_or_append_left xs ys d k within) (all k d (let size = length-append xs ys in omega (arith, size, within)))

part-all : {X Y : Type 0} (P : Y → Type 0) (f : X → List Y) (xs : List X) (i : ℕ) (x : X) → All P (flat_map f xs) → slice_get xs i ≡ Some x → All P (f x)
part-all P f [] i x all at = cc
part-all P f (y ∷ ys) zero x all at = subst (λ z. All P (f z)) (one y x at) (left-all P (f y) (flat_map f ys) all)
part-all P f (y ∷ ys) (suc i) x all at = part-all P f ys i x (all-right P (f y) (flat_map f ys) all) at

all-parts : {X Y : Type 0} (P : Y → Type 0) (f : X → List Y) (xs : List X) → ((i : ℕ) (x : X) → slice_get xs i ≡ Some x → All P (f x)) → All P (flat_map f xs)
all-parts P f [] each = All-nil P
all-parts P f (x ∷ xs) each = All-append P (f x) (flat_map f xs) (each 0 x refl) (all-parts P f xs (λ i y at. each (suc i) y at))

module _ {X Y : Type 0} (P : Y → Type 0) (f : X → List Y) where
  kept-left : (b : Bool) (y : X) (ys : List X) → b ≡ true → All P (flat_map f (cond b (y ∷ ys) ys)) → All P (f y)
  kept-left true y ys is all = left-all P (f y) (flat_map f ys) all
  kept-left false y ys is all = absurd (false≢true is)

  kept-right : (b : Bool) (y : X) (ys : List X) → All P (flat_map f (cond b (y ∷ ys) ys)) → All P (flat_map f ys)
  kept-right true y ys all = all-right P (f y) (flat_map f ys) all
  kept-right false y ys all = all

  keep : (b : Bool) (y : X) (ys : List X) → (b ≡ true → All P (f y)) → All P (flat_map f ys) → All P (flat_map f (cond b (y ∷ ys) ys))
  keep true y ys own all = All-append P (f y) (flat_map f ys) (own refl) all
  keep false y ys own all = all

  filtered-all : (q : X → Bool) (xs : List X) → All P (flat_map f xs) → All P (flat_map f (filter q xs))
  filtered-all q [] all = all
  filtered-all q (x ∷ xs) all = keep (q x) x (filter q xs) (λ is. left-all P (f x) (flat_map f xs) all) (filtered-all q xs (all-right P (f x) (flat_map f xs) all))

module _ {X Y : Type 0} (P : Y → Type 0) (f : ℕ × X → List Y) (q : ℕ × X → Bool) where
  picked-all : (a : ℕ) (rows : List X) (k : ℕ) (row : X) → All P (flat_map f (filter q (enumerate_from a rows))) → slice_get rows k ≡ Some row → q (a + k, row) ≡ true → All P (f (a + k, row))
  picked-all a [] k row all at is = cc
  picked-all a (x ∷ rows) zero row all at is =
      let here : a + 0 ≡ a = omega arith in
      let same : x ≡ row = one x row at in
      let passes : q (a, x) ≡ true = (λ i. q (sym here i, same i)) ∙ is in
      subst (λ y. All P (f y)) (λ i. (sym here i, same i)) (kept-left P f (q (a, x)) (a, x) (filter q (enumerate_from (a + 1) rows)) passes all)
  picked-all a (x ∷ rows) (suc k) row all at is =
      let e : a + 1 + k ≡ a + suc k = omega arith in
      subst (λ n. All P (f (n, row))) e
      (picked-all (a + 1) rows k row (kept-right P f (q (a, x)) (a, x) (filter q (enumerate_from (a + 1) rows)) all) at (ap (λ n. q (n, row)) e ∙ is))

  all-picked : (a : ℕ) (rows : List X) → ((k : ℕ) (row : X) → slice_get rows k ≡ Some row → q (a + k, row) ≡ true → All P (f (a + k, row))) → All P (flat_map f (filter q (enumerate_from a rows)))
  all-picked a [] each = All-nil P
  all-picked a (x ∷ rows) each =
      let here : a + 0 ≡ a = omega arith in
      keep P f (q (a, x)) (a, x) (filter q (enumerate_from (a + 1) rows))
      (λ is. subst (λ n. All P (f (n, x))) here (each 0 x refl (ap (λ n. q (n, x)) here ∙ is)))
      (all-picked (a + 1) rows (λ k row at is.
      let e : a + suc k ≡ a + 1 + k = omega arith in
      subst (λ n. All P (f (n, row))) e (each (suc k) row at (ap (λ n. q (n, row)) e ∙ is))))

-- ---- runs

module _ {X : Type 0} (P : X → Type 0) (g : ℕ → X) (q : ℕ → Bool) where
  some-left : (b : Bool) (r : ℕ) (rs : List ℕ) → b ≡ true → All P (map g (cond b (r ∷ rs) rs)) → P (g r)
  some-left true r rs is all = All-head P (g r) (map g rs) all
  some-left false r rs is all = absurd (false≢true is)

  some-right : (b : Bool) (r : ℕ) (rs : List ℕ) → All P (map g (cond b (r ∷ rs) rs)) → All P (map g rs)
  some-right true r rs all = All-tail P (g r) (map g rs) all
  some-right false r rs all = all

  in-range : (a n r : ℕ) → All P (map g (filter q (range_with_len a n))) → a ≤ r → r < a + n → q r ≡ true → P (g r)
  in-range a zero r all from to is = absurd (omega (arith, from, to))
  in-range a (suc n) r all from to is = elim (cases_Bool (a == r)) [
    | inl same ↦
        let e : a ≡ r = eqb-true a r same in
        subst (λ m. P (g m)) e (some-left (q a) a (filter q (range_with_len (a + 1) n)) (ap q e ∙ is) all)
    | inr other ↦
        let above : a + 1 ≤ r = later a r from other in
        in-range (a + 1) n r (some-right (q a) a (filter q (range_with_len (a + 1) n)) all) above (omega (arith, to)) is
  ]
    where
      later : (m k : ℕ) → m ≤ k → (m == k) ≡ false → m + 1 ≤ k
      later m k h other = grind (arith, nat_tests)

  all-filtered : (rs : List ℕ) → ((r : ℕ) → q r ≡ true → P (g r)) → All P (map g (filter q rs))
  all-filtered [] each = All-nil P
  all-filtered (r ∷ rs) each =
      let kept : Bool → Type 0 = λ b. All P (map g (cond b (r ∷ filter q rs) (filter q rs))) in
      let rest = all-filtered rs each in
      elim (cases_Bool (q r)) [
        | inl is ↦ subst kept (sym is) (All-cons P (g r) (map g (filter q rs)) (each r is) rest)
        | inr isnt ↦ subst kept (sym isnt) rest
      ]

run-all : {X : Type 0} (P : X → Type 0) (g : ℕ → X) (t : content.Trip) (r : ℕ) → All P (map g (runs t)) → is_run t r ≡ true → r < 3_600_000 → P (g r)
unfolding runs
run-all P g t r all is below = in-range P g (is_run t) 0 3_600_000 r all (omega arith) (omega (arith, below)) is

all-runs : {X : Type 0} (P : X → Type 0) (g : ℕ → X) (t : content.Trip) → ((r : ℕ) → is_run t r ≡ true → P (g r)) → All P (map g (runs t))
unfolding runs
all-runs P g t each = all-filtered P g (is_run t) (range_with_len 0 3_600_000) each

-- ---- a run of a trip of sound parts starts before the thousandth hour

any-ended : (fs : List Frequency) (r : ℕ) → All HasRuns fs → list_any (λ f. starts_run (frequency_of f) r) fs ≡ true → r < 3_600_000
any-ended [] r all is = absurd (false≢true is)
any-ended (f ∷ fs) r all is = elim (cases_Bool (starts_run (frequency_of f) r)) [
  | inl here ↦ let ends = (All-head HasRuns f fs all).ends in let before = ended f r here in omega (arith, ends, before)
  | inr other ↦ any-ended fs r (All-tail HasRuns f fs all) (sym (ap (λ b. b || list_any (λ g. starts_run (frequency_of g) r) fs) other) ∙ is)
]

run-below : (p : Parts) (row : Trip) (rs : List StopRow) (fs : List Frequency) (r : ℕ) → ((k : ℕ) (d : StopRow) → k < length rs → unwrap_or (left_at (get_or rs k d)) 0 ≤ 3_599_999) → All HasRuns fs
    → is_run (trip_of p row rs fs) r ≡ true → r < 3_600_000
run-below p row [] fs r late ends is = absurd (false≢true (sym (no_run p row fs r) ∙ is))
run-below p row (x ∷ rs) [] r late ends is =
    let some : 0 < length (x ∷ rs) = omega arith in
    let start : r ≡ unwrap_or (left_at x) 0 = eqb-true r (unwrap_or (left_at x) 0) (sym (own_run p row (x ∷ rs) x r some) ∙ is) in
    let within = late 0 x some in
    omega (arith, start, within)
run-below p row (x ∷ rs) (f ∷ fs) r late ends is =
    let some : 0 < length (x ∷ rs) = omega arith in
    let more : 0 < length (f ∷ fs) = omega arith in
    any-ended (f ∷ fs) r ends (sym (period_run p row (x ∷ rs) (f ∷ fs) r some more) ∙ is)

record IsThere {X : Type 0} (o : Option X) (q : X → Bool) : Type 0 where
  pub value : X
  pub at : o ≡ Some value
  pub holds : q value ≡ true

there_is : {X : Type 0} (o : Option X) (q : X → Bool) → if_there o q ≡ true → IsThere o q
there_is None q h = absurd (false≢true h)
there_is (Some x) q h = record { value = x; at = refl; holds = h }

it_is : {X : Type 0} (o : Option X) (q : X → Bool) (x : X) → o ≡ Some x → q x ≡ true → if_there o q ≡ true
it_is o q x at holds = ap (λ y. if_there y q) at ∙ holds

-- ---- events and lanes

told-holds : (P : Event → Type 0) (e : Event) (xs : List Event) → All P xs → 1 ≤ tally (is_same e) xs → P e
told-holds P e [] all told = absurd (omega (arith, told))
told-holds P e (x ∷ xs) all told = elim (cases_Bool (is_same e x)) [
  | inl is ↦ subst P (sym (same-is e x is)) (All-head P x xs all)
  | inr isnt ↦ told-holds P e xs (All-tail P x xs all) (subst (λ n. 1 ≤ n) (ap (λ b. cond b 1 0 + tally (is_same e) xs) isnt ∙ zero-add (tally (is_same e) xs)) told)
]

pub lane-tells : (q : Event → Bool) (k : ℕ) (lanes : List LaneValue) (i : ℕ) (lane : LaneValue) → slice_get lanes i ≡ Some lane → (lane.service == k) ≡ true → tally q lane.events ≤ tally q (events_of_service k lanes)
lane-tells q k [] i lane at is = cc
lane-tells q k (y ∷ ys) zero lane at is =
    let same : y ≡ lane = one y lane at in
    let here : (y.service == k) ≡ true = ap (λ l. l.service == k) same ∙ is in
    let all : tally q (events_of_service k (y ∷ ys)) ≡ tally q y.events + tally q (events_of_service k ys) =
    ap (λ b. tally q (flat_map (λ l. l.events) (cond b (y ∷ filter (λ l. l.service == k) ys) (filter (λ l. l.service == k) ys)))) here ∙ tally-append q y.events (events_of_service k ys) in
    let own : tally q y.events ≡ tally q lane.events = ap (λ l. tally q l.events) same in
    omega (arith, all, own)
lane-tells q k (y ∷ ys) (suc i) lane at is =
    let rest = lane-tells q k ys i lane at is in
    let more : tally q (events_of_service k ys) ≤ tally q (events_of_service k (y ∷ ys)) = longer (y.service == k) in
    omega (arith, rest, more)
  where
    longer : (b : Bool) → tally q (events_of_service k ys) ≤ tally q (flat_map (λ l. l.events) (cond b (y ∷ filter (λ l. l.service == k) ys) (filter (λ l. l.service == k) ys)))
    longer true = let all = tally-append q y.events (events_of_service k ys) in omega (arith, all)
    longer false = omega arith

pub told : (b : Bool) (n : ℕ) → n ≡ cond b 1 0 → 1 ≤ n → b ≡ true
told true n is some = refl
told false n is some = absurd (omega (arith, is, some))

module _ (p : Parts) (sound : IsSoundParts p) (s : ℕ) where
  abbrev c : Content
  c = content_of_parts p

  abbrev id : List ℕ
  id = text_of_number (stop_ids p) s

  -- what the number of a trip stands for
  record IsAt (n : ℕ) (t : content.Trip) : Type 0 where
    pub row : Trip
    pub rows : List StopRow
    pub frequencies : List Frequency
    pub at_trip : slice_get p.trips n ≡ Some row
    pub at_rows : slice_get (stop_rows_by_trip p) n ≡ Some rows
    pub at_frequencies : slice_get (frequencies_by_trip p) n ≡ Some frequencies
    pub is : t ≡ trip_of p row rows frequencies

  trip_at : (n : ℕ) (t : content.Trip) → slice_get (content_of_parts p).trips n ≡ Some t → IsAt n t
  trip_at n t at =
      let few = trips_within p p.trips (stop_rows_by_trip p) (frequencies_by_trip p) in
      let within : n < length p.trips = omega (arith, few, slice_get_within (content_of_parts p).trips n t at) in
      let periods : n < length (frequencies_by_trip p) = omega (arith, within, length-parts p.frequency_starts p.frequencies, sound.frequencies.0) in
      let some = some_of p.trips n within in
      let u = get_or p.trips n some in
      let rs = get_or (stop_rows_by_trip p) n [] in
      let fs = get_or (frequencies_by_trip p) n [] in
      let here : slice_get p.trips n ≡ Some u = slice_get-get_or p.trips n some within in
      let at_rows = rows_at p sound n within in
      let at_periods : slice_get (frequencies_by_trip p) n ≡ Some fs = slice_get-get_or (frequencies_by_trip p) n [] periods in
      record {
        row = u;
        rows = rs;
        frequencies = fs;
        at_trip = here;
        at_rows = at_rows;
        at_frequencies = at_periods;
        is = one t (trip_of p u rs fs) (sym at ∙ content_trip p n u rs fs here at_rows at_periods);
      }

  starts_below : (n r : ℕ) (t : content.Trip) → slice_get (content_of_parts p).trips n ≡ Some t → is_run t r ≡ true → r < 3_600_000
  starts_below n r t at is =
      let a = trip_at n t at in
      run-below p a.row a.rows a.frequencies r (left_within p sound n a.rows a.at_rows) (periods_run p sound n a.frequencies a.at_frequencies) (subst (λ u. is_run u r ≡ true) a.is is)

  -- no event is later than the latest
  pub event_late : (service : List ℕ) (e : Event) → is_event (content_of_parts p) (text_of_number (stop_ids p) s) service e ≡ true → e.at ≤ latest (content_of_parts p) (text_of_number (stop_ids p) s)
  event_late service e holds =
      let asked : content.Trip → content.StopRow → Bool = λ t row. (row.stop_sequence == e.seq) && is_departure_row t row && is_in_place c id row.stop_id && (passes_at t e.run row == e.at) in
      let trip = there_is (slice_get c.trips e.trip.0) (λ t. bytes_eq t.service_id service && is_run t e.run && if_there (slice_get t.stop_rows e.row) (asked t)) holds in
      let t = trip.value in
      let a = and_parts (bytes_eq t.service_id service && is_run t e.run) (if_there (slice_get t.stop_rows e.row) (asked t)) trip.holds in
      let runs_then : is_run t e.run ≡ true = (and_parts (bytes_eq t.service_id service) (is_run t e.run) a.0).1 in
      let stop = there_is (slice_get t.stop_rows e.row) (asked t) a.1 in
      let row = stop.value in
      let b = and_parts ((row.stop_sequence == e.seq) && is_departure_row t row && is_in_place c id row.stop_id) (passes_at t e.run row == e.at) stop.holds in
      let d = and_parts ((row.stop_sequence == e.seq) && is_departure_row t row) (is_in_place c id row.stop_id) b.0 in
      let departs = (and_parts (row.stop_sequence == e.seq) (is_departure_row t row) d.0).1 in
      let n = latest c id in
      let P : ℕ → Type 0 = λ x. x ≤ n in
      let g : content.Trip → ℕ × content.StopRow → List ℕ = λ u y. map (λ r. passes_at u r y.1) (runs u) in
      let f : content.Trip → List ℕ = λ u. flat_map (g u) (departure_rows c id u) in
      let every : All P (flat_map f c.trips) = fold-upper 0 (flat_map f c.trips) in
      let own : All P (f t) = part-all P f c.trips e.trip.0 t every trip.at in
      let here : All P (g t (0 + e.row, row)) =
      picked-all P (g t) (λ y. is_departure_row t y.1 && is_in_place c id y.1.stop_id) 0 t.stop_rows e.row row own stop.at (both_true departs d.1) in
      let at : passes_at t e.run row ≤ n = run-all P (λ r. passes_at t r row) t e.run here runs_then (starts_below e.trip.0 e.run t trip.at runs_then) in
      subst (λ x. x ≤ n) (eqb-true (passes_at t e.run row) e.at b.1) at

  module _ (lanes : List LaneValue) (are : AreLanesOf (content_of_parts p) (text_of_number (stop_ids p) s) (service_ids p) lanes) where
    abbrev es : List Event
    es = flat_map (λ lane. lane.events) lanes

    not_later : latest_of (flat_map (λ lane. lane.events) lanes) ≤ latest (content_of_parts p) (text_of_number (stop_ids p) s)
    not_later =
        let n = latest c id in
        let Q : Event → Type 0 = λ e. e.at ≤ n in
        let every : All Q es = all-parts Q (λ lane. lane.events) lanes (λ i lane at j d within.
        let inside = slice_get_within lanes i lane at in
        let k = lane.service in
        let e = get_or lane.events j d in
        let known : k < length (service_ids p) = subst (λ l. l.service < length (service_ids p)) (get_or_from_slice_get lanes i lane lane at) (are.within i lane inside) in
        let some = one_at (is_same e) lane.events j d within (same-self e) in
        let more = lane-tells (is_same e) k lanes i lane at (itself k) in
        let event = told (is_event c id (text_of_number (service_ids p) k) e) (tally (is_same e) (events_of_service k lanes)) (are.exact k e known) (omega (arith, some, more)) in
        event_late (text_of_number (service_ids p) k) e event) in
        fold-least n 0 (map (λ e. e.at) es) (omega arith) (All-map (λ x. x ≤ n) (λ e. e.at) es every)

    not_earlier : latest (content_of_parts p) (text_of_number (stop_ids p) s) ≤ latest_of (flat_map (λ lane. lane.events) lanes)
    not_earlier =
        let n = latest_of es in
        let P : ℕ → Type 0 = λ x. x ≤ n in
        let Q : Event → Type 0 = λ e. e.at ≤ n in
        let g : content.Trip → ℕ × content.StopRow → List ℕ = λ u y. map (λ r. passes_at u r y.1) (runs u) in
        let f : content.Trip → List ℕ = λ u. flat_map (g u) (departure_rows c id u) in
        let bounded : All Q es = λ j d within. all_of (λ e. e.at) es (fold-upper 0 (map (λ e. e.at) es)) j d within in
        let every : All P (flat_map f c.trips) = all-parts P f c.trips (λ i t at.
        all-picked P (g t) (λ y. is_departure_row t y.1 && is_in_place c id y.1.stop_id) 0 t.stop_rows (λ k row at_row is.
        all-runs P (λ r. passes_at t r row) t (λ r runs_then.
        let a = trip_at i t at in
        let service = a.row.service_id.0 in
        let e : Event = record { at = passes_at t r row; trip = record { 0 = i }; run = r; seq = row.stop_sequence; row = k } in
        let known : service < length (service_ids p) = (let size = length-map p.services (λ x. x.service_id) in let below = trip_service p sound i a.row a.at_trip in omega (arith, size, below)) in
        let two = and_parts (is_departure_row t row) (is_in_place c id row.stop_id) is in
        let own : bytes_eq t.service_id (text_of_number (service_ids p) service) ≡ true =
        ap (λ u. bytes_eq u.service_id (text_of_number (service_ids p) service)) a.is ∙ text_itself (text_of_number (service_ids p) service) in
        let asked : content.Trip → content.StopRow → Bool = λ u x. (x.stop_sequence == e.seq) && is_departure_row u x && is_in_place c id x.stop_id && (passes_at u e.run x == e.at) in
        let here : if_there (slice_get t.stop_rows k) (asked t) ≡ true =
        it_is (slice_get t.stop_rows k) (asked t) row at_row (both_true (both_true (both_true (itself row.stop_sequence) two.0) two.1) (itself (passes_at t r row))) in
        let event : is_event c id (text_of_number (service_ids p) service) e ≡ true =
        it_is (slice_get c.trips i) (λ u. bytes_eq u.service_id (text_of_number (service_ids p) service) && is_run u e.run && if_there (slice_get u.stop_rows e.row) (asked u)) t at
        (both_true (both_true own runs_then) here) in
        let once : 1 ≤ tally (is_same e) (events_of_service service lanes) = (let count = are.exact service e known ∙ ap (λ b. cond b 1 0) event in omega (arith, count)) in
        told-holds Q e (events_of_service service lanes) (filtered-all Q (λ lane. lane.events) (λ lane. lane.service == service) lanes bounded) once))) in
        fold-least n 0 (flat_map f c.trips) (omega arith) every
      where
        all_of : {X : Type 0} (h : X → ℕ) (xs : List X) {m : ℕ} → All (λ x. x ≤ m) (map h xs) → (j : ℕ) (d : X) → j < length xs → h (get_or xs j d) ≤ m
        all_of h [] all j d within = absurd (omega (arith, within))
        all_of h (x ∷ xs) {m = m} all zero d within = All-head (λ y. y ≤ m) (h x) (map h xs) all
        all_of h (x ∷ xs) {m = m} all (suc j) d within = all_of h xs (All-tail (λ y. y ≤ m) (h x) (map h xs) all) j d (omega (arith, within))

    pub latest_is : latest_of (flat_map (λ lane. lane.events) lanes) ≡ latest (content_of_parts p) (text_of_number (stop_ids p) s)
    latest_is = let a = not_later in let b = not_earlier in omega (arith, a, b)
