-- The events of lanes and the departures of a feed: what one says of the other.
use Rattle.std.proofs.Common.{◌≡◌, ◌+◌, ◌≤◌, ◌<◌, ℕ, zero, suc, ◌&&◌, Bool, true, false, cond, List, [], ◌∷◌, inl, inr, map, length, get_or, Option, Some, None, refl, sym, ap, subst, ◌∙◌, arith}
use Rattle.std.specs.Prelude.{◌==◌, slice_get, bytes_eq}
use Rattle.std.specs.List.{filter, list_any}
use Rattle.std.proofs.lemmas.Bool.{cases_Bool, cases_lt, cases_order, false≢true, and_parts, and_from, or_cases, eqb-true, eq-eqb}
use Rattle.std.proofs.lemmas.Cmp.{nat_list_cmp_total, nat_cmp_total}
use Rattle.std.proofs.lemmas.List.{get_or_past}
use Rattle.std.proofs.lemmas.Option.{get_or_from_slice_get, same_Some as some_is, slice_get-get_or, slice_get_within}
use Rattle.std.specs.Cmp.{tied_itself}
use Rattle.std.specs.Ordering.{nat_cmp, on}
use Rattle.std.specs.declared.cmp.Ordering.{Ordering}
use Rattle.std.specs.declared.cmp.Ordering.TheVariants.{Less, Equal}
use Rattle.gtfs_field.proofs.OrderingFacts.{equal}
use Rattle.gtfs_field.specs.TextOrder.{text_cmp}
use Rattle.gtfs_schema.proofs.SiteFacts.{text_is, text_itself}
use Rattle.gtfs_schema.specs.FieldValues.{if_there}
use Rattle.gtfs_rows.specs.Content.{Content}
use Rattle.gtfs_rows.specs.TransferOrder.{Ascends}
use Rattle.gtfs_rows.specs.Rows.{StopRow, Trip}
use Rattle.gtfs_rows.specs.RowsInMemory.{text_of_number, trip_of, trips_of}
use Rattle.gtfs_rows.specs.declared.frequency.Frequency.{Frequency as PeriodRow}
use Rattle.gtfs_rows.specs.declared.parts.Parts.{Parts}
use Rattle.gtfs_stop_times.specs.declared.stop_row.StopRow.{StopRow as StopTime}
use Rattle.gtfs_rows.specs.declared.trip.Trip.{Trip as TripRow}
use Rattle.gtfs_runs.specs.EventOrder.{is_same}
use Rattle.gtfs_runs.specs.Tallies.{tally}
use Rattle.gtfs_runs.specs.Events.{is_event}
use Rattle.gtfs_rows.specs.Places.{is_in_place}
use Rattle.gtfs_runs.specs.StopLanes.{AreLanesOf, LaneValue, StopLanesValue, events_of_service, lanes_of}
use Rattle.gtfs_rows.specs.Runs.{is_run, is_departure_row, passes_at}
use Rattle.gtfs_runs.specs.declared.event.Event.{Event}
use Rattle.gtfs_runs.proofs.Counting.{same-is as event_same, same-self as same_itself}
use Rattle.gtfs_runs.proofs.Tallies.{tally-append as tally_more}
use Rattle.gtfs_board.specs.LaneDays.{lane_at, no_lane}
use Rattle.gtfs_board.specs.upcoming.QueueOrder.{In}
use Rattle.gtfs_board.proofs.LaneDays.{flat_map-in}
use Rattle.gtfs_board.proofs.Rests.{filter-in}

-- ---- elements of lists by their indices

pub any_at : {X : Type 0} (q : X → Bool) (xs : List X) → list_any q xs ≡ true → (n : ℕ) × (x : X) × ((slice_get xs n ≡ Some x) × (q x ≡ true))
any_at q [] h = absurd (false≢true h)
any_at q (x ∷ xs) h = elim (or_cases (q x) (list_any q xs) h) [
  | inl now ↦ (0, x, (refl, now))
  | inr later ↦ let r = any_at q xs later in (suc r.0, r.1, (r.2.0, r.2.1))
]

pub in_at : {X : Type 0} (xs : List X) (x : X) → In x xs → (n : ℕ) × (slice_get xs n ≡ Some x)
in_at [] x here = absurd here
in_at (y ∷ ys) x here = elim here [
  | inl e ↦ (0, ap Some (sym e))
  | inr later ↦ let r = in_at ys x later in (suc r.0, r.1)
]

pub at_in : {X : Type 0} (xs : List X) (n : ℕ) (x : X) → slice_get xs n ≡ Some x → In x xs
at_in [] n x at = cc
at_in (y ∷ ys) zero x at = inl (sym (some_is y x at))
at_in (y ∷ ys) (suc n) x at = inr (at_in ys n x at)

pub map_at : {A B : Type 0} (f : A → B) (xs : List A) (n : ℕ) (y : B) → slice_get (map f xs) n ≡ Some y → (x : A) × ((slice_get xs n ≡ Some x) × (f x ≡ y))
map_at f [] n y at = cc
map_at f (x ∷ xs) zero y at = (x, (refl, some_is (f x) y at))
map_at f (x ∷ xs) (suc n) y at = map_at f xs n y at

unlike : (r : Ordering) → r ≡ Less → r ≡ Equal → ⊥
unlike r less equal = cc

-- different numbers stand for different ids
pub same_number : (ids : List (List ℕ)) (m n : ℕ) → Ascends text_cmp ids → m < length ids → n < length ids → text_of_number ids m ≡ text_of_number ids n → m ≡ n
same_number ids m n up in_m in_n same = elim (cases_order m n) [
  | inl e ↦ e
  | inr (inl less) ↦ absurd (unlike (text_cmp (text_of_number ids m) (text_of_number ids n)) (up m n [] less in_n)
      (ap (text_cmp (text_of_number ids m)) (sym same) ∙ tied_itself nat_list_cmp_total (text_of_number ids m)))
  | inr (inr more) ↦ absurd (unlike (text_cmp (text_of_number ids n) (text_of_number ids m)) (up n m [] more in_m)
      (ap (text_cmp (text_of_number ids n)) same ∙ tied_itself nat_list_cmp_total (text_of_number ids n)))
]

-- rows of one sequence are one
pub same_row : (rs : List StopRow) (m n : ℕ) (x y : StopRow) → Ascends (on (λ r. r.stop_sequence) nat_cmp) rs → slice_get rs m ≡ Some x → slice_get rs n ≡ Some y
    → x.stop_sequence ≡ y.stop_sequence → m ≡ n
same_row rs m n x y up at_m at_n same =
    let is_x = get_or_from_slice_get rs m x x at_m in
    let is_y = get_or_from_slice_get rs n y x at_n in
    elim (cases_order m n) [
      | inl e ↦ e
      | inr (inl less) ↦ absurd (unlike (nat_cmp (get_or rs m x).stop_sequence (get_or rs n x).stop_sequence) (up m n x less (slice_get_within rs n y at_n))
          ((λ i. nat_cmp (is_x i).stop_sequence (is_y i).stop_sequence) ∙ ap (nat_cmp x.stop_sequence) (sym same) ∙ tied_itself nat_cmp_total x.stop_sequence))
      | inr (inr more) ↦ absurd (unlike (nat_cmp (get_or rs n x).stop_sequence (get_or rs m x).stop_sequence) (up n m x more (slice_get_within rs m x at_m))
          ((λ i. nat_cmp (is_y i).stop_sequence (is_x i).stop_sequence) ∙ ap (nat_cmp y.stop_sequence) same ∙ tied_itself nat_cmp_total y.stop_sequence))
    ]

pub there_some : {X : Type 0} (o : Option X) (q : X → Bool) → if_there o q ≡ true → (x : X) × ((o ≡ Some x) × (q x ≡ true))
there_some None q h = absurd (false≢true h)
there_some (Some x) q h = (x, (refl, h))

-- ---- what an event says

-- the event is a run of a trip of the service that passes a departure row at the place
pub record IsPassing (f : Content) (s service : List ℕ) (e : Event) : Type 0 where
  pub trip : Trip
  pub row : StopRow
  pub trip_at : slice_get f.trips e.trip.0 ≡ Some trip
  pub row_at : slice_get trip.stop_rows e.row ≡ Some row
  pub service_is : trip.service_id ≡ service
  pub run : is_run trip e.run ≡ true
  pub sequence : row.stop_sequence ≡ e.seq
  pub departs : is_departure_row trip row ≡ true
  pub place : is_in_place f s row.stop_id ≡ true
  pub at : passes_at trip e.run row ≡ e.at

pub passing : (f : Content) (s service : List ℕ) (e : Event) → is_event f s service e ≡ true → IsPassing f s service e
passing f s service e h =
    let t = there_some (slice_get f.trips e.trip.0) _ h in
    let all = and_parts (bytes_eq t.0.service_id service && is_run t.0 e.run) _ t.1.1 in
    let first = and_parts (bytes_eq t.0.service_id service) (is_run t.0 e.run) all.0 in
    let r = there_some (slice_get t.0.stop_rows e.row) _ all.1 in
    let three = and_parts ((r.0.stop_sequence == e.seq) && is_departure_row t.0 r.0 && is_in_place f s r.0.stop_id) (passes_at t.0 e.run r.0 == e.at) r.1.1 in
    let two = and_parts ((r.0.stop_sequence == e.seq) && is_departure_row t.0 r.0) (is_in_place f s r.0.stop_id) three.0 in
    let one = and_parts (r.0.stop_sequence == e.seq) (is_departure_row t.0 r.0) two.0 in
    record {
      trip = t.0;
      row = r.0;
      trip_at = t.1.0;
      row_at = r.1.0;
      service_is = text_is t.0.service_id service first.0;
      run = first.1;
      sequence = eqb-true r.0.stop_sequence e.seq one.0;
      departs = one.1;
      place = two.1;
      at = eqb-true (passes_at t.0 e.run r.0) e.at three.1;
    }

pub of_passing : (f : Content) (s service : List ℕ) (e : Event) → IsPassing f s service e → is_event f s service e ≡ true
of_passing f s service e h =
    ap (λ o. if_there o (λ t. bytes_eq t.service_id service && is_run t e.run && if_there (slice_get t.stop_rows e.row) (λ row. (row.stop_sequence == e.seq) && is_departure_row t row && is_in_place f s row.stop_id && (passes_at t e.run row == e.at)))) h.trip_at
    ∙ and_from (bytes_eq h.trip.service_id service && is_run h.trip e.run) _
    (and_from (bytes_eq h.trip.service_id service) (is_run h.trip e.run) (ap (bytes_eq h.trip.service_id) (sym h.service_is) ∙ text_itself h.trip.service_id) h.run)
    (ap (λ o. if_there o (λ row. (row.stop_sequence == e.seq) && is_departure_row h.trip row && is_in_place f s row.stop_id && (passes_at h.trip e.run row == e.at))) h.row_at
    ∙ and_from ((h.row.stop_sequence == e.seq) && is_departure_row h.trip h.row && is_in_place f s h.row.stop_id) (passes_at h.trip e.run h.row == e.at)
    (and_from ((h.row.stop_sequence == e.seq) && is_departure_row h.trip h.row) (is_in_place f s h.row.stop_id)
    (and_from (h.row.stop_sequence == e.seq) (is_departure_row h.trip h.row) (eq-eqb h.row.stop_sequence e.seq h.sequence) h.departs) h.place)
    (eq-eqb (passes_at h.trip e.run h.row) e.at h.at))

-- ---- how often an event stands in lanes

pub in_tally : (e : Event) (xs : List Event) → In e xs → 0 < tally (is_same e) xs
in_tally e [] here = absurd here
in_tally e (x ∷ xs) here = elim here [
  | inl is ↦ let s : is_same e x ≡ true = ap (is_same e) (sym is) ∙ same_itself e in rw s (omega arith)
  | inr later ↦ let rest = in_tally e xs later in omega (arith, rest)
]

pub tally_in : (e : Event) (xs : List Event) → 0 < tally (is_same e) xs → In e xs
tally_in e [] h = absurd (omega (arith, h))
tally_in e (x ∷ xs) h = elim (cases_Bool (is_same e x)) [
  | inl is ↦ inl (event_same e x is)
  | inr isnt ↦ let rest = rw isnt at h in inr (tally_in e xs (omega (arith, rest)))
]

of_service : (k : ℕ) (l : LaneValue) (ls : List LaneValue) (e : Event) → l.service ≡ k
    → tally (is_same e) (events_of_service k (l ∷ ls)) ≡ tally (is_same e) l.events + tally (is_same e) (events_of_service k ls)
of_service k l ls e is =
    let here : (l.service == k) ≡ true = eq-eqb l.service k is in
    rw here (tally_more (is_same e) l.events (events_of_service k ls))

of_any : (k : ℕ) (l : LaneValue) (ls : List LaneValue) (e : Event) → tally (is_same e) (events_of_service k ls) ≤ tally (is_same e) (events_of_service k (l ∷ ls))
of_any k l ls e = elim (cases_Bool (l.service == k)) [
  | inl is ↦ let more = tally_more (is_same e) l.events (events_of_service k ls) in rw is (omega (arith, more))
  | inr isnt ↦ rw isnt (omega arith)
]

pub lane_once : (k : ℕ) (ls : List LaneValue) (e : Event) (i : ℕ) (a : LaneValue) → slice_get ls i ≡ Some a → a.service ≡ k → In e a.events
    → 0 < tally (is_same e) (events_of_service k ls)
lane_once k [] e i a at is there = cc
lane_once k (l ∷ ls) e zero a at is there =
    let same = some_is l a at in
    let both = of_service k l ls e (ap (λ x. x.service) same ∙ is) in
    let here = in_tally e l.events (subst (λ (x : LaneValue). In e x.events) (sym same) there) in
    omega (arith, both, here)
lane_once k (l ∷ ls) e (suc i) a at is there =
    let rest = lane_once k ls e i a at is there in
    let more = of_any k l ls e in
    omega (arith, rest, more)

pub lanes_twice : (k : ℕ) (ls : List LaneValue) (e : Event) (i j : ℕ) (a b : LaneValue) → i < j → slice_get ls i ≡ Some a → slice_get ls j ≡ Some b
    → a.service ≡ k → b.service ≡ k → In e a.events → In e b.events → 1 < tally (is_same e) (events_of_service k ls)
lanes_twice k [] e i j a b less at_a at_b is_a is_b there_a there_b = cc
lanes_twice k (l ∷ ls) e i zero a b less at_a at_b is_a is_b there_a there_b = absurd (omega (arith, less))
lanes_twice k (l ∷ ls) e zero (suc j) a b less at_a at_b is_a is_b there_a there_b =
    let same = some_is l a at_a in
    let both = of_service k l ls e (ap (λ x. x.service) same ∙ is_a) in
    let here = in_tally e l.events (subst (λ (x : LaneValue). In e x.events) (sym same) there_a) in
    let rest = lane_once k ls e j b at_b is_b there_b in
    omega (arith, both, here, rest)
lanes_twice k (l ∷ ls) e (suc i) (suc j) a b less at_a at_b is_a is_b there_a there_b =
    let rest = lanes_twice k ls e i j a b (omega (arith, less)) at_a at_b is_a is_b there_a there_b in
    let more = of_any k l ls e in
    omega (arith, rest, more)

-- the lanes of a stop
module _ (f : Content) (s : List ℕ) (ids : List (List ℕ)) (lanes : StopLanesValue) (are : AreLanesOf f s ids (lanes_of lanes)) where
  pub lane_there : (i : ℕ) (e : Event) → In e (lane_at lanes i).events → i < length (lanes_of lanes)
  lane_there i e there = elim (cases_lt i (length (lanes_of lanes))) [
    | inl inside ↦ inside
    | inr past ↦ absurd (subst (In e) (ap (λ (l : LaneValue). l.events) (get_or_past (lanes_of lanes) i no_lane past)) there)
  ]

  pub lane_is : (i : ℕ) → i < length (lanes_of lanes) → slice_get (lanes_of lanes) i ≡ Some (lane_at lanes i)
  lane_is i inside = slice_get-get_or (lanes_of lanes) i no_lane inside

  pub service_within : (i : ℕ) (e : Event) → In e (lane_at lanes i).events → (lane_at lanes i).service < length ids
  service_within i e there = are.within i no_lane (lane_there i e there)

  -- each event of a lane belongs to the lane's service
  pub lane_event : (i : ℕ) (e : Event) → In e (lane_at lanes i).events → is_event f s (text_of_number ids (lane_at lanes i).service) e ≡ true
  lane_event i e there =
      let k = (lane_at lanes i).service in
      let once = lane_once k (lanes_of lanes) e i (lane_at lanes i) (lane_is i (lane_there i e there)) refl there in
      let exact = are.exact k e (service_within i e there) in
      elim (cases_Bool (is_event f s (text_of_number ids k) e)) [
        | inl is ↦ is
        | inr isnt ↦ let none = exact ∙ ap (λ b. cond b 1 0) isnt in absurd (omega (arith, once, none))
      ]

  -- and no other lane of the service has it
  pub lane_one : (i j : ℕ) (e : Event) → In e (lane_at lanes i).events → In e (lane_at lanes j).events → (lane_at lanes i).service ≡ (lane_at lanes j).service → i ≡ j
  lane_one i j e there_i there_j same =
      let exact_i = are.exact (lane_at lanes i).service e (service_within i e there_i) in
      let exact_j = are.exact (lane_at lanes j).service e (service_within j e there_j) in
      let at_i = lane_is i (lane_there i e there_i) in
      let at_j = lane_is j (lane_there j e there_j) in
      elim (cases_order i j) [
        | inl is ↦ is
        | inr (inl less) ↦ absurd (too_often _ _ (lanes_twice (lane_at lanes i).service (lanes_of lanes) e i j _ _ less at_i at_j refl (sym same) there_i there_j) exact_i)
        | inr (inr more) ↦ absurd (too_often _ _ (lanes_twice (lane_at lanes j).service (lanes_of lanes) e j i _ _ more at_j at_i refl same there_j there_i) exact_j)
      ]
    where
      too_often : (n : ℕ) (b : Bool) → 1 < n → n ≡ cond b 1 0 → ⊥
      too_often n true more is = omega (arith, more, is)
      too_often n false more is = omega (arith, more, is)

  -- each event of a service stands in a lane of the service
  pub event_lane : (k : ℕ) (e : Event) → k < length ids → is_event f s (text_of_number ids k) e ≡ true
      → (i : ℕ) × ((i < length (lanes_of lanes)) × (((lane_at lanes i).service ≡ k) × In e (lane_at lanes i).events))
  event_lane k e within is =
      let count : tally (is_same e) (events_of_service k (lanes_of lanes)) ≡ 1 = are.exact k e within ∙ ap (λ b. cond b 1 0) is in
      let there = tally_in e (events_of_service k (lanes_of lanes)) (omega (arith, count)) in
      let from = flat_map-in (λ (lane : LaneValue). lane.events) (filter (λ lane. lane.service == k) (lanes_of lanes)) e there in
      let kept = filter-in (λ (lane : LaneValue). lane.service == k) (lanes_of lanes) from.0 from.1.0 in
      let index = in_at (lanes_of lanes) from.0 kept.0 in
      let own : lane_at lanes index.0 ≡ from.0 = get_or_from_slice_get (lanes_of lanes) index.0 from.0 no_lane index.1 in (
        index.0,
        (
          slice_get_within (lanes_of lanes) index.0 from.0 index.1,
          (ap (λ (l : LaneValue). l.service) own ∙ eqb-true from.0.service k kept.1, subst (λ (l : LaneValue). In e l.events) (sym own) from.1.1),
        ),
      )

-- ---- the trips of the content

pub trip_back : (p : Parts) (ts : List TripRow) (rs : List (List StopTime)) (fs : List (List PeriodRow)) (n : ℕ) (t : Trip) → slice_get (trips_of p ts rs fs) n ≡ Some t
    → (row : TripRow) × (r : List StopTime) × (q : List PeriodRow) × ((slice_get ts n ≡ Some row) × ((slice_get rs n ≡ Some r) × ((slice_get fs n ≡ Some q) × (trip_of p row r q ≡ t))))
trip_back p [] rs fs n t at = cc
trip_back p (u ∷ ts) [] fs n t at = cc
trip_back p (u ∷ ts) (x ∷ rs) [] n t at = cc
trip_back p (u ∷ ts) (x ∷ rs) (y ∷ fs) zero t at = (u, x, y, (refl, (refl, (refl, some_is (trip_of p u x y) t at))))
trip_back p (u ∷ ts) (x ∷ rs) (y ∷ fs) (suc n) t at = trip_back p ts rs fs n t at
