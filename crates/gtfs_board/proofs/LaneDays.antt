-- The departures of lanes on days: where they stand, and in which order.
use Rattle.std.proofs.Common.{◌≡◌, ◌+◌, ◌≤◌, ◌<◌, ℕ, zero, suc, ℤ, Bool, true, false, cond, List, [], ◌∷◌, ◌⊎◌, inl, inr, map, length, get_or, Option, Some, None, refl, sym, ap, subst, ◌∙◌, arith, find, unwrap_or, w64, SFits, to_z, of_z}
use Rattle.std.specs.Prelude.{◌^◌, negsuc, option_map, pos, ◌+ℤ◌, ◌-ℤ◌, ◌*ℤ◌, ◌<ℤ◌, ◌≤ℤ◌, int_le, slice_get}
use Rattle.std.specs.Int.{int_max, int_min}
use Rattle.std.specs.List.{filter, flat_map, range_with_len}
use Rattle.std.proofs.lemmas.Int.{ints, clamps, to_z-of_z}
use Rattle.std.proofs.lemmas.Bool.{cases_Bool, cases_lt, true≢false, and_parts}
use Rattle.std.proofs.lemmas.List.{get_or_past, length-map}
use Rattle.jiff_core.specs.Calendar.{IsWithin}
use Rattle.gtfs_schema.specs.FieldValues.{if_there}
use Rattle.gtfs_days.proofs.Clocks.{zone_origin-near}
use Rattle.gtfs_days.specs.Service.{IsFirst, ServiceDates, is_active, is_service_day, first_service_day, last_service_day, service_days}
use Rattle.gtfs_days.specs.Zone.{zone_origin}
use Rattle.gtfs_days.specs.declared.zone.Zone.{Zone}
use Rattle.gtfs_rows.proofs.SameElements.{pairs-head, pairs-tail}
use Rattle.gtfs_rows.specs.TransferOrder.{Ascends}
use Rattle.gtfs_rows.specs.declared.parts.Parts.{Parts}
use Rattle.gtfs_rows.specs.declared.service.ServiceRow.{ServiceRow}
use Rattle.std.specs.declared.cmp.Ordering.{Ordering}
use Rattle.std.specs.declared.cmp.Ordering.TheVariants.{Less, Equal, Greater}
use Rattle.std.specs.Ordering.{is_lt, nat_cmp, int_cmp, ordering_then}
use Rattle.std.specs.Cmp.{int_cmp_is, nat_cmp_is, tied_itself}
use Rattle.std.proofs.lemmas.Bool.{cases_order}
use Rattle.std.proofs.lemmas.Cmp.{int_cmp_total, nat_cmp_total}
use Rattle.gtfs_field.proofs.NumberFacts.{cases_int, int_le-true, le-int_le}
use Rattle.gtfs_days.proofs.ActiveDays.{before_service as day_too_early}
use Rattle.gtfs_runs.specs.EventOrder.{event_cmp, is_above_moment, is_later}
use Rattle.gtfs_runs.specs.declared.moment.Moment.{Moment}
use Rattle.gtfs_runs.specs.StopLanes.{StopLanesValue, lanes_of}
use Rattle.gtfs_runs.specs.declared.event.Event.{Event}
use Rattle.gtfs_rows.specs.Departures.{Origins}
use Rattle.gtfs_board.specs.LaneDays.{departing, event_of, serves_on, no_lane, lane_at, ends_by, departures_on, departures_of_day, all_departures, AreAscending, AreTimely}
use Rattle.gtfs_board.specs.declared.upcoming.candidate.Candidate.{Candidate}
use Rattle.gtfs_board.specs.upcoming.Candidates.{candidate_lt, IsAside, AreCandidateLanes, AreFromOrigin, EndsBy, day_of, lane_of, first_above}
use Rattle.gtfs_board.specs.upcoming.OpenedLanes.{AreAll}
use Rattle.gtfs_board.specs.upcoming.QueueOrder.{In, Each, AscendsBy}
use Rattle.gtfs_board.proofs.Candidates.{candidates_strict, not_lt-instant}
use Rattle.gtfs_board.proofs.Orders.{Each-in, each-all, find-agree, in-left, in-right, in-either}
use Rattle.gtfs_board.proofs.Rests.{in-filter, filter-in}
use Rattle.gtfs_board.proofs.ServiceDays.{day_listed}
use Rattle.gtfs_board.proofs.Window.{each_in, each_weaker}

-- ---- members of lists

pub in-map : {A B : Type 0} (f : A → B) (xs : List A) (x : A) → In x xs → In (f x) (map f xs)
in-map f [] x here = absurd here
in-map f (y ∷ ys) x here = elim here [ inl e ↦ inl (ap f e) | inr later ↦ inr (in-map f ys x later) ]

pub map-in : {A B : Type 0} (f : A → B) (xs : List A) (y : B) → In y (map f xs) → (x : A) × (In x xs × (y ≡ f x))
map-in f [] y here = absurd here
map-in f (x ∷ xs) y here = elim here [
  | inl e ↦ (x, (inl refl, e))
  | inr later ↦ let r = map-in f xs y later in (r.0, (inr r.1.0, r.1.1))
]

pub in-flat_map : {A B : Type 0} (f : A → List B) (xs : List A) (x : A) (y : B) → In x xs → In y (f x) → In y (flat_map f xs)
in-flat_map f [] x y here there = absurd here
in-flat_map f (z ∷ xs) x y here there = elim here [
  | inl e ↦ in-left (f z) (flat_map f xs) y (subst (λ w. In y (f w)) e there)
  | inr later ↦ in-right (f z) (flat_map f xs) y (in-flat_map f xs x y later there)
]

pub flat_map-in : {A B : Type 0} (f : A → List B) (xs : List A) (y : B) → In y (flat_map f xs) → (x : A) × (In x xs × In y (f x))
flat_map-in f [] y here = absurd here
flat_map-in f (x ∷ xs) y here = elim (in-either (f x) (flat_map f xs) y here) [
  | inl now ↦ (x, (inl refl, now))
  | inr later ↦ let r = flat_map-in f xs y later in (r.0, (inr r.1.0, r.1.1))
]

pub in-range : (a n i : ℕ) → a ≤ i → i < a + n → In i (range_with_len a n)
in-range a zero i from to = absurd (omega arith)
in-range a (suc n) i from to = elim (cases_lt a i) [
  | inl later ↦ inr (in-range (a + 1) n i (omega arith) (omega arith))
  | inr upto ↦ inl (omega arith)
]

pub range-in : (a n i : ℕ) → In i (range_with_len a n) → (a ≤ i) × (i < a + n)
range-in a zero i here = absurd here
range-in a (suc n) i here = elim here [
  | inl e ↦ (omega arith, omega arith)
  | inr later ↦ let r = range-in (a + 1) n i later in (omega (arith, r.0), omega (arith, r.1))
]

-- ---- ascending lists

pub ascending-filter : {C : Type 0} (lt : C → C → Bool) (p : C → Bool) (xs : List C) → AscendsBy lt xs → AscendsBy lt (filter p xs)
ascending-filter lt p [] a = tt
ascending-filter lt p (x ∷ xs) a = elim (cases_Bool (p x)) [
  | inl is ↦ rw is (each_in (λ y. lt x y ≡ true) (filter p xs) (λ y there. Each-in (λ z. lt x z ≡ true) xs y a.0 (filter-in p xs y there).0), ascending-filter lt p xs a.1)
  | inr isnt ↦ rw isnt (ascending-filter lt p xs a.1)
]

none_passes : {C : Type 0} (p : C → Bool) (xs : List C) → Each (λ x. p x ≡ false) xs → filter p xs ≡ []
none_passes p [] all = refl
none_passes p (x ∷ xs) all = rw all.0 (none_passes p xs all.1)

abbrev pub keep : {C : Type 0} → (C → Bool) → Option C → Option C
keep p None = None
keep p (Some x) = cond (p x) (Some x) None

-- what is left of a list of one has nothing after itself
none_after : (p : Candidate → Bool) (c : Candidate) (xs : List Candidate) → length xs ≡ 1 → In c (filter p xs) → first_above c (filter p xs) ≡ None
none_after p c [] one there = absurd there
none_after p c (x ∷ y ∷ ys) one there = absurd (omega (arith, one))
none_after p c (x ∷ []) one there =
    let same : c ≡ x = elim (filter-in p (x ∷ []) c there).0 [ inl e ↦ e | inr later ↦ absurd later ] in
    let last : candidate_lt c x ≡ false = ap (candidate_lt c) (sym same) ∙ candidates_strict.irrefl c in
    elim (cases_Bool (p x)) [
      | inl is ↦ rw (is, last) refl
      | inr isnt ↦ rw isnt refl
    ]

-- in a list that ascends and is cut at an end, the first that passes
pub find-cut : {C : Type 0} (lt : C → C → Bool) (p cut : C → Bool) → ((x y : C) → lt x y ≡ true → cut x ≡ false → cut y ≡ false)
    → (xs : List C) → AscendsBy lt xs → find p (filter cut xs) ≡ keep cut (find p xs)
find-cut lt p cut down [] a = refl
find-cut lt p cut down (x ∷ xs) a = elim (cases_Bool (p x)) [
  | inl passes ↦ elim (cases_Bool (cut x)) [
    | inl inside ↦ rw (passes, inside, passes) refl
    | inr past ↦
        let none = none_passes cut xs (each_weaker (λ y. lt x y ≡ true) (λ y. cut y ≡ false) (λ y h. down x y h past) xs a.0) in
        rw (passes, past, none) refl
  ]
  | inr fails ↦ elim (cases_Bool (cut x)) [
    | inl inside ↦ rw (inside, fails) (find-cut lt p cut down xs a.1)
    | inr past ↦ rw (past, fails) (find-cut lt p cut down xs a.1)
  ]
]

abbrev pub map_option : {A B : Type 0} → (A → B) → Option A → Option B
map_option f None = None
map_option f (Some x) = Some (f x)

pub find-mapped : {A B : Type 0} (f : A → B) (q : B → Bool) (xs : List A) → find q (map f xs) ≡ map_option f (find (λ x. q (f x)) xs)
find-mapped f q [] = refl
find-mapped f q (x ∷ xs) = elim (cases_Bool (q (f x))) [
  | inl passes ↦ rw passes refl
  | inr fails ↦ rw fails (find-mapped f q xs)
]

-- ---- departures and events

-- an origin more changes nothing
shifted : (o : ℤ) (a b : ℕ) → int_cmp (o +ℤ pos a) (o +ℤ pos b) ≡ nat_cmp a b
shifted o a b = elim (cases_order a b) [
  | inl same ↦ sym (int_cmp_is (o +ℤ pos a) (o +ℤ pos b) Equal (omega (arith, ints, same))) ∙ nat_cmp_is a b Equal same
  | inr (inl less) ↦ sym (int_cmp_is (o +ℤ pos a) (o +ℤ pos b) Less (omega (arith, ints, less))) ∙ nat_cmp_is a b Less less
  | inr (inr more) ↦ sym (int_cmp_is (o +ℤ pos a) (o +ℤ pos b) Greater (omega (arith, ints, more))) ∙ nat_cmp_is a b Greater more
]

same_then : (a t r s w : Ordering) → is_lt (ordering_then (ordering_then a (ordering_then t (ordering_then r (ordering_then s Equal)))) (ordering_then Equal (ordering_then w a)))
    ≡ is_lt (ordering_then a (ordering_then t (ordering_then r (ordering_then s w))))
same_then Less t r s w = refl
same_then Greater t r s w = refl
same_then Equal Less r s w = refl
same_then Equal Greater r s w = refl
same_then Equal Equal Less s w = refl
same_then Equal Equal Greater s w = refl
same_then Equal Equal Equal Less w = refl
same_then Equal Equal Equal Greater w = refl
same_then Equal Equal Equal Equal Less = refl
same_then Equal Equal Equal Equal Equal = refl
same_then Equal Equal Equal Equal Greater = refl

-- the departures of a lane on a day are in the order of their events
pub in_order_of : (o d : ℤ) (i : ℕ) (e x : Event) → candidate_lt (departing o d i e) (departing o d i x) ≡ is_later e x
in_order_of o d i e x =
    let times = shifted o e.at x.at in
    let days = tied_itself int_cmp_total d in
    let lanes = tied_itself nat_cmp_total i in
    (λ k. is_lt (ordering_then (ordering_then (times k) (ordering_then (nat_cmp e.trip.0 x.trip.0) (ordering_then (nat_cmp e.run x.run) (ordering_then (nat_cmp e.seq x.seq) (days k)))))
    (ordering_then (lanes k) (ordering_then (nat_cmp e.row x.row) (nat_cmp e.at x.at)))))
    ∙ same_then (nat_cmp e.at x.at) (nat_cmp e.trip.0 x.trip.0) (nat_cmp e.run x.run) (nat_cmp e.seq x.seq) (nat_cmp e.row x.row)

below_all : (o d : ℤ) (i : ℕ) (e : Event) (xs : List Event) → ((k : ℕ) (x : Event) → k < length xs → event_cmp e (get_or xs k x) ≡ Less)
    → Each (λ c. candidate_lt (departing o d i e) c ≡ true) (map (departing o d i) xs)
below_all o d i e [] below = tt
below_all o d i e (x ∷ xs) below = (
  in_order_of o d i e x ∙ ap is_lt (below 0 x (omega arith)),
  below_all o d i e xs (λ k y inside. below (suc k) y (omega arith)),
)

pub departing_ascend : (o d : ℤ) (i : ℕ) (xs : List Event) → Ascends event_cmp xs → AscendsBy candidate_lt (map (departing o d i) xs)
departing_ascend o d i [] up = tt
departing_ascend o d i (x ∷ xs) up = (
  below_all o d i x xs (λ k y inside. pairs-head (λ a b. event_cmp a b ≡ Less) x xs up k y inside),
  departing_ascend o d i xs (pairs-tail (λ a b. event_cmp a b ≡ Less) x xs up),
)

pub rises : (x y : Candidate) → candidate_lt x y ≡ true → x.instant ≤ℤ y.instant
rises x y less = elim (cases_Bool (candidate_lt y x)) [
  | inl back ↦ absurd (true≢false (sym (candidates_strict.trans x y x less back) ∙ candidates_strict.irrefl x))
  | inr is ↦ not_lt-instant y x is
]

-- ---- services

runs_within : (d : ℤ) (o : Option ServiceRow) → is_service_day d ≡ false → if_there o (λ s. is_active s.service d) ≡ false
runs_within d None out = refl
runs_within d (Some s) out = rw out refl

-- no service runs on other days than service days
pub serves_within : (p : Parts) (n : ℕ) (d : ℤ) → is_service_day d ≡ false → serves_on p n d ≡ false
serves_within p n d out = runs_within d (slice_get p.services n) out

day_too_late : (d : ℤ) → last_service_day <ℤ d → is_service_day d ≡ false
day_too_late d h = grind (arith, ints)

pub day_there : (d : ℤ) → is_service_day d ≡ true → (first_service_day ≤ℤ d) × (d ≤ℤ last_service_day)
day_there d h =
    let both = and_parts (int_le first_service_day d) (int_le d last_service_day) h in
    (int_le-true first_service_day d both.0, int_le-true d last_service_day both.1)

close_after : (o x : ℤ) (at latest : ℕ) → x ≡ o +ℤ pos at → at ≤ latest → (o ≤ℤ x) × (x ≤ℤ (o +ℤ pos latest))
close_after o x at latest is upto = (omega (arith, ints, is), omega (arith, ints, is, upto))

module _ (p : Parts) (origin : Origins) (lanes : StopLanesValue) (end : ℤ) where
  abbrev on : ℕ → ℤ → List Candidate
  on i d = departures_on p origin lanes end i d

  pub on-idle : (i : ℕ) (d : ℤ) → serves_on p (lane_at lanes i).service d ≡ false → departures_on p origin lanes end i d ≡ []
  unfolding departures_on
  on-idle i d idle = rw idle refl

  pub on-busy : (i : ℕ) (d : ℤ) → serves_on p (lane_at lanes i).service d ≡ true
      → departures_on p origin lanes end i d ≡ filter (ends_by end) (map (departing (origin d) d i) (lane_at lanes i).events)
  unfolding departures_on
  on-busy i d busy = rw busy refl

  -- a departure is an event of its lane, on a day on which the service runs
  pub on-event : (i : ℕ) (d : ℤ) (c : Candidate) → In c (departures_on p origin lanes end i d)
      → (serves_on p (lane_at lanes i).service d ≡ true) × ((e : Event) × (In e (lane_at lanes i).events × (c ≡ departing (origin d) d i e))) × (c.instant ≤ℤ end)
  on-event i d c there = elim (cases_Bool (serves_on p (lane_at lanes i).service d)) [
    | inl busy ↦
        let here = filter-in (ends_by end) (map (departing (origin d) d i) (lane_at lanes i).events) c (subst (In c) (on-busy i d busy) there) in
        (busy, map-in (departing (origin d) d i) (lane_at lanes i).events c here.0, int_le-true c.instant end here.1)
    | inr idle ↦ absurd (subst (In c) (on-idle i d idle) there)
  ]

  pub event-on : (i : ℕ) (d : ℤ) (e : Event) → serves_on p (lane_at lanes i).service d ≡ true → In e (lane_at lanes i).events → (origin d +ℤ pos e.at) ≤ℤ end
      → In (departing (origin d) d i e) (departures_on p origin lanes end i d)
  event-on i d e busy there inside =
      subst (In (departing (origin d) d i e)) (sym (on-busy i d busy))
      (in-filter (ends_by end) (map (departing (origin d) d i) (lane_at lanes i).events) (departing (origin d) d i e)
      (in-map (departing (origin d) d i) (lane_at lanes i).events e there) (le-int_le (origin d +ℤ pos e.at) end inside))

  pub events_end : (i : ℕ) (d : ℤ) → EndsBy end (departures_on p origin lanes end i d)
  events_end i d c there = (on-event i d c there).2

  pub none_before : (i : ℕ) (d : ℤ) → d <ℤ first_service_day → departures_on p origin lanes end i d ≡ []
  none_before i d early = on-idle i d (serves_within p (lane_at lanes i).service d (day_too_early d early))

  pub none_beyond : (i : ℕ) (d : ℤ) → last_service_day <ℤ d → departures_on p origin lanes end i d ≡ []
  none_beyond i d late = on-idle i d (serves_within p (lane_at lanes i).service d (day_too_late d late))

  lane_past : (i : ℕ) → length (lanes_of lanes) ≤ i → (lane_at lanes i).events ≡ []
  lane_past i past = ap (λ lane. lane.events) (get_or_past (lanes_of lanes) i no_lane past)

  pub none_past : (i : ℕ) (d : ℤ) → length (lanes_of lanes) ≤ i → departures_on p origin lanes end i d ≡ []
  none_past i d past = elim (cases_Bool (serves_on p (lane_at lanes i).service d)) [
    | inl busy ↦ on-busy i d busy ∙ ap (λ es. filter (ends_by end) (map (departing (origin d) d i) es)) (lane_past i past)
    | inr idle ↦ on-idle i d idle
  ]

  pub lane_ascends : AreAscending lanes → (i : ℕ) → Ascends event_cmp (lane_at lanes i).events
  lane_ascends up i = elim (cases_lt i (length (lanes_of lanes))) [
    | inl inside ↦ up i no_lane inside
    | inr past ↦ subst (Ascends event_cmp) (sym (lane_past i past)) (λ j k d less inside. absurd (omega arith))
  ]

  pub lane_timely : AreTimely lanes → (i : ℕ) (e : Event) → In e (lane_at lanes i).events → (e.at ≤ lanes.greatest) × (e.at ≤ 7_199_998)
  lane_timely timely i e there = elim (cases_lt i (length (lanes_of lanes))) [
    | inl inside ↦ Each-in (λ x. (x.at ≤ lanes.greatest) × (x.at ≤ 7_199_998)) (lane_at lanes i).events e (each-all (λ x. (x.at ≤ lanes.greatest) × (x.at ≤ 7_199_998)) (lane_at lanes i).events (timely i no_lane inside)) there
    | inr past ↦ absurd (subst (In e) (lane_past i past) there)
  ]

  pub events_timely : AreTimely lanes → (i : ℕ) (d : ℤ) → AreFromOrigin (origin d) lanes.greatest (departures_on p origin lanes end i d)
  events_timely timely i d c there =
      let r = on-event i d c there in
      let upto = (lane_timely timely i r.1.0 r.1.1.0).0 in
      let is : c.instant ≡ origin d +ℤ pos r.1.0.at = ap (λ (x : Candidate). x.instant) r.1.1.1 in
      close_after (origin d) c.instant r.1.0.at lanes.greatest is upto

  pub on-ascend : AreAscending lanes → (i : ℕ) (d : ℤ) → AscendsBy candidate_lt (departures_on p origin lanes end i d)
  on-ascend up i d = elim (cases_Bool (serves_on p (lane_at lanes i).service d)) [
    | inl busy ↦ subst (AscendsBy candidate_lt) (sym (on-busy i d busy))
        (ascending-filter candidate_lt (ends_by end) (map (departing (origin d) d i) (lane_at lanes i).events) (departing_ascend (origin d) d i (lane_at lanes i).events (lane_ascends up i)))
    | inr idle ↦ subst (AscendsBy candidate_lt) (sym (on-idle i d idle)) tt
  ]

  pub of_lane : (i : ℕ) (d : ℤ) (c : Candidate) → In c (departures_on p origin lanes end i d) → c.lane ≡ i
  of_lane i d c there = let r = on-event i d c there in ap (λ x. x.lane) r.1.1.1

  pub of_day : (i : ℕ) (d : ℤ) (c : Candidate) → In c (departures_on p origin lanes end i d) → c.day ≡ d
  of_day i d c there = let r = on-event i d c there in ap (λ x. x.day) r.1.1.1

  pub there-listed : (i : ℕ) (d : ℤ) (c : Candidate) → In c (departures_on p origin lanes end i d) → In d service_days
  there-listed i d c there = elim (cases_Bool (is_service_day d)) [
    | inl is ↦ let both = day_there d is in day_listed d both.0 both.1
    | inr isnt ↦ absurd (true≢false (sym (on-event i d c there).0 ∙ serves_within p (lane_at lanes i).service d isnt))
  ]

  pub all-on : (c : Candidate) → In c (all_departures p origin lanes end) → In c (departures_on p origin lanes end c.lane c.day)
  unfolding all_departures
  all-on c there =
      let by_day = flat_map-in (departures_of_day p origin lanes end) service_days c there in
      let by_lane = flat_map-in (λ i. departures_on p origin lanes end i by_day.0) (range_with_len 0 (length (lanes_of lanes))) c by_day.1.1 in
      let here = by_lane.1.1 in
      subst (λ i. In c (departures_on p origin lanes end i c.day)) (sym (of_lane by_lane.0 by_day.0 c here))
      (subst (λ d. In c (departures_on p origin lanes end by_lane.0 d)) (sym (of_day by_lane.0 by_day.0 c here)) here)

  pub on-all : (c : Candidate) → In c (departures_on p origin lanes end c.lane c.day) → In c (all_departures p origin lanes end)
  unfolding all_departures
  on-all c there = elim (cases_lt c.lane (length (lanes_of lanes))) [
    | inl inside ↦
        in-flat_map (departures_of_day p origin lanes end) service_days c.day c (there-listed c.lane c.day c there)
        (in-flat_map (λ i. departures_on p origin lanes end i c.day) (range_with_len 0 (length (lanes_of lanes))) c.lane c (in-range 0 (length (lanes_of lanes)) c.lane (omega arith) (omega arith)) there)
    | inr past ↦ absurd (subst (In c) (none_past c.lane c.day past) there)
  ]

  pub all_there : AreAll day_of lane_of (departures_on p origin lanes end) (all_departures p origin lanes end)
  all_there = record { sound = all-on; whole = on-all }

  -- ---- the first above a floor

  pub first_found : AreAscending lanes → (i : ℕ) (d : ℤ) (floor : Candidate) (test : Event → Bool)
      → ((e : Event) → In e (lane_at lanes i).events → test e ≡ candidate_lt floor (departing (origin d) d i e)) → serves_on p (lane_at lanes i).service d ≡ true
      → first_above floor (departures_on p origin lanes end i d) ≡ keep (ends_by end) (map_option (departing (origin d) d i) (find test (lane_at lanes i).events))
  first_found up i d floor test alike busy =
      let xs = (lane_at lanes i).events in
      ap (find (candidate_lt floor)) (on-busy i d busy)
      ∙ find-cut candidate_lt (candidate_lt floor) (ends_by end) past (map (departing (origin d) d i) xs) (departing_ascend (origin d) d i xs (lane_ascends up i))
      ∙ ap (keep (ends_by end)) (find-mapped (departing (origin d) d i) (candidate_lt floor) xs ∙ ap (map_option (departing (origin d) d i)) (sym (find-agree test (λ e. candidate_lt floor (departing (origin d) d i e)) xs alike)))
    where
      past : (x y : Candidate) → candidate_lt x y ≡ true → ends_by end x ≡ false → ends_by end y ≡ false
      past x y less over = elim (cases_Bool (ends_by end y)) [
        | inl inside ↦ absurd (true≢false (sym (le-int_le x.instant end (let up = rises x y less in let within = int_le-true y.instant end inside in omega (arith, ints, up, within))) ∙ over))
        | inr is ↦ is
      ]

near_low : (day o x : ℤ) (a : ℕ) → IsWithin 93_599 (day -ℤ o) → x ≡ o +ℤ pos a → day ≤ℤ (x +ℤ pos 93_599)
near_low day o x a near is = omega (arith, ints, near.1, is)

near_high : (day o x : ℤ) (a latest : ℕ) → IsWithin 93_599 (day -ℤ o) → x ≡ o +ℤ pos a → a ≤ latest → x ≤ℤ (day +ℤ pos (latest + 93_599))
near_high day o x a latest near is upto = omega (arith, ints, near.0, is, upto)

pub lanes_ascend : (p : Parts) (zone : Zone) (lanes : StopLanesValue) (end : ℤ) → AreAscending lanes → AreTimely lanes
    → AreCandidateLanes (length (lanes_of lanes)) lanes.greatest (departures_on p (zone_origin zone) lanes end)
lanes_ascend p zone lanes end up timely =
    let origin = zone_origin zone in
    record {
      ascend = on-ascend p origin lanes end up;
      of_lane = of_lane p origin lanes end;
      of_day = of_day p origin lanes end;
      few = none_past p origin lanes end;
      early = λ i d c there.
          let r = on-event p origin lanes end i d c there in
          near_low (d *ℤ pos 86_400) (origin d) c.instant r.1.0.at (zone_origin-near zone d) (ap (λ x. x.instant) r.1.1.1);
      late = λ i d c there.
          let r = on-event p origin lanes end i d c there in
          near_high (d *ℤ pos 86_400) (origin d) c.instant r.1.0.at lanes.greatest (zone_origin-near zone d) (ap (λ x. x.instant) r.1.1.1) (lane_timely p origin lanes end timely i r.1.0 r.1.1.0).0;
      follow = rises;
    }

-- ---- the steps of the code

pub serves_is : (p : Parts) (n : ℕ) (v : ServiceDates) (d : ℤ) → option_map (λ s. s.service) (slice_get p.services n) ≡ Some v → serves_on p n d ≡ is_active v d
serves_is p n v d is = by (slice_get p.services n) is
  where
    by : (o : Option ServiceRow) → option_map (λ s. s.service) o ≡ Some v → if_there o (λ s. is_active s.service d) ≡ is_active v d
    by None is = cc
    by (Some s) is = ap (λ o. is_active (unwrap_or o s.service) d) is

idle_early : (p : Parts) (n : ℕ) (d : ℤ) → d <ℤ first_service_day → serves_on p n d ≡ false
idle_early p n d early = serves_within p n d (day_too_early d early)

pub idle_some : (p : Parts) (n : ℕ) (v : ServiceDates) (day from next d : ℤ) → option_map (λ s. s.service) (slice_get p.services n) ≡ Some v → from ≡ int_max day first_service_day
    → IsFirst (is_active v) from next → day ≤ℤ d → d <ℤ next → serves_on p n d ≡ false
idle_some p n v day from next d is from_is first since before = elim (cases_int d first_service_day) [
  | inl early ↦ idle_early p n d early
  | inr later ↦ serves_is p n v d is ∙ first.least d (omega (arith, ints, clamps, from_is, since, later)) before
]

pub idle_none : (p : Parts) (n : ℕ) (v : ServiceDates) (day from d : ℤ) → option_map (λ s. s.service) (slice_get p.services n) ≡ Some v → from ≡ int_max day first_service_day
    → ((e : ℤ) → from ≤ℤ e → is_active v e ≡ false) → day ≤ℤ d → serves_on p n d ≡ false
idle_none p n v day from d is from_is none since = elim (cases_int d first_service_day) [
  | inl early ↦ idle_early p n d early
  | inr later ↦ serves_is p n v d is ∙ none d (omega (arith, ints, clamps, from_is, since, later))
]

small_from : (d o : ℤ) → first_service_day ≤ℤ d → d ≤ℤ last_service_day → IsWithin 93_599 (d *ℤ pos 86_400 -ℤ o) → (negsuc 999_999_999_999 ≤ℤ o) × (o ≤ℤ pos 999_999_999_999)
small_from d o low high near = (omega (arith, ints, low, high, near.1), omega (arith, ints, low, high, near.0))

serving_day : (p : Parts) (n : ℕ) (d : ℤ) → serves_on p n d ≡ true → is_service_day d ≡ true
serving_day p n d busy = elim (cases_Bool (is_service_day d)) [
  | inl is ↦ is
  | inr isnt ↦ absurd (true≢false (sym busy ∙ serves_within p n d isnt))
]

-- an origin fits well within 64 bits
pub origin_small : (p : Parts) (n : ℕ) (z : Zone) (d o : ℤ) → serves_on p n d ≡ true → o ≡ zone_origin z d → (negsuc 999_999_999_999 ≤ℤ o) × (o ≤ℤ pos 999_999_999_999)
origin_small p n z d o busy is =
    let days = day_there d (serving_day p n d busy) in
    small_from d o days.0 days.1 (subst (λ x. IsWithin 93_599 (d *ℤ pos 86_400 -ℤ x)) (sym is) (zone_origin-near z d))

module _ (p : Parts) (z : Zone) (lanes : StopLanesValue) (end : ℤ) where
  -- a lane is asked for what lies above a floor
  pub head_found : AreAscending lanes → AreTimely lanes → (i : ℕ) (d o : ℤ) (floor : Candidate) (moment : Moment) (found : Option Event) → i < length (lanes_of lanes)
      → serves_on p (lane_at lanes i).service d ≡ true → o ≡ zone_origin z d → IsAside floor d (length (lanes_of lanes))
      → ((lane : ℕ) (e : Event) → e.at < 2 ^ 32 → (floor.day <ℤ d) ⊎ (lane < floor.lane) → is_above_moment moment e ≡ candidate_lt floor (departing o d lane e))
      → found ≡ find (is_above_moment moment) (lane_at lanes i).events
      → first_above floor (departures_on p (zone_origin z) lanes end i d) ≡ keep (ends_by end) (map_option (departing o d i) found)
  head_found up timely i d o floor moment found inside busy origin aside stands is =
      first_found p (zone_origin z) lanes end up i d floor (is_above_moment moment)
      (λ e there. stands i e (small e.at (lane_timely p (zone_origin z) lanes end timely i e there).1) (elim aside [ inl earlier ↦ inl earlier | inr past ↦ inr (omega (arith, inside, past)) ])
      ∙ ap (λ x. candidate_lt floor (departing x d i e)) origin) busy
      ∙ (let o_is = sym origin in let found_is = sym is in λ k. keep (ends_by end) (map_option (departing (o_is k) d i) (found_is k)))
    where
      small : (n : ℕ) → n ≤ 7_199_998 → n < 2 ^ 32
      small n h = omega (arith, h)

  -- or above one of its departures
  pub after_found : AreAscending lanes → (c : Candidate) (o : ℤ) (found : Option Event) → In c (departures_on p (zone_origin z) lanes end c.lane c.day)
      → o ≡ zone_origin z c.day → found ≡ find (is_later (event_of c)) (lane_at lanes c.lane).events
      → first_above c (departures_on p (zone_origin z) lanes end c.lane c.day) ≡ keep (ends_by end) (map_option (departing o c.day c.lane) found)
  after_found up c o found there origin is =
      let on = on-event p (zone_origin z) lanes end c.lane c.day c there in
      let same : event_of c ≡ on.1.0 = ap event_of on.1.1.1 in
      first_found p (zone_origin z) lanes end up c.lane c.day c (is_later (event_of c))
      (λ x _. ap (λ e. is_later e x) same ∙ sym (in_order_of (zone_origin z c.day) c.day c.lane on.1.0 x) ∙ ap (λ y. candidate_lt y (departing (zone_origin z c.day) c.day c.lane x)) (sym on.1.1.1)) on.0
      ∙ (let o_is = sym origin in let found_is = sym is in λ k. keep (ends_by end) (map_option (departing (o_is k) c.day c.lane) (found_is k)))

  -- a lane of one event has none after a departure of its own
  pub after_single : (c : Candidate) → In c (departures_on p (zone_origin z) lanes end c.lane c.day) → length (lane_at lanes c.lane).events ≡ 1
      → None ≡ first_above c (departures_on p (zone_origin z) lanes end c.lane c.day)
  after_single c there one =
      let leaves : Event → Candidate = departing (zone_origin z c.day) c.day c.lane in
      let events = (lane_at lanes c.lane).events in
      let busy = on-busy p (zone_origin z) lanes end c.lane c.day (on-event p (zone_origin z) lanes end c.lane c.day c there).0 in
      sym (ap (first_above c) busy ∙ none_after (ends_by end) c (map leaves events) (length-map events leaves ∙ one) (subst (In c) busy there))

  pub after_inside : (c : Candidate) → In c (departures_on p (zone_origin z) lanes end c.lane c.day) → c.lane < length (lanes_of lanes)
  after_inside c there = elim (cases_lt c.lane (length (lanes_of lanes))) [
    | inl inside ↦ inside
    | inr past ↦ absurd (subst (In c) (none_past p (zone_origin z) lanes end c.lane c.day past) there)
  ]

  -- its origin, as the code computes it
  pub after_origin : (c : Candidate) (from : ℤ) → In c (departures_on p (zone_origin z) lanes end c.lane c.day) → from ≡ pos c.at → SFits w64 c.instant → SFits w64 from
      → SFits w64 (to_z w64 (of_z w64 c.instant) -ℤ to_z w64 (of_z w64 from))
      × ((to_z w64 (of_z w64 (to_z w64 (of_z w64 c.instant) -ℤ to_z w64 (of_z w64 from))) ≡ zone_origin z c.day)
      × ((negsuc 999_999_999_999 ≤ℤ zone_origin z c.day) × (zone_origin z c.day ≤ℤ pos 999_999_999_999)))
  after_origin c from there is instant_fits from_fits =
      let on = on-event p (zone_origin z) lanes end c.lane c.day c there in
      let small = origin_small p (lane_at lanes c.lane).service z c.day _ on.0 refl in
      let fits = fits_small (zone_origin z c.day) small.0 small.1 in
      let at : c.at ≡ on.1.0.at = ap (λ (x : Candidate). x.at) on.1.1.1 in
      let instant : c.instant ≡ zone_origin z c.day +ℤ pos on.1.0.at = ap (λ (x : Candidate). x.instant) on.1.1.1 in
      let instant_is = to_z-of_z w64 c.instant instant_fits in
      let from_is = to_z-of_z w64 from from_fits ∙ is in
      let less : (to_z w64 (of_z w64 c.instant) -ℤ to_z w64 (of_z w64 from)) ≡ zone_origin z c.day = (λ i. instant_is i -ℤ from_is i) ∙ less_time c.instant (zone_origin z c.day) c.at on.1.0.at instant at in
      (subst (SFits w64) (sym less) fits, (ap (λ x. to_z w64 (of_z w64 x)) less ∙ to_z-of_z w64 (zone_origin z c.day) fits, small))
    where
      less_time : (x z : ℤ) (a b : ℕ) → x ≡ z +ℤ pos b → a ≡ b → (x -ℤ pos a) ≡ z
      less_time x z a b instant at = omega (arith, ints, instant, at)

      fits_small : (o : ℤ) → negsuc 999_999_999_999 ≤ℤ o → o ≤ℤ pos 999_999_999_999 → SFits w64 o
      fits_small o low high = omega (arith, ints, low, high)

-- what is kept of an event that was found
pub kept_some : (end : ℤ) (o d : ℤ) (i : ℕ) (found : Option Event) (e : Event) (dep : Candidate) (r first : Option Candidate) → first ≡ keep (ends_by end) (map_option (departing o d i) found)
    → found ≡ Some e → dep ≡ departing o d i e → r ≡ cond (ends_by end dep) (Some dep) None → r ≡ first
kept_some end o d i found e dep r first is some departs kept =
    kept ∙ ap (λ x. cond (ends_by end x) (Some x) None) departs ∙ sym (is ∙ ap (λ x. keep (ends_by end) (map_option (departing o d i) x)) some)

pub kept_none : (end : ℤ) (o d : ℤ) (i : ℕ) (found : Option Event) (first : Option Candidate) → first ≡ keep (ends_by end) (map_option (departing o d i) found) → found ≡ None → None ≡ first
kept_none end o d i found first is none = sym (is ∙ ap (λ x. keep (ends_by end) (map_option (departing o d i) x)) none)

-- no service of the first n lanes runs from a day on until another
abbrev pub AreIdle : Parts → StopLanesValue → ℤ → ℤ → ℕ → Type 0
AreIdle p lanes day first n = (i : ℕ) (d : ℤ) → i < n → day ≤ℤ d → d <ℤ first → serves_on p (lane_at lanes i).service d ≡ false

-- one lane more, before the first day on which its service runs
pub idle_more : (p : Parts) (lanes : StopLanesValue) (day first falls next : ℤ) (n : ℕ) → falls ≡ int_min first next → AreIdle p lanes day first n
    → ((d : ℤ) → day ≤ℤ d → d <ℤ next → serves_on p (lane_at lanes n).service d ≡ false)
    → AreIdle p lanes day falls (n + 1)
idle_more p lanes day first falls next n is old idle i d inside since before = elim (cases_lt i n) [
  | inl earlier ↦ old i d earlier since (omega (arith, ints, clamps, is, before))
  | inr here ↦
      let same : i ≡ n = omega (arith, inside, here) in
      ap (λ k. serves_on p (lane_at lanes k).service d) same ∙ idle d since (omega (arith, ints, clamps, is, before))
]

pub skip_all : (p : Parts) (origin : Origins) (lanes : StopLanesValue) (end day first : ℤ) (n : ℕ) → length (lanes_of lanes) ≤ n → AreIdle p lanes day first n
    → (i : ℕ) (d : ℤ) → day ≤ℤ d → d <ℤ first → departures_on p origin lanes end i d ≡ []
skip_all p origin lanes end day first n all idle i d since before = elim (cases_lt i n) [
  | inl inside ↦ on-idle p origin lanes end i d (idle i d inside since before)
  | inr past ↦ none_past p origin lanes end i d (omega (arith, all, past))
]
