-- How often lanes tell an event, as lanes are added.
use Rattle.std.proofs.Common.{◌≡◌, ◌≤◌, ◌<◌, ◌+◌, ◌-◌, ◌++◌, ◌∙◌, ℕ, Bool, true, false, cond, List, [], ◌∷◌, length, filter, take, get_or, nat_le, nat_lt, refl, sym, ap, arith, inl, inr, ◌&&◌, ◌==◌, zero-add}
use Rattle.std.specs.Prelude.{◌%◌}
use Rattle.std.specs.List.{flat_map}
use Rattle.std.proofs.lemmas.Bool.{and_parts, cases_Bool, leb-true, ltb-true}
use Rattle.std.proofs.lemmas.Grind.{flat_map-append}
use Rattle.std.proofs.lemmas.List.{append-nil, take_more as taken}
use Rattle.std.proofs.lemmas.List.Elements.{filter-append}
use Rattle.gtfs_rows.specs.declared.frequency.Frequency.{Frequency}
use Rattle.gtfs_rows.specs.RowsInMemory.{frequency_of}
use Rattle.gtfs_runs.specs.EventOrder.{is_same}
use Rattle.gtfs_runs.specs.Tallies.{tally}
use Rattle.gtfs_runs.specs.PeriodRuns.{event_of_run, is_of_period}
use Rattle.gtfs_runs.specs.StopLanes.{LaneValue, events_of_service}
use Rattle.gtfs_rows.specs.Runs.{starts_run}
use Rattle.gtfs_runs.specs.declared.event.Event.{Event}
use Rattle.gtfs_runs.specs.declared.stop_lanes.passing.Passing.{Passing}
use Rattle.gtfs_runs.specs.steps.FoundEvents.{times_passed, times_passed_in, times_told}
use Rattle.gtfs_runs.specs.steps.Passings.{passing_event}
use Rattle.gtfs_runs.proofs.Tallies.{tally-append}

add-assoc : (a b c : ℕ) → a + (b + c) ≡ a + b + c
add-assoc a b c = omega arith

pub plus-zero : (a : ℕ) → a + 0 ≡ a
plus-zero a = omega arith

pub tally-nothing : {X : Type 0} (p : X → Bool) (xs : List X) → ((x : X) → p x ≡ false) → tally p xs ≡ 0
tally-nothing p [] none = refl
tally-nothing p (x ∷ xs) none = rw (none x, tally-nothing p xs none) refl

pub tally-guard : {X : Type 0} (b : Bool) (q : X → Bool) (xs : List X) → tally (λ x. b && q x) xs ≡ cond b (tally q xs) 0
tally-guard true q xs = refl
tally-guard false q xs = tally-nothing (λ x. false) xs (λ x. refl)

-- ---- lanes

pub serving-append : (k : ℕ) (xs ys : List LaneValue) → events_of_service k (xs ++ ys) ≡ events_of_service k xs ++ events_of_service k ys
serving-append k xs ys =
    ap (flat_map (λ lane. lane.events)) (filter-append (λ lane. lane.service == k) xs ys)
    ∙ flat_map-append (λ lane. lane.events) (filter (λ lane. lane.service == k) xs) (filter (λ lane. lane.service == k) ys)

pub told-append : (k : ℕ) (e : Event) (xs ys : List LaneValue) → times_told k e (xs ++ ys) ≡ times_told k e xs + times_told k e ys
told-append k e xs ys = ap (tally (is_same e)) (serving-append k xs ys) ∙ tally-append (is_same e) (events_of_service k xs) (events_of_service k ys)

one_lane : (b : Bool) (e : Event) (y : LaneValue) → tally (is_same e) (flat_map (λ lane. lane.events) (cond b (y ∷ []) [])) ≡ cond b (tally (is_same e) y.events) 0
one_lane true e y = ap (tally (is_same e)) (append-nil y.events)
one_lane false e y = refl

pub told-push : (k : ℕ) (e : Event) (xs : List LaneValue) (y : LaneValue) → times_told k e (xs ++ y ∷ []) ≡ times_told k e xs + cond (y.service == k) (tally (is_same e) y.events) 0
told-push k e xs y = told-append k e xs (y ∷ []) ∙ ap (λ n. times_told k e xs + n) (one_lane (y.service == k) e y)

-- ---- one element more

-- ---- the runs of a period

late_by : (s a r : ℕ) → s ≤ r → s + a + (r - s) ≡ r + a
late_by s a r h = omega arith

pub begun : (f : Frequency) (r : ℕ) → starts_run (frequency_of f) r ≡ true → f.start_time ≤ r
begun f r h =
    let outer = and_parts (nat_le f.start_time r && nat_lt r f.end_time) ((r - f.start_time) % f.headway_secs == 0) h in
    leb-true f.start_time r (and_parts (nat_le f.start_time r) (nat_lt r f.end_time) outer.0).0

pub ended : (f : Frequency) (r : ℕ) → starts_run (frequency_of f) r ≡ true → r < f.end_time
ended f r h =
    let outer = and_parts (nat_le f.start_time r && nat_lt r f.end_time) ((r - f.start_time) % f.headway_secs == 0) h in
    ltb-true r f.end_time (and_parts (nat_le f.start_time r) (nat_lt r f.end_time) outer.0).1

-- the run of an event passes a stop time as much later as it starts later
pub period_same : (trip : ℕ) (e : Event) (x : Passing) (f : Frequency)
    → is_of_period (passing_event trip f.start_time x) (frequency_of f) e ≡ (starts_run (frequency_of f) e.run && is_same e (passing_event trip e.run x))
period_same trip e x f = elim (cases_Bool (starts_run (frequency_of f) e.run)) [
  | inl is ↦
      let at = late_by f.start_time x.after e.run (begun f e.run is) in
      let event : event_of_run (passing_event trip f.start_time x) e.run ≡ passing_event trip e.run x =
      λ i. record { at = at i; trip = record { 0 = trip }; run = e.run; seq = x.seq; row = x.row } in
      ap (λ y. starts_run (frequency_of f) e.run && is_same e y) event
  | inr isnt ↦ rw isnt refl
]

both_more : (b : Bool) (a m c : ℕ) → a + cond b m 0 + cond b c 0 ≡ a + cond b (m + c) 0
both_more true a m c = omega arith
both_more false a m c = omega arith

-- ---- the steps of the code

-- a lane of a period more
pub period_more : (k : ℕ) (e : Event) (service trip : ℕ) (f : Frequency) (x : Passing) (old : List LaneValue) (lane : LaneValue) → lane.service ≡ service
    → tally (is_same e) lane.events ≡ cond (is_of_period (passing_event trip f.start_time x) (frequency_of f) e) 1 0
    → times_told k e (old ++ lane ∷ []) ≡ times_told k e old + cond (service == k) (times_passed trip e (x ∷ []) f) 0
period_more k e service trip f x old lane serves told =
    let q : Bool = starts_run (frequency_of f) e.run && is_same e (passing_event trip e.run x) in
    let one : tally (is_same e) lane.events ≡ cond q 1 0 + 0 = told ∙ ap (λ b. cond b 1 0) (period_same trip e x f) ∙ sym (plus-zero (cond q 1 0)) in
    told-push k e old lane ∙ (λ i. times_told k e old + cond (serves i == k) (one i) 0)

passed-append : (trip : ℕ) (e : Event) (xs : List Passing) (fs : List Frequency) (f : Frequency) → times_passed_in trip e xs (fs ++ f ∷ []) ≡ times_passed_in trip e xs fs + times_passed trip e xs f
passed-append trip e xs [] f = plus-zero (times_passed trip e xs f) ∙ sym (zero-add (times_passed trip e xs f))
passed-append trip e xs (g ∷ fs) f =
    ap (λ n. times_passed trip e xs g + n) (passed-append trip e xs fs f) ∙ add-assoc (times_passed trip e xs g) (times_passed_in trip e xs fs) (times_passed trip e xs f)

-- the lanes of a frequency more
pub periods_more : (k : ℕ) (e : Event) (service trip : ℕ) (fs : List Frequency) (xs : List Passing) (n : ℕ) (d : Frequency) (start mid new : List LaneValue)
    → n < length fs
    → times_told k e mid ≡ times_told k e start + cond (service == k) (times_passed_in trip e xs (take n fs)) 0
    → times_told k e new ≡ times_told k e mid + cond (service == k) (times_passed trip e xs (get_or fs n d)) 0
    → times_told k e new ≡ times_told k e start + cond (service == k) (times_passed_in trip e xs (take (n + 1) fs)) 0
periods_more k e service trip fs xs n d start mid new within so_far added =
    let f = get_or fs n d in
    added ∙ ap (λ m. m + cond (service == k) (times_passed trip e xs f) 0) so_far
    ∙ both_more (service == k) (times_told k e start) (times_passed_in trip e xs (take n fs)) (times_passed trip e xs f)
    ∙ ap (λ m. times_told k e start + cond (service == k) m 0) (sym (ap (times_passed_in trip e xs) (taken fs n d within) ∙ passed-append trip e xs (take n fs) f))
