-- No event of a stop comes later than its latest, and each departure is an instant.
use Rattle.std.proofs.Common.{◌≡◌, ◌+◌, ◌-◌, ◌≤◌, ◌<◌, ℕ, zero, suc, ℤ, Bool, true, false, List, [], ◌∷◌, inl, inr, map, length, get_or, Some, refl, sym, ap, subst, ◌∙◌, arith, max, unwrap_or}
use Rattle.std.specs.Prelude.{◌==◌, ◌&&◌, not, IfSome, pos, ◌+ℤ◌, nat_lt, nat_le, slice_get, All}
use Rattle.std.specs.List.{enumerate_from, filter, flat_map, fold, list_any, range_with_len}
use Rattle.std.proofs.lemmas.Bool.{and_from, and_parts, eqb-true, ltb-true}
use Rattle.std.proofs.lemmas.Int.{ints}
use Rattle.std.proofs.lemmas.Option.{get_or_from_slice_get, same_Some as some_is, slice_get_within}
use Rattle.gtfs_days.specs.Service.{is_service_day}
use Rattle.gtfs_days.specs.Zone.{IsInstant, noon_offset, zone_origin}
use Rattle.gtfs_days.specs.declared.zone.Zone.{Zone}
use Rattle.gtfs_rows.specs.Trips.{frequencies_by_trip, stop_rows_by_trip}
use Rattle.gtfs_stop_times.specs.RowTimes.{left_at}
use Rattle.gtfs_field.specs.Calendar.{date_of_day}
use Rattle.gtfs_field.proofs.ListFacts.{fold-rises as fold_above}
use Rattle.gtfs_rows.specs.Rows.{StopRow, Trip}
use Rattle.gtfs_rows.specs.SoundContent.{leaves}
use Rattle.gtfs_rows.specs.RowsInMemory.{IsSoundParts, content_of_parts, frequency_of, service_ids, stop_row_of, trip_of}
use Rattle.gtfs_rows.specs.declared.frequency.Frequency.{Frequency as PeriodRow}
use Rattle.gtfs_rows.specs.declared.parts.Parts.{Parts}
use Rattle.gtfs_runs.proofs.Bounds.{IsPeriod, periods_within, rows_within}
use Rattle.gtfs_runs.specs.Lanes.{departure_rows, latest}
use Rattle.gtfs_rows.specs.Places.{is_in_place}
use Rattle.gtfs_runs.specs.StopLanes.{AreLanesOf, LaneValue, StopLanesValue, lanes_of}
use Rattle.gtfs_rows.specs.Runs.{first_leaves, is_departure_row, is_run, passes_at, runs, starts_run, trip_start}
use Rattle.gtfs_runs.specs.declared.event.Event.{Event}
use Rattle.gtfs_runs.proofs.TripTimes.{at_most as most_left}
use Rattle.gtfs_board.specs.LaneDays.{AreTimely, lane_at, no_lane}
use Rattle.gtfs_board.specs.upcoming.QueueOrder.{In}
use Rattle.gtfs_board.proofs.EventFacts.{IsPassing, any_at, at_in, lane_event, map_at, passing, trip_back}
use Rattle.gtfs_board.proofs.LaneDays.{day_there, in-flat_map, in-map, in-range}
use Rattle.gtfs_board.proofs.Rests.{in-filter}

-- ---- the greatest of a list

fold_most : (a : ℕ) (xs : List ℕ) (x : ℕ) → In x xs → x ≤ fold max a xs
fold_most a [] x here = absurd here
fold_most a (y ∷ ys) x here = elim here [
  | inl e ↦ let rest = fold_above (max a y) ys in omega (arith, rest, e)
  | inr later ↦ fold_most (max a y) ys x later
]

in-enumerate : {X : Type 0} (a : ℕ) (xs : List X) (n : ℕ) (x : X) → slice_get xs n ≡ Some x → In (a + n, x) (enumerate_from a xs)
in-enumerate a [] n x at = cc
in-enumerate a (y ∷ ys) zero x at = let e : a + 0 ≡ a = omega arith in let same = sym (some_is y x at) in inl (λ i. (e i, same i))
in-enumerate a (y ∷ ys) (suc n) x at = let e : a + 1 + n ≡ a + suc n = omega arith in inr (subst (λ m. In (m, x) (enumerate_from (a + 1) ys)) e (in-enumerate (a + 1) ys n x at))

-- ---- runs start before the thousandth hour

-- the number of seconds stays a variable, so that none of them is computed
runs_are : (n : ℕ) → n ≡ 3_600_000 → (t : Trip) → filter (is_run t) (range_with_len 0 n) ≡ runs t
unfolding runs
runs_are n e t = ap (λ m. filter (is_run t) (range_with_len 0 m)) e

run_listed : (n : ℕ) → n ≡ 3_600_000 → (t : Trip) (r : ℕ) → is_run t r ≡ true → r < n → In r (runs t)
run_listed n e t r is small = subst (In r) (runs_are n e t) (in-filter (is_run t) (range_with_len 0 n) r (in-range 0 n r (omega arith) (omega (arith, small))) is)

-- the times of a trip
pub record HasTimes (t : Trip) : Type 0 where
  pub rows : (n : ℕ) (row : StopRow) → slice_get t.stop_rows n ≡ Some row → unwrap_or (leaves row) 0 ≤ 3_599_999
  pub runs : (r : ℕ) → is_run t r ≡ true → r ≤ 3_599_999

all_got : {X : Type 0} (P : X → Type 0) (xs : List X) (n : ℕ) (x : X) → All P xs → slice_get xs n ≡ Some x → P x
all_got P xs n x all at = subst P (get_or_from_slice_get xs n x x at) (all n x (slice_get_within xs n x at))

start_is_left : (t : Trip) (rows : List StopRow) → ((n : ℕ) (row : StopRow) → slice_get rows n ≡ Some row → unwrap_or (leaves row) 0 ≤ 3_599_999) → unwrap_or (first_leaves rows) 0 ≤ 3_599_999
start_is_left t [] h = omega arith
start_is_left t (row ∷ rows) h = h 0 row refl

of_period : (p : PeriodRow) (r : ℕ) → IsPeriod p → starts_run (frequency_of p) r ≡ true → r ≤ 3_599_999
of_period p r is starts =
    let both = and_parts (nat_le p.start_time r && nat_lt r p.end_time) _ starts in
    let before = ltb-true r p.end_time (and_parts (nat_le p.start_time r) (nat_lt r p.end_time) both.0).1 in
    omega (arith, before, is.end)

run_small : (t : Trip) (r : ℕ) → (b : Bool) → (length t.frequencies == 0) ≡ b → is_run t r ≡ true → unwrap_or (first_leaves t.stop_rows) 0 ≤ 3_599_999
    → ((r : ℕ) → list_any (λ f. starts_run f r) t.frequencies ≡ true → r ≤ 3_599_999) → r ≤ 3_599_999
run_small t r true none is start periods =
    let run = rw none at (and_parts (not (length t.stop_rows == 0)) _ is).1 in
    let same = eqb-true r (trip_start t) run in
    omega (arith, same, start)
run_small t r false some is start periods = periods r (rw some at (and_parts (not (length t.stop_rows == 0)) _ is).1)

pub has_times : (p : Parts) → IsSoundParts p → (n : ℕ) (t : Trip) → slice_get (content_of_parts p).trips n ≡ Some t → HasTimes t
has_times p sound n t at =
    let r = trip_back p p.trips (stop_rows_by_trip p) (frequencies_by_trip p) n t at in
    let rows = rows_within p sound n r.0 r.1 r.2 r.3.0 r.3.1.0 r.3.1.1.0 in
    let periods = periods_within p sound n r.0 r.1 r.2 r.3.0 r.3.1.0 r.3.1.1.0 in
    let left : (k : ℕ) (row : StopRow) → slice_get (map (stop_row_of p) r.1) k ≡ Some row → unwrap_or (leaves row) 0 ≤ 3_599_999 = λ k row there.
    let m = map_at (stop_row_of p) r.1 k row there in
    subst (λ (x : StopRow). unwrap_or (leaves x) 0 ≤ 3_599_999) m.1.1 (most_left (left_at m.0) (all_got (λ x. IfSome (left_at x) (λ a. a ≤ 3_599_999)) r.1 k m.0 rows m.1.0)) in
    let u = trip_of p r.0 r.1 r.2 in
    subst HasTimes r.3.1.1.1 (record {
      rows = left;
      runs = λ run is. run_small u run _ refl is (start_is_left u u.stop_rows left) (λ s any.
          let found = any_at (λ f. starts_run f s) (map frequency_of r.2) any in
          let m = map_at frequency_of r.2 found.0 found.1 found.2.0 in
          of_period m.0 s (all_got IsPeriod r.2 found.0 m.0 periods m.1.0) (ap (λ f. starts_run f s) m.1.1 ∙ found.2.1));
    })

-- ---- events

at_small : (run left start : ℕ) → run ≤ 3_599_999 → left ≤ 3_599_999 → run + left - start ≤ 7_199_998
at_small run left start a b = omega (arith, a, b)

pub event_small : (p : Parts) → IsSoundParts p → (s service : List ℕ) (e : Event) → IsPassing (content_of_parts p) s service e → e.at ≤ 7_199_998
event_small p sound s service e h =
    let times = has_times p sound e.trip.0 h.trip h.trip_at in
    subst (λ n. n ≤ 7_199_998) h.at (at_small e.run (unwrap_or (leaves h.row) 0) (trip_start h.trip) (times.runs e.run h.run) (times.rows e.row h.row h.row_at))

pub event_timely : (p : Parts) → IsSoundParts p → (s service : List ℕ) (e : Event) → IsPassing (content_of_parts p) s service e → e.at ≤ latest (content_of_parts p) s
event_timely p sound s service e h =
    let f = content_of_parts p in
    let times = has_times p sound e.trip.0 h.trip h.trip_at in
    let most = times.runs e.run h.run in
    let run = run_listed 3_600_000 refl h.trip e.run h.run (omega (arith, most)) in
    let among : In (0 + e.row, h.row) (departure_rows f s h.trip) = in-filter (λ x. is_departure_row h.trip x.1 && is_in_place f s x.1.stop_id) (enumerate_from 0 h.trip.stop_rows) (0 + e.row, h.row)
    (in-enumerate 0 h.trip.stop_rows e.row h.row h.row_at) (and_from (is_departure_row h.trip h.row) (is_in_place f s h.row.stop_id) h.departs h.place) in
    let all : In (passes_at h.trip e.run h.row) (flat_map (λ t. flat_map (λ x. map (λ r. passes_at t r x.1) (runs t)) (departure_rows f s t)) f.trips) =
    in-flat_map (λ t. flat_map (λ x. map (λ r. passes_at t r x.1) (runs t)) (departure_rows f s t)) f.trips h.trip (passes_at h.trip e.run h.row) (at_in f.trips e.trip.0 h.trip h.trip_at)
    (in-flat_map (λ x. map (λ r. passes_at h.trip r x.1) (runs h.trip)) (departure_rows f s h.trip) (0 + e.row, h.row) (passes_at h.trip e.run h.row) among
    (in-map (λ r. passes_at h.trip r h.row) (runs h.trip) e.run run)) in
    subst (λ n. n ≤ latest f s) h.at (fold_most 0 _ (passes_at h.trip e.run h.row) all)

pub all-each : {X : Type 0} (P : X → Type 0) (xs : List X) → ((x : X) → In x xs → P x) → All P xs
all-each P [] h k d within = absurd (omega (arith, within))
all-each P (x ∷ xs) h zero d within = h x (inl refl)
all-each P (x ∷ xs) h (suc k) d within = all-each P xs (λ y there. h y (inr there)) k d (omega (arith, within))

-- what is known of the lanes of a stop
module _ (p : Parts) (sound : IsSoundParts p) (s : List ℕ) (lanes : StopLanesValue) (are : AreLanesOf (content_of_parts p) s (service_ids p) (lanes_of lanes)) where
  pub timely : lanes.greatest ≡ latest (content_of_parts p) s → AreTimely lanes
  timely greatest k d within = all-each (λ e. (e.at ≤ lanes.greatest) × (e.at ≤ 7_199_998)) (get_or (lanes_of lanes) k d).events (λ e there.
      let same : get_or (lanes_of lanes) k d ≡ lane_at lanes k = got_alike (lanes_of lanes) k d no_lane within in
      let here = subst (λ (l : LaneValue). In e l.events) same there in
      let is = passing (content_of_parts p) s _ e (lane_event (content_of_parts p) s (service_ids p) lanes are k e here) in
      (subst (λ n. e.at ≤ n) (sym greatest) (event_timely p sound s _ e is), event_small p sound s _ e is))
    where
      got_alike : {X : Type 0} (xs : List X) (k : ℕ) (d e : X) → k < length xs → get_or xs k d ≡ get_or xs k e
      got_alike [] k d e within = absurd (omega (arith, within))
      got_alike (x ∷ xs) zero d e within = refl
      got_alike (x ∷ xs) (suc k) d e within = got_alike xs k d e (omega (arith, within))

-- the instant of a time of a service day is one of `jiff`
pub instant_there : (z : Zone) (d : ℤ) (at : ℕ) (x : ℤ) → is_service_day d ≡ true → at ≤ 7_199_998 → x ≡ zone_origin z d +ℤ pos at → IsInstant x
instant_there z d at x service small is =
    let noon = (noon_offset z (date_of_day d)).in_range in
    let both = day_there d service in
    (omega (arith, ints, noon, both.0, both.1, small, is), omega (arith, ints, noon, both.0, both.1, small, is))
