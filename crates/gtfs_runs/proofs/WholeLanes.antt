-- What is found of all trips, put into lanes, is the lanes of the stop.
use Rattle.std.proofs.Common.{◌≡◌, ◌≤◌, ◌<◌, ◌+◌, ◌++◌, ◌∙◌, ℕ, Bool, true, false, not, cond, List, [], ◌∷◌, length, map, filter, take, get_or, nat_lt, refl, sym, ap, subst, arith, inl, inr, ◌&&◌, ◌==◌, zero-add}
use Rattle.std.specs.List.{All, flat_map}
use Rattle.std.specs.List.Sorted.{IsPermutation, IsSorted}
use Rattle.std.specs.Cmp.Derive.{both_true}
use Rattle.std.specs.FinMap.{nat_cmp-IsAntisymmetric}
use Rattle.std.specs.declared.cmp.Ordering.{Ordering}
use Rattle.std.specs.declared.cmp.Ordering.TheVariants.{Less, Equal, Greater}
use Rattle.std.specs.Ordering.{eq_by_cmp, is_eq, is_lt, ordering_reverse}
use Rattle.std.proofs.lemmas.Bool.{cases_Bool, ltb-false, true≢false}
use Rattle.std.proofs.lemmas.List.{length-append, length-map, take_all as all_taken}
use Rattle.std.proofs.lemmas.List.Elements.{All-append, All-map}
use Rattle.std.proofs.lemmas.List.Sorted.{All-permutation, IsPermutation-map, IsPermutation-trans, length_permutation, ranks_by, sorted_far}
use Rattle.std.proofs.lemmas.Simd.{map-map}
use Rattle.gtfs_field.proofs.NumberFacts.{number_itself as itself}
use Rattle.gtfs_field.proofs.OrderingFacts.{tied as both_equal}
use Rattle.gtfs_rows.specs.Content.{Content}
use Rattle.gtfs_rows.specs.TransferOrder.{Ascends}
use Rattle.gtfs_rows.specs.declared.frequency.Frequency.{Frequency}
use Rattle.gtfs_rows.specs.declared.parts.Parts.{Parts}
use Rattle.gtfs_stop_times.specs.declared.stop_row.StopRow.{StopRow}
use Rattle.gtfs_rows.specs.declared.trip.Trip.{Trip}
use Rattle.gtfs_rows.specs.RowsInMemory.{IsSoundParts, content_of_parts, service_ids, stop_ids, text_of_number, trips_of}
use Rattle.gtfs_rows.specs.Trips.{frequencies_by_trip, stop_rows_by_trip}
use Rattle.gtfs_runs.specs.EventOrder.{is_same, event_cmp}
use Rattle.gtfs_runs.specs.Tallies.{tally}
use Rattle.gtfs_runs.specs.Events.{is_event}
use Rattle.gtfs_runs.specs.LaneKinds.{AreByKind, IsListLane}
use Rattle.gtfs_runs.specs.Lanes.{Course, course_cmp, courses_of, departure_rows, has_periods, list_count, period_count}
use Rattle.gtfs_runs.specs.StopLanes.{AreLanesOf, LaneValue, events_of_service}
use Rattle.gtfs_runs.specs.declared.event.Event.{Event}
use Rattle.gtfs_runs.specs.steps.FilledApart.{AreApart}
use Rattle.gtfs_runs.specs.steps.WholeLanes.{AreWhole}
use Rattle.gtfs_runs.specs.steps.Courses.{IsCourse, Stopping, course_of, how_many, is_same_course, stopping_cmp, stopping_events}
use Rattle.gtfs_runs.specs.steps.FoundEvents.{AreFound, times_told}
use Rattle.gtfs_times.proofs.FilledContent.{sound-timed}
use Rattle.gtfs_times.proofs.TimedContent.{content-timed}
use Rattle.gtfs_times.specs.Filling.{timed}
use Rattle.gtfs_times.specs.TimedRows.{timed_parts}
use Rattle.gtfs_times.specs.declared.times.Times.{Times}
use Rattle.gtfs_runs.proofs.ContentEvents.{no_event}
use Rattle.gtfs_runs.proofs.Counting.{same-self}
use Rattle.gtfs_runs.proofs.CourseCounts.{as_many, set_permuted}
use Rattle.gtfs_runs.proofs.CourseOrder.{stoppings_total}
use Rattle.gtfs_runs.proofs.LaneTallies.{told-append}
use Rattle.gtfs_runs.proofs.Tallies.{tally-permutation, two_at}

-- ---- events of a service, by a test

pub events_tally : (k : ℕ) (e : Event) (xs : List Stopping) → tally (is_same e) (stopping_events k xs) ≡ tally (λ x. (x.course.service == k) && is_same e x.event) xs
events_tally k e [] = refl
events_tally k e (x ∷ xs) = first (x.course.service == k) (filter (λ y. y.course.service == k) xs) (events_tally k e xs)
  where
    first : (b : Bool) (ys : List Stopping) → tally (is_same e) (map (λ y. y.event) ys) ≡ tally (λ y. (y.course.service == k) && is_same e y.event) xs
        → tally (is_same e) (map (λ y. y.event) (cond b (x ∷ ys) ys)) ≡ cond (b && is_same e x.event) 1 0 + tally (λ y. (y.course.service == k) && is_same e y.event) xs
    first true ys rest = ap (λ n. cond (is_same e x.event) 1 0 + n) rest
    first false ys rest = rest ∙ sym (zero-add (tally (λ y. (y.course.service == k) && is_same e y.event) xs))

at_most_one : (b : Bool) → cond b 1 0 ≤ 1
at_most_one true = omega arith
at_most_one false = omega arith

upward : (r : Ordering) → is_lt r ≡ false → (r ≡ Equal → ⊥) → ordering_reverse r ≡ Less
upward Less not_less other = absurd (true≢false not_less)
upward Equal not_less other = absurd (other refl)
upward Greater not_less other = refl

pub trips_within : (p : Parts) (ts : List Trip) (rs : List (List StopRow)) (fs : List (List Frequency)) → length (trips_of p ts rs fs) ≤ length ts
trips_within p [] rs fs = omega arith
trips_within p (t ∷ ts) [] fs = omega arith
trips_within p (t ∷ ts) (r ∷ rs) [] = omega arith
trips_within p (t ∷ ts) (r ∷ rs) (f ∷ fs) = let n = trips_within p ts rs fs in omega (arith, n)

module _ (p : Parts) (s : ℕ) (listed : List Stopping) (periods : List LaneValue) (found : AreFound p s (length p.trips) listed periods) where
  abbrev ev : ℕ → Event → Bool
  ev k e = is_event (content_of_parts p) (text_of_number (stop_ids p) s) (text_of_number (service_ids p) k) e

  -- events are those of trips
  told_once : (k : ℕ) (e : Event) → k < length p.services → tally (is_same e) (stopping_events k listed) + times_told k e periods ≡ cond (ev k e) 1 0
  told_once k e within = found.told.exact k e within ∙ elim (cases_Bool (nat_lt e.trip.0 (length p.trips))) [
    | inl is ↦ ap (λ b. cond (b && ev k e) 1 0) is
    | inr isnt ↦
        let none = no_event p (text_of_number (stop_ids p) s) (text_of_number (service_ids p) k) e (ltb-false e.trip.0 (length p.trips) isnt) in
        ap (λ b. cond (b && ev k e) 1 0) isnt ∙ ap (λ b. cond b 1 0) (sym none)
  ]

  -- no event is found twice, so the sorted ones ascend
  pub strictly : (sorted : List Stopping) → IsPermutation listed sorted → IsSorted stopping_cmp sorted → Ascends stopping_cmp sorted
  strictly sorted same up i j d before within =
      let x = get_or sorted i d in
      let y = get_or sorted j d in
      let far : is_lt (stopping_cmp y x) ≡ false =
      sorted_far (λ a b. is_lt (stopping_cmp a b)) (ranks_by stoppings_total (λ a. a)) sorted up i j d (omega (arith, before)) within in
      let apart : stopping_cmp y x ≡ Equal → ⊥ = λ tie.
      let parts = both_equal _ _ tie in
      let course = both_equal _ _ parts.0 in
      let k = y.course.service in
      let q : Stopping → Bool = λ a. (a.course.service == k) && is_same y.event a.event in
      let known : All (λ a. IsCourse p a.course) sorted = All-permutation (λ a. IsCourse p a.course) listed sorted same found.told.known in
      let second : q y ≡ true = both_true (itself k) (same-self y.event) in
      let services : x.course.service ≡ k = sym (nat_cmp-IsAntisymmetric y.course.service x.course.service course.0) in
      let first : q x ≡ true = both_true (ap (λ n. n == k) services ∙ itself k) (ap is_eq parts.1) in
      let two : 2 ≤ tally q sorted = two_at q sorted i j d before within first second in
      let moved : tally q sorted ≡ tally (is_same y.event) (stopping_events k listed) = tally-permutation q listed sorted same ∙ sym (events_tally k y.event listed) in
      let once = told_once k y.event (known j d within).service in
      let most = at_most_one (ev k y.event) in
      omega (arith, two, moved, once, most) in
      stoppings_total.antisymm x y ∙ upward (stopping_cmp y x) far apart

  module _ (sound : IsSoundParts p) (sorted : List Stopping) (same : IsPermutation listed sorted) (lists : List LaneValue)
      (told : (k : ℕ) → events_of_service k lists ≡ stopping_events k sorted) where
    abbrev c : Content
    c = content_of_parts p

    abbrev id : List ℕ
    id = text_of_number (stop_ids p) s

    every : take (length p.trips) (content_of_parts p).trips ≡ (content_of_parts p).trips
    every = all_taken (length p.trips) c.trips (trips_within p p.trips (stop_rows_by_trip p) (frequencies_by_trip p))

    pub listed_count : length lists ≡ how_many is_same_course (map (λ x. x.course) sorted) → list_count (content_of_parts p) (text_of_number (stop_ids p) s) ≡ length lists
    listed_count count =
        let f : Stopping → Course = λ x. course_of p x.course in
        let known : All (λ a. IsCourse p a.course) sorted = All-permutation (λ a. IsCourse p a.course) listed sorted same found.told.known in
        let all = flat_map (courses_of c id) (filter (λ t. not (has_periods t)) c.trips) in
        let texts : IsPermutation all (map f listed) = subst (λ l. IsPermutation (flat_map (courses_of c id) (filter (λ t. not (has_periods t)) l)) (map f listed)) every found.told.courses in
        set_permuted all (map f sorted) (IsPermutation-trans all (map f listed) (map f sorted) texts (IsPermutation-map f listed sorted same))
        ∙ ap (how_many (eq_by_cmp course_cmp)) (sym (map-map (course_of p) (λ x. x.course) sorted))
        ∙ as_many p sound (map (λ x. x.course) sorted) (All-map (IsCourse p) (λ x. x.course) sorted known)
        ∙ sym count

    pub periodic : period_count (content_of_parts p) (text_of_number (stop_ids p) s) ≡ length periods
    periodic = sym (found.told.counted ∙ ap (λ l. length (flat_map (λ t. flat_map (λ period. departure_rows c id t) t.frequencies) (filter has_periods l))) every)

    exact_lanes : (k : ℕ) (e : Event) → k < length p.services → times_told k e (lists ++ periods) ≡ cond (ev k e) 1 0
    exact_lanes k e within =
        let moved : times_told k e lists ≡ tally (is_same e) (stopping_events k listed) =
        ap (tally (is_same e)) (told k) ∙ events_tally k e sorted ∙ tally-permutation (λ x. (x.course.service == k) && is_same e x.event) listed sorted same ∙ sym (events_tally k e listed) in
        told-append k e lists periods ∙ ap (λ n. n + times_told k e periods) moved ∙ told_once k e within

    pub are_lanes : length lists ≡ how_many is_same_course (map (λ x. x.course) sorted) → All (λ lane. lane.service < length p.services) lists
        → All (λ lane. Ascends event_cmp lane.events) lists → All (λ lane. Ascends event_cmp lane.events) periods
        → AreLanesOf (content_of_parts p) (text_of_number (stop_ids p) s) (service_ids p) (lists ++ periods)
    are_lanes count within up_lists up_periods =
        let services : length (service_ids p) ≡ length p.services = length-map p.services (λ x. x.service_id) in
        record {
          within = All-append (λ lane. lane.service < length (service_ids p)) lists periods
              (subst (λ n. All (λ lane. lane.service < n) lists) (sym services) within) (subst (λ n. All (λ lane. lane.service < n) periods) (sym services) found.within);
          ascending = All-append (λ lane. Ascends event_cmp lane.events) lists periods up_lists up_periods;
          exact = λ k e below. exact_lanes k e (subst (λ n. k < n) services below);
          counted = length-append lists periods ∙ (λ i. sym (listed_count count) i + sym periodic i);
        }

-- ---- the same under a choice of times

module _ (choice : Times) (p : Parts) (sound : IsSoundParts p) (s : ℕ) (listed : List Stopping) (periods : List LaneValue)
    (found : AreFound (timed_parts choice p) s (length p.trips) listed periods) (sorted : List Stopping) (same : IsPermutation listed sorted) (lists : List LaneValue)
    (told : (k : ℕ) → events_of_service k lists ≡ stopping_events k sorted) (count : length lists ≡ how_many is_same_course (map (λ x. x.course) sorted)) where
  pub are_whole : All (λ lane. lane.service < length p.services) lists → All (λ lane. Ascends event_cmp lane.events) lists → All (λ lane. Ascends event_cmp lane.events) periods
      → All (IsListLane (content_of_parts (timed_parts choice p))) lists
      → AreWhole (timed choice (content_of_parts p)) (text_of_number (stop_ids p) s) (service_ids p) lists periods
  are_whole within up_lists up_periods alike =
      let q = timed_parts choice p in
      let all = sound-timed p sound choice in
      subst (λ c. AreWhole c (text_of_number (stop_ids p) s) (service_ids p) lists periods) (content-timed choice p sound) (record {
        lanes = are_lanes q s listed periods found all sorted same lists told count within up_lists up_periods;
        listed = sym (listed_count q s listed periods found all sorted same lists told count);
        periodic = sym (periodic q s listed periods found all sorted same lists told);
        kind = alike;
        runs = found.runs;
      })

-- and where the lists stand in two
pub are_by_kind : (choice : Times) (c : Content) (s : List ℕ) (ids : List (List ℕ)) (lists periods given filled : List LaneValue) (greatest : ℕ)
    → AreWhole (timed choice c) s ids lists periods → AreApart c lists given filled
    → AreByKind choice c s (record { lists = given; periods = periods; filled = filled; greatest = greatest })
are_by_kind choice c s ids lists periods given filled greatest whole apart = record {
  lists = sym (length-append given filled) ∙ length_permutation lists (given ++ filled) apart.same ∙ whole.listed;
  periods = whole.periodic;
  listed = All-permutation (IsListLane (timed choice c)) lists (given ++ filled) apart.same whole.kind;
  runs = whole.runs;
  given = apart.given;
  filled = apart.filled;
}
