-- The events of one course, which stand first among sorted ones.
use Rattle.std.proofs.Common.{◌≡◌, ◌≤◌, ◌<◌, ◌+◌, ◌-◌, ◌++◌, ◌∙◌, ℕ, false, true, List, [], ◌∷◌, Some, length, map, take, drop, get_or, nat_lt, refl, sym, ap, subst, arith, inl, inr}
use Rattle.std.specs.Prelude.{AllPairs}
use Rattle.std.specs.List.{All}
use Rattle.std.proofs.lemmas.Bool.{cases_Bool, ltb-false, ltb-true}
use Rattle.std.proofs.lemmas.List.{drop-drop, get_or_default, get_or-drop, get_or-map, get_or-take, length-drop, length-map, length-take-le, map-append, take-append-drop, take_rest}
use Rattle.std.proofs.lemmas.List.Elements.{All-map, All-take}
use Rattle.std.proofs.lemmas.Simd.{map-map}
use Rattle.gtfs_rows.specs.TransferOrder.{Ascends}
use Rattle.gtfs_rows.specs.RowsInMemory.{content_of_parts}
use Rattle.gtfs_rows.specs.declared.parts.Parts.{Parts}
use Rattle.gtfs_runs.specs.LaneKinds.{IsListLane, course_at, is_of_list}
use Rattle.gtfs_runs.specs.StopLanes.{LaneValue, events_of_service}
use Rattle.gtfs_runs.specs.declared.event.Event.{Event}
use Rattle.gtfs_runs.specs.declared.stop_lanes.listed.ListedEvent.{ListedEvent}
use Rattle.gtfs_runs.specs.steps.Courses.{CourseNo, IsListed, Stopping, course_of, event_of, how_many, is_same_course, stopping_cmp, stopping_events, stopping_of}
use Rattle.gtfs_runs.specs.steps.TripGroups.{trip_group}
use Rattle.gtfs_runs.specs.steps.CourseNumbers.{AreNumbered, IsNumbered}
use Rattle.gtfs_runs.proofs.CourseOrder.{chunk_differs, course_is, one_course, pairs-right, told_more}

split : (p : Parts) (n : ℕ) (xs : List ListedEvent) → map (stopping_of p) xs ≡ map (stopping_of p) (take n xs) ++ map (stopping_of p) (drop n xs)
split p n xs = ap (map (stopping_of p)) (sym (take-append-drop n xs)) ∙ map-append (stopping_of p) (take n xs) (drop n xs)

pub pairs-drop : {X : Type 0} (R : X → X → Type 0) (n : ℕ) (xs : List X) → AllPairs R xs → AllPairs R (drop n xs)
pairs-drop R n xs up = pairs-right R (take n xs) (drop n xs) (subst (AllPairs R) (sym (take-append-drop n xs)) up)

pub all_mapped : {X Y : Type 0} (P : Y → Type 0) (f : X → Y) (xs : List X) → All P (map f xs) → All (λ x. P (f x)) xs
all_mapped P f xs all k d within = subst P (get_or-map f xs k d (f d) within) (all k (f d) (let size = length-map xs f in omega (arith, size, within)))

all_alike : {Y : Type 0} (f : Event → Y) (es : List Event) (y : Y) → All (λ e. f e ≡ y) es → AllPairs (λ a b. f a ≡ f b) es
all_alike f es y all i j d before within = all i d (omega (arith, before, within)) ∙ sym (all j d within)

-- an element that stands nowhere
abbrev pub no_event : ListedEvent
no_event = record { group = 0; row = 0; at = 0; trip = 0; run = 0; seq = 0; service = 0; rank = 0 }

module _ (p : Parts) (xs : List ListedEvent) (n : ℕ) (first : ListedEvent) (some : 0 < n) (upto : n ≤ length xs) (up : Ascends stopping_cmp (map (stopping_of p) xs))
    (same : (k : ℕ) (d : ListedEvent) → k < n → ◌≡◌ {A = CourseNo} (stopping_of p (get_or xs k d)).course (stopping_of p (get_or xs 0 d)).course) (head : first ≡ get_or xs 0 first) where
  abbrev c : CourseNo
  c = (stopping_of p first).course

  abbrev fs : List Stopping
  fs = map (stopping_of p) (take n xs)

  abbrev bs : List Stopping
  bs = map (stopping_of p) (drop n xs)

  size : length (map (stopping_of p) (take n xs)) ≡ n
  size = length-map (take n xs) (stopping_of p) ∙ length-take-le n xs upto

  pub one : All (λ z. z.course ≡ (stopping_of p first).course) (map (stopping_of p) (take n xs))
  one =
      All-map (λ z. z.course ≡ c) (stopping_of p) (take n xs) (λ k d within.
      let long = length-take-le n xs upto in
      let below : k < n = omega (arith, long, within) in
      let filled : 0 < length xs = omega (arith, some, upto) in
      ap (λ x. (stopping_of p x).course) (get_or-take n xs k d below) ∙ same k d below ∙ ap (λ x. (stopping_of p x).course) (get_or_default xs 0 d first filled ∙ sym head))

  -- its lane has one course of trips without frequencies
  pub lane_of_course : (q : Parts) (lane : LaneValue) → lane.events ≡ map event_of (take n xs) → All (λ x. IsListed q (stopping_of p x)) xs → IsListLane (content_of_parts q) lane
  lane_of_course q lane events own =
      let found : All (λ x. IsListed q (stopping_of p x)) (take n xs) = All-take (λ x. IsListed q (stopping_of p x)) n xs own in
      let courses : All (λ x. (stopping_of p x).course ≡ c) (take n xs) = all_mapped (λ z. z.course ≡ c) (stopping_of p) (take n xs) one in
      let content = content_of_parts q in
      record {
        listed = subst (λ es. All (λ e. is_of_list content e ≡ true) es) (sym events) (All-map (λ e. is_of_list content e ≡ true) event_of (take n xs) (λ k d h. (found k d h).listed));
        alike = subst (λ es. AllPairs (λ x y. course_at content x ≡ course_at content y) es) (sym events)
            (all_alike (course_at content) (map event_of (take n xs)) (Some (course_of q c))
            (All-map (λ e. course_at content e ≡ Some (course_of q c)) event_of (take n xs) (λ k d h. (found k d h).course ∙ ap (λ z. Some (course_of q z)) (courses k d h))));
      }

  module _ (ends : (d : ListedEvent) → n < length xs → is_same_course (stopping_of p (get_or xs 0 d)).course (stopping_of p (get_or xs n d)).course ≡ false) where
    differ : All (λ z. is_same_course (stopping_of p first).course z.course ≡ false) (map (stopping_of p) (drop n xs))
    differ =
        let filled : 0 < length fs = omega (arith, size, some) in
        chunk_differs fs bs c filled (subst (λ l. Ascends stopping_cmp l) (split p n xs) up) one (λ d more.
        let left : length bs ≡ length xs - n = length-map (drop n xs) (stopping_of p) ∙ length-drop n xs in
        let inside : n < length xs = omega (arith, left, more) in
        let here : 0 < length (drop n xs) = omega (arith, length-drop n xs, inside) in
        let same_index : n + 0 ≡ n = omega arith in
        let at : get_or bs 0 d ≡ stopping_of p (get_or xs n first) =
        get_or-map (stopping_of p) (drop n xs) 0 first d here ∙ ap (stopping_of p) (get_or-drop n xs 0 first ∙ ap (λ m. get_or xs m first) same_index) in
        ap (λ z. is_same_course c z.course) at ∙ ap (λ x. is_same_course (stopping_of p x).course (stopping_of p (get_or xs n first)).course) head ∙ ends first inside)

    pub fewer : how_many is_same_course (map (λ x. x.course) (map (stopping_of p) xs)) ≡ how_many is_same_course (map (λ x. x.course) (map (stopping_of p) (drop n xs))) + 1
    fewer =
        let filled : 0 < length fs = omega (arith, size, some) in
        ap (λ l. how_many is_same_course (map (λ x. x.course) l)) (split p n xs) ∙ one_course fs bs c filled one differ

  pub told_list : (k : ℕ) (lanes new : List LaneValue) (lane : LaneValue) → new ≡ lanes ++ lane ∷ [] → lane.events ≡ map event_of (take n xs) → lane.service ≡ (trip_group p first.trip).0
      → events_of_service k new ++ stopping_events k (map (stopping_of p) (drop n xs)) ≡ events_of_service k lanes ++ stopping_events k (map (stopping_of p) xs)
  told_list k lanes new lane pushed events serves =
      told_more k lanes new lane fs bs (map (stopping_of p) xs) (events_of_service k lanes ++ stopping_events k (map (stopping_of p) xs)) pushed (split p n xs)
      (events ∙ sym (map-map (λ z. z.event) (stopping_of p) (take n xs))) (λ j d within. ap (λ z. z.service) (one j d within) ∙ sym serves) refl

-- ---- the steps of the code

pub left_more : {X : Type 0} (xs : List X) (at n : ℕ) → drop n (take (length xs - at) (drop at xs)) ≡ drop (at + n) xs
left_more xs at n = ap (drop n) (take_rest xs at) ∙ drop-drop n at xs

pub upto_more : {X : Type 0} (xs : List X) (at n : ℕ) → at ≤ length xs → n ≤ length (take (length xs - at) (drop at xs)) → at + n ≤ length xs
upto_more xs at n within upto =
    let size : length (take (length xs - at) (drop at xs)) ≡ length xs - at = ap length (take_rest xs at) ∙ length-drop at xs in
    omega (arith, size, within, upto)

-- two events of a list that are compared by their numbers
numbered_pair : (p : Parts) (xs : List ListedEvent) (n : ℕ) (a b : ListedEvent) → AreNumbered p xs → n < length xs → a ≡ get_or xs 0 a → b ≡ get_or xs n b → IsNumbered p a b
numbered_pair p xs n a b numbers inside first last =
    subst (λ z. IsNumbered p z b) (sym first) (subst (λ z. IsNumbered p (get_or xs 0 a) z) (sym last) (numbers 0 a (omega (arith, inside)) n b inside))

-- one event more of the course of the first
pub course_more : (p : Parts) (xs : List ListedEvent) (n : ℕ) (a b : ListedEvent) → AreNumbered p xs → n < length xs → a ≡ get_or xs 0 a → b ≡ get_or xs n b
    → (IsNumbered p a b → is_same_course (stopping_of p a).course (stopping_of p b).course ≡ true)
    → ((k : ℕ) (d : ListedEvent) → k < n → ◌≡◌ {A = CourseNo} (stopping_of p (get_or xs k d)).course (stopping_of p (get_or xs 0 d)).course)
    → (k : ℕ) (d : ListedEvent) → k < n + 1 → ◌≡◌ {A = CourseNo} (stopping_of p (get_or xs k d)).course (stopping_of p (get_or xs 0 d)).course
course_more p xs n a b numbers inside first last same so_far k d below = elim (cases_Bool (nat_lt k n)) [
  | inl is ↦ so_far k d (ltb-true k n is)
  | inr isnt ↦
      let here : k ≡ n = omega (arith, ltb-false k n isnt, below) in
      let filled : 0 < length xs = omega (arith, inside) in
      let equal : ◌≡◌ {A = CourseNo} (stopping_of p a).course (stopping_of p b).course =
      course_is (stopping_of p a).course (stopping_of p b).course (same (numbered_pair p xs n a b numbers inside first last)) in
      ap (λ m. (stopping_of p (get_or xs m d)).course) here
      ∙ sym (ap (λ x. (stopping_of p x).course) (sym (first ∙ get_or_default xs 0 a d filled)) ∙ equal ∙ ap (λ x. (stopping_of p x).course) (last ∙ get_or_default xs n b d inside))
]
