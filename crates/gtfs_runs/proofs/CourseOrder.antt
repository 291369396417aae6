-- The order of events by their courses, and what of it a lane keeps.
use Rattle.std.proofs.Common.{rules, ◌≡◌, ◌<◌, ◌+◌, ◌++◌, ◌∙◌, ℕ, Bool, true, false, cond, List, [], ◌∷◌, length, map, filter, get_or, refl, sym, ap, subst, arith, inl, inr, ◌⊎◌, ◌==◌}
use Rattle.std.specs.Prelude.{AllPairs}
use Rattle.std.specs.List.{All, flat_map, list_any}
use Rattle.std.specs.List.Sorted.{IsSorted}
use Rattle.std.specs.Cmp.{IsTotalOrder, tied_itself}
use Rattle.std.specs.Cmp.Rules.{comparing}
use Rattle.std.specs.FinMap.{nat_cmp-IsAntisymmetric, slice_cmp-IsAntisymmetric}
use Rattle.std.specs.declared.cmp.Ordering.{Ordering}
use Rattle.std.specs.declared.cmp.Ordering.TheVariants.{Less, Equal, Greater}
use Rattle.std.specs.Ordering.{is_eq, is_lt, ordering_then, ordering_reverse}
use Rattle.std.proofs.lemmas.Bool.{true≢false, false≢true, cases_Bool}
use Rattle.std.proofs.lemmas.List.{append-nil, append_assoc as append-assoc, get_or-map, length-map, map-append}
use Rattle.std.proofs.lemmas.List.Elements.{All-cons, All-head, All-tail, filter-append}
use Rattle.std.proofs.lemmas.List.Folds.{list_any_none as none_any}
use Rattle.gtfs_field.proofs.OrderingFacts.{equal, tied as both_equal}
use Rattle.gtfs_rows.specs.TransferOrder.{Ascends}
use Rattle.gtfs_rows.proofs.SameElements.{pairs-head, pairs-tail}
use Rattle.gtfs_runs.specs.StopLanes.{LaneValue, events_of_service}
use Rattle.gtfs_runs.specs.declared.event.Event.{Event}
use Rattle.gtfs_runs.specs.steps.Courses.{CourseNo, Stopping, course_no_cmp, how_many, is_same_course, stopping_cmp, stopping_events}
use Rattle.gtfs_runs.proofs.LaneTallies.{serving-append}

pub stoppings_total : IsTotalOrder stopping_cmp
stoppings_total = search (comparing, rules) depth 20

pub courses_total : IsTotalOrder course_no_cmp
courses_total = search (comparing, rules) depth 20

pub sorted-mapped : {X Y : Type 0} (f : X → Y) (order : Y → Y → Ordering) (xs : List X) → IsSorted (λ x y. order (f x) (f y)) xs → IsSorted order (map f xs)
sorted-mapped f order [] up k d from within = let none : k + 1 < 0 = within in absurd (omega (arith, none))
sorted-mapped f order (x ∷ xs) up k d from within =
    let inside : k + 1 < length (x ∷ xs) = subst (λ m. k + 1 < m) (length-map (x ∷ xs) f) within in
    let before : k < length (x ∷ xs) = omega (arith, inside) in
    let first = get_or-map f (x ∷ xs) (k + 1) x d inside in
    let second = get_or-map f (x ∷ xs) k x d before in
    ap (λ a. is_lt (order a (get_or (map f (x ∷ xs)) k d))) first
    ∙ ap (λ b. is_lt (order (f (get_or (x ∷ xs) (k + 1) x)) b)) second
    ∙ up k x from inside

-- ---- courses

pub course_is : (a b : CourseNo) → is_same_course a b ≡ true → a ≡ b
course_is a b h =
    let x = both_equal _ _ (equal _ h) in
    let y = both_equal _ _ x.1 in
    let services = nat_cmp-IsAntisymmetric a.service b.service x.0 in
    let stops = slice_cmp-IsAntisymmetric nat_cmp-IsAntisymmetric a.stops b.stops y.0 in
    let rows = nat_cmp-IsAntisymmetric a.row b.row y.1 in
    λ i. record { service = services i; row = rows i; stops = stops i }

pub course_itself : (a : CourseNo) → is_same_course a a ≡ true
course_itself a = ap is_eq (tied_itself courses_total a)

pub same_courses : (a b : CourseNo) → a ≡ b → is_same_course a b ≡ true
same_courses a b is = subst (λ c. is_same_course a c ≡ true) is (course_itself a)

-- ---- parts of ascending lists

pub pairs-right : {X : Type 0} (R : X → X → Type 0) (xs ys : List X) → AllPairs R (xs ++ ys) → AllPairs R ys
pairs-right R [] ys up = up
pairs-right R (x ∷ xs) ys up = pairs-right R xs ys (pairs-tail R x (xs ++ ys) up)

pub all-right : {X : Type 0} (P : X → Type 0) (xs ys : List X) → All P (xs ++ ys) → All P ys
all-right P [] ys all = all
all-right P (x ∷ xs) ys all = all-right P xs ys (All-tail P x (xs ++ ys) all)

-- ---- the events of one course, which come first

-- an event below another has a lower course or the same
lower : (r s : Ordering) → ordering_then r s ≡ Less → (r ≡ Less) ⊎ (r ≡ Equal)
lower Less s h = inl refl
lower Equal s h = inr refl
lower Greater s h = absurd (cc)

-- no course comes again
never_again : (x y z : Stopping) → stopping_cmp x y ≡ Less → stopping_cmp y z ≡ Less → is_same_course x.course y.course ≡ false → is_same_course x.course z.course ≡ false
never_again x y z first second differ = elim (cases_Bool (is_same_course x.course z.course)) [
  | inr isnt ↦ isnt
  | inl is ↦
      let again : x.course ≡ z.course = course_is x.course z.course is in
      let back : (course_no_cmp y.course x.course ≡ Less) ⊎ (course_no_cmp y.course x.course ≡ Equal) =
      subst (λ c. (course_no_cmp y.course c ≡ Less) ⊎ (course_no_cmp y.course c ≡ Equal)) (sym again) (lower (course_no_cmp y.course z.course) _ second) in
      absurd (elim (lower (course_no_cmp x.course y.course) _ first) [
        | inr tie ↦ true≢false (sym (ap is_eq tie) ∙ differ)
        | inl less ↦ elim back [
          | inl turned ↦ opposite (course_no_cmp y.course x.course) (sym less ∙ courses_total.antisymm x.course y.course) turned
          | inr turned ↦ level (course_no_cmp y.course x.course) (sym less ∙ courses_total.antisymm x.course y.course) turned
        ]
      ])
]
  where
    opposite : (r : Ordering) → Less ≡ ordering_reverse r → r ≡ Less → ⊥
    opposite Less h k = true≢false (ap is_lt h)
    opposite Equal h k = true≢false (ap is_lt h)
    opposite Greater h k = false≢true (ap is_lt k)

    level : (r : Ordering) → Less ≡ ordering_reverse r → r ≡ Equal → ⊥
    level Less h k = true≢false (ap is_lt h)
    level Equal h k = true≢false (ap is_lt h)
    level Greater h k = false≢true (ap is_eq k)

pub others_differ : (x : Stopping) (xs bs : List Stopping) → Ascends stopping_cmp (x ∷ (xs ++ bs)) → ((d : Stopping) → 0 < length bs → is_same_course x.course (get_or bs 0 d).course ≡ false)
    → All (λ z. is_same_course x.course z.course ≡ false) bs
others_differ x xs [] up ends = λ k d within. absurd (omega (arith, within))
others_differ x xs (b ∷ bs) up ends =
    let R : Stopping → Stopping → Type 0 = λ y z. stopping_cmp y z ≡ Less in
    let above : All (λ z. stopping_cmp x z ≡ Less) (b ∷ bs) = all-right (λ z. stopping_cmp x z ≡ Less) xs (b ∷ bs) (pairs-head R x (xs ++ b ∷ bs) up) in
    let rest : Ascends stopping_cmp (b ∷ bs) = pairs-right R (x ∷ xs) (b ∷ bs) up in
    let differ : is_same_course x.course b.course ≡ false = ends b (omega arith) in
    All-cons (λ z. is_same_course x.course z.course ≡ false) b bs differ
    (λ k d within. never_again x b (get_or bs k d) (All-head (λ z. stopping_cmp x z ≡ Less) b bs above) (pairs-head R b bs rest k d within) differ)

-- ---- how many courses

pub one_course : (cs : List Stopping) (bs : List Stopping) (c : CourseNo) → 0 < length cs → All (λ z. z.course ≡ c) cs → All (λ z. is_same_course c z.course ≡ false) bs
    → how_many is_same_course (map (λ z. z.course) (cs ++ bs)) ≡ how_many is_same_course (map (λ z. z.course) bs) + 1
one_course [] bs c some same differ = absurd (omega arith)
one_course (x ∷ []) bs c some same differ =
    let own : x.course ≡ c = All-head (λ z. z.course ≡ c) x [] same in
    let none : list_any (is_same_course x.course) (map (λ z. z.course) bs) ≡ false =
    any-mapped (is_same_course x.course) bs ∙ ap (λ a. list_any (λ z. is_same_course a z.course) bs) own ∙ none_any (λ z. is_same_course c z.course) bs differ in
    rw none refl
  where
    any-mapped : (q : CourseNo → Bool) (zs : List Stopping) → list_any q (map (λ z. z.course) zs) ≡ list_any (λ z. q z.course) zs
    any-mapped q [] = refl
    any-mapped q (z ∷ zs) = rw (any-mapped q zs) refl
one_course (x ∷ y ∷ cs) bs c some same differ =
    let rest = All-tail (λ z. z.course ≡ c) x (y ∷ cs) same in
    let here : is_same_course x.course y.course ≡ true =
    same_courses x.course y.course (All-head (λ z. z.course ≡ c) x (y ∷ cs) same ∙ sym (All-head (λ z. z.course ≡ c) y cs rest)) in
    rw here (one_course (y ∷ cs) bs c (omega arith) rest differ)

-- ---- the events of a service

pub stopping-append : (k : ℕ) (xs ys : List Stopping) → stopping_events k (xs ++ ys) ≡ stopping_events k xs ++ stopping_events k ys
stopping-append k xs ys =
    ap (map (λ x. x.event)) (filter-append (λ x. x.course.service == k) xs ys)
    ∙ map-append (λ x. x.event) (filter (λ x. x.course.service == k) xs) (filter (λ x. x.course.service == k) ys)

one_service : (k service : ℕ) (zs : List Stopping) → All (λ z. z.course.service ≡ service) zs → stopping_events k zs ≡ cond (service == k) (map (λ z. z.event) zs) []
one_service k service [] same = nothing (service == k)
  where
    nothing : (b : Bool) → ◌≡◌ {A = List Event} [] (cond b [] [])
    nothing true = refl
    nothing false = refl
one_service k service (z ∷ zs) same =
    ap (λ s. map (λ x. x.event) (cond (s == k) (z ∷ filter (λ x. x.course.service == k) zs) (filter (λ x. x.course.service == k) zs))) (All-head (λ x. x.course.service ≡ service) z zs same)
    ∙ pushed (service == k) (filter (λ x. x.course.service == k) zs) (one_service k service zs (All-tail (λ x. x.course.service ≡ service) z zs same))
  where
    pushed : (b : Bool) (ys : List Stopping) → map (λ x. x.event) ys ≡ cond b (map (λ x. x.event) zs) [] → map (λ x. x.event) (cond b (z ∷ ys) ys) ≡ cond b (z.event ∷ map (λ x. x.event) zs) []
    pushed true ys is = ap (λ l. z.event ∷ l) is
    pushed false ys is = is

-- a lane more: what is left tells the less
pub told_more : (k : ℕ) (lanes new : List LaneValue) (lane : LaneValue) (fs bs rest : List Stopping) (every : List Event)
    → new ≡ lanes ++ lane ∷ [] → rest ≡ fs ++ bs → lane.events ≡ map (λ z. z.event) fs → All (λ z. z.course.service ≡ lane.service) fs
    → events_of_service k lanes ++ stopping_events k rest ≡ every → events_of_service k new ++ stopping_events k bs ≡ every
told_more k lanes new lane fs bs rest every pushed split events serve told =
    let one : events_of_service k (lane ∷ []) ≡ stopping_events k fs = single (lane.service == k) ∙ ap (λ l. cond (lane.service == k) l []) events ∙ sym (one_service k lane.service fs serve) in
    ap (λ l. events_of_service k l ++ stopping_events k bs) pushed
    ∙ ap (λ l. l ++ stopping_events k bs) (serving-append k lanes (lane ∷ []) ∙ ap (λ l. events_of_service k lanes ++ l) one)
    ∙ append-assoc (events_of_service k lanes) (stopping_events k fs) (stopping_events k bs)
    ∙ ap (λ l. events_of_service k lanes ++ l) (sym (ap (stopping_events k) split ∙ stopping-append k fs bs))
    ∙ told
  where
    single : (b : Bool) → flat_map (λ l. l.events) (cond b (lane ∷ []) []) ≡ cond b lane.events []
    single true = append-nil lane.events
    single false = refl

-- ---- the steps of the code

pub chunk_differs : (fs bs : List Stopping) (c : CourseNo) → 0 < length fs → Ascends stopping_cmp (fs ++ bs) → All (λ z. z.course ≡ c) fs
    → ((d : Stopping) → 0 < length bs → is_same_course c (get_or bs 0 d).course ≡ false) → All (λ z. is_same_course c z.course ≡ false) bs
chunk_differs [] bs c some up same ends = absurd (omega arith)
chunk_differs (x ∷ fs) bs c some up same ends =
    let own : x.course ≡ c = All-head (λ z. z.course ≡ c) x fs same in
    subst (λ a. All (λ z. is_same_course a z.course ≡ false) bs) own
    (others_differ x fs bs up (λ d more. subst (λ a. is_same_course a (get_or bs 0 d).course ≡ false) (sym own) (ends d more)))

pub count_more : (lanes new left rest : ℕ) → new ≡ lanes + 1 → rest ≡ left + 1 → new + left ≡ lanes + rest
count_more lanes new left rest pushed fewer = omega (arith, pushed, fewer)
