-- The numbers of groups: what they count, and that they compare like the groups. And what steps keep of the order and the services
-- of events that have them.
use Rattle.std.proofs.Common.{rules, ◌≡◌, ◌≤◌, ◌<◌, ◌+◌, ◌-◌, ◌++◌, ◌∙◌, ℕ, true, List, [], ◌∷◌, cond, false, length, map, take, drop, get_or, nat_lt, sym, ap, subst, arith, inl, inr, ◌≢◌, ◌==◌, get_or-set_other, get_or-set_same, Some, Result, Ok, Err}
use Rattle.std.specs.Prelude.{IfOk}
use Rattle.std.specs.List.{All, slice_get, slice_set}
use Rattle.std.specs.List.Sorted.{IsPermutation, IsSorted}
use Rattle.std.specs.Cmp.{IsTotalOrder, tied_itself}
use Rattle.std.specs.Cmp.Rules.{comparing}
use Rattle.std.specs.FinMap.{IsAntisymmetric, nat_cmp-IsAntisymmetric, slice_cmp-IsAntisymmetric}
use Rattle.std.specs.declared.cmp.Ordering.{Ordering}
use Rattle.std.specs.declared.cmp.Ordering.TheVariants.{Less, Equal, Greater}
use Rattle.std.specs.Ordering.{is_eq, is_lt, nat_cmp, on, ordering_then, then_cmp}
use Rattle.std.proofs.Math.Seq.{map-set_same}
use Rattle.std.proofs.lemmas.Bool.{and_parts, cases_Bool, eqb-true, ltb-false, ltb-true}
use Rattle.std.proofs.lemmas.Cmp.{nat_cmp_total, on_total, then_total}
use Rattle.std.proofs.lemmas.List.{get_or-map, get_or-take, get_or_default, length-map, length-take-le}
use Rattle.std.proofs.lemmas.List.Elements.{All-drop, All-map, All-set}
use Rattle.std.proofs.lemmas.List.Sorted.{All-permutation}
use Rattle.std.proofs.lemmas.Option.{get_or_from_slice_get}
use Rattle.gtfs_field.proofs.NumberFacts.{number_itself as itself}
use Rattle.gtfs_field.proofs.OrderingFacts.{tied as both_equal}
use Rattle.gtfs_rows.proofs.SameElements.{pairs-map}
use Rattle.gtfs_rows.specs.TransferOrder.{Ascends}
use Rattle.gtfs_rows.specs.declared.numbers.TripNo.{TripNo}
use Rattle.gtfs_rows.specs.declared.parts.Parts.{Parts}
use Rattle.gtfs_runs.specs.EventOrder.{event_cmp}
use Rattle.gtfs_runs.specs.declared.stop_lanes.listed.ListedEvent.{ListedEvent}
use Rattle.gtfs_runs.specs.steps.Courses.{AreServed, course_no_cmp, event_of, stopping_cmp, stopping_of}
use Rattle.gtfs_runs.specs.steps.TripGroups.{Group, GroupedTripValue, below, group_cmp, group_of, grouped_cmp, sharing, trip_group}
use Rattle.gtfs_runs.specs.steps.CourseNumbers.{AreNumbered, IsNumbered, is_alike, listed_cmp}
use Rattle.gtfs_runs.specs.Tallies.{tally}
use Rattle.gtfs_runs.proofs.Chunks.{all_mapped}
use Rattle.gtfs_runs.proofs.Counting.{tally-map}
use Rattle.gtfs_runs.proofs.Ranks.{ranks_compare}
use Rattle.gtfs_runs.proofs.Tallies.{tally-permutation, tally-push, tally-weaker}

pub groups_total : IsTotalOrder group_cmp
groups_total = search (comparing, rules) depth 20

pub grouped_total : IsTotalOrder grouped_cmp
grouped_total = then_total (on_total group_of groups_total) (then_total (on_total (λ x. x.start) nat_cmp_total) (on_total (λ x. x.trip.0) nat_cmp_total))

pub groups_antisymmetric : IsAntisymmetric group_cmp
groups_antisymmetric a b h =
    let x = both_equal _ _ h in
    let services = nat_cmp-IsAntisymmetric a.0 b.0 x.0 in
    let stops = slice_cmp-IsAntisymmetric nat_cmp-IsAntisymmetric a.1 b.1 x.1 in
    λ i. (services i, stops i)

-- ---- pairs of a list

pub pairs_permuted : {X : Type 0} (R : X → X → Type 0) (xs ys : List X) → IsPermutation xs ys → All (λ x. All (R x) xs) xs → All (λ x. All (R x) ys) ys
pairs_permuted R xs ys same all = All-permutation (λ x. All (R x) ys) xs ys same (λ k d h. All-permutation (R (get_or xs k d)) xs ys same (all k d h))

pub numbers_left : (p : Parts) (n : ℕ) (xs : List ListedEvent) → AreNumbered p xs → AreNumbered p (drop n xs)
numbers_left p n xs all = All-drop (λ x. All (IsNumbered p x) (drop n xs)) n xs (λ k d h. All-drop (IsNumbered p (get_or xs k d)) n xs (all k d h))

-- ---- who shares groups

-- the trip of a further event is among these, or it is that of the event before
pub trips_more : (xs : List ListedEvent) (trips new : List TripNo) (n : ℕ) (t : TripNo) → ((d : ListedEvent) → (get_or xs n d).trip ≡ t.0)
    → new ≡ trips ++ t ∷ [] → ((k : ℕ) (d : ListedEvent) → k < n → 1 ≤ tally (λ u. (get_or xs k d).trip == u.0) trips)
    → (k : ℕ) (d : ListedEvent) → k < n + 1 → 1 ≤ tally (λ u. (get_or xs k d).trip == u.0) new
trips_more xs trips new n t is pushed so_far k d upto = subst (λ l. 1 ≤ tally (λ u. (get_or xs k d).trip == u.0) l) (sym pushed) (elim (cases_Bool (nat_lt k n)) [
  | inl low ↦
      let before = so_far k d (ltb-true k n low) in
      let more = tally-push (λ u. (get_or xs k d).trip == u.0) trips t in
      omega (arith, before, more)
  | inr high ↦
      let last : k ≡ n = omega (arith, ltb-false k n high, upto) in
      let more = tally-push (λ u. (get_or xs k d).trip == u.0) trips t in
      let own : ((get_or xs k d).trip == t.0) ≡ true = ap (λ m. m == t.0) (ap (λ j. (get_or xs j d).trip) last ∙ is d) ∙ itself t.0 in
      let one : ◌≡◌ {A = ℕ} (cond ((get_or xs k d).trip == t.0) 1 0) 1 = ap (λ b. cond b 1 0) own in
      omega (arith, more, one)
])

pub trips_kept : (xs : List ListedEvent) (trips new : List TripNo) (n : ℕ) → 0 < n → ((d : ListedEvent) → (get_or xs (n - 1) d).trip ≡ (get_or xs n d).trip) → new ≡ trips
    → ((k : ℕ) (d : ListedEvent) → k < n → 1 ≤ tally (λ u. (get_or xs k d).trip == u.0) trips) → (k : ℕ) (d : ListedEvent) → k < n + 1 → 1 ≤ tally (λ u. (get_or xs k d).trip == u.0) new
trips_kept xs trips new n some before kept so_far k d upto = subst (λ l. 1 ≤ tally (λ u. (get_or xs k d).trip == u.0) l) (sym kept) (elim (cases_Bool (nat_lt k n)) [
  | inl low ↦ so_far k d (ltb-true k n low)
  | inr high ↦
      let last : k ≡ n = omega (arith, ltb-false k n high, upto) in
      subst (λ t. 1 ≤ tally (λ u. t == u.0) trips) (before d ∙ ap (λ m. (get_or xs m d).trip) (sym last)) (so_far (n - 1) d (omega (arith, some)))
])

-- the stops of one of these trips
pub named : (p : Parts) (trips : List TripNo) (lists : List (List ℕ)) (n : ℕ) (t : TripNo) (stops : List ℕ) → lists ≡ map (λ u. (trip_group p u.0).1) trips → slice_get lists n ≡ Some stops
    → t ≡ get_or trips n t → n < length trips → stops ≡ (trip_group p t.0).1
named p trips lists n t stops are at is within =
    sym (get_or_from_slice_get lists n stops [] at) ∙ ap (λ l. get_or l n []) are ∙ get_or-map (λ u. (trip_group p u.0).1) trips n t [] within ∙ ap (λ u. (trip_group p u.0).1) (sym is)

-- the group of a trip that is among these is among theirs
pub shared : (p : Parts) (trips : List TripNo) (grouped : List GroupedTripValue) (t : ℕ) → map group_of grouped ≡ map (λ u. trip_group p u.0) trips
    → 1 ≤ tally (λ u. t == u.0) trips → 1 ≤ sharing grouped (trip_group p t)
shared p trips grouped t same some =
    let g = trip_group p t in
    let counted : sharing grouped g ≡ tally (λ u. is_eq (group_cmp (trip_group p u.0) g)) trips =
    sym (tally-map (λ h. is_eq (group_cmp h g)) group_of grouped) ∙ ap (tally (λ h. is_eq (group_cmp h g))) same ∙ tally-map (λ h. is_eq (group_cmp h g)) (λ u. trip_group p u.0) trips in
    let most = tally-weaker (λ u. t == u.0) (λ u. is_eq (group_cmp (trip_group p u.0) g)) trips
    (λ u is. ap (λ m. is_eq (group_cmp (trip_group p m) g)) (sym (eqb-true t u.0 is)) ∙ ap is_eq (tied_itself groups_total g)) in
    omega (arith, counted, most, some)

-- ---- numbers against groups

-- a further event has its number
pub number_more : (p : Parts) (trips : List GroupedTripValue) (xs : List ListedEvent) (n : ℕ) (y : ListedEvent) → n < length xs → y.group ≡ below trips (trip_group p y.trip)
    → ((k : ℕ) (d : ListedEvent) → k < n → (get_or xs k d).group ≡ below trips (trip_group p (get_or xs k d).trip))
    → (k : ℕ) (d : ListedEvent) → k < n + 1 → (get_or (slice_set xs n y) k d).group ≡ below trips (trip_group p (get_or (slice_set xs n y) k d).trip)
number_more p trips xs n y within number so_far k d upto = elim (cases_Bool (nat_lt k n)) [
  | inl low ↦
      let before : k < n = ltb-true k n low in
      let other : k ≢ n = omega (arith, before) in
      subst (λ z. z.group ≡ below trips (trip_group p z.trip)) (sym (get_or-set_other xs n k y d other)) (so_far k d before)
  | inr high ↦
      let last : k ≡ n = omega (arith, ltb-false k n high, upto) in
      let here : get_or (slice_set xs n y) k d ≡ y = ap (λ m. get_or (slice_set xs n y) m d) last ∙ get_or-set_same xs n y d within in
      subst (λ z. z.group ≡ below trips (trip_group p z.trip)) (sym here) number
]

pub kept_by : {X Y : Type 0} (f : X → Y) (xs : List X) (n : ℕ) (x y : X) → x ≡ get_or xs n x → f y ≡ f x → map f (slice_set xs n y) ≡ map f xs
kept_by f xs n x y is same = map-set_same f xs n y x (same ∙ ap f is)

pub are_numbered : (p : Parts) (trips sorted : List GroupedTripValue) (xs : List ListedEvent) → IsPermutation trips sorted → All (λ x. 1 ≤ sharing trips (trip_group p x.trip)) xs
    → All (λ x. x.group ≡ below sorted (trip_group p x.trip)) xs → AreNumbered p xs
are_numbered p trips sorted xs same shared numbers i d within j e inside =
    let g = trip_group p (get_or xs i d).trip in
    let h = trip_group p (get_or xs j e).trip in
    let kept : (l : Group) → sharing sorted l ≡ sharing trips l = λ l. tally-permutation (λ z. is_eq (group_cmp (group_of z) l)) trips sorted same in
    (λ k. nat_cmp (numbers i d within k) (numbers j e inside k))
    ∙ ranks_compare group_cmp groups_total group_of sorted g h groups_antisymmetric
    (subst (λ n. 1 ≤ n) (sym (kept g)) (shared i d within)) (subst (λ n. 1 ≤ n) (sym (kept h)) (shared j e inside))

-- ---- the order of events

then_assoc : (r s t : Ordering) → ordering_then (ordering_then r s) t ≡ ordering_then r (ordering_then s t)
then_assoc Less s t = λ i. Less
then_assoc Equal s t = λ i. ordering_then s t
then_assoc Greater s t = λ i. Greater

-- what is equal already decides nothing more
decided : (r a b c s : Ordering) → ordering_then r (ordering_then a (ordering_then b (ordering_then c s)))
    ≡ ordering_then r (ordering_then a (ordering_then b (ordering_then c (ordering_then s r))))
decided Less a b c s = λ i. Less
decided Equal a b c s = ap (λ o. ordering_then a (ordering_then b (ordering_then c o))) (last s)
  where
    last : (o : Ordering) → o ≡ ordering_then o Equal
    last Less = λ i. Less
    last Equal = λ i. Equal
    last Greater = λ i. Greater
decided Greater a b c s = λ i. Greater

pub same_order : (p : Parts) (x y : ListedEvent) → IsNumbered p x y → listed_cmp x y ≡ stopping_cmp (stopping_of p x) (stopping_of p y)
same_order p x y is =
    let g = trip_group p x.trip in
    let h = trip_group p y.trip in
    let r = nat_cmp x.row y.row in
    let stops = course_no_cmp (stopping_of p x).course (stopping_of p y).course in
    let rest = ordering_then (nat_cmp x.at y.at) (ordering_then (nat_cmp x.trip y.trip) (ordering_then (nat_cmp x.run y.run) (nat_cmp x.seq y.seq))) in
    let whole = ordering_then (nat_cmp x.at y.at) (ordering_then (nat_cmp x.trip y.trip) (ordering_then (nat_cmp x.run y.run) (ordering_then (nat_cmp x.seq y.seq) r))) in
    ap (λ o. ordering_then o (ordering_then r rest)) is
    ∙ ap (ordering_then (group_cmp g h)) (decided r (nat_cmp x.at y.at) (nat_cmp x.trip y.trip) (nat_cmp x.run y.run) (nat_cmp x.seq y.seq))
    ∙ sym (then_assoc (group_cmp g h) r whole)
    ∙ ap (λ o. ordering_then o whole) (same_course_order p x y)
  where
    same_course_order : (q : Parts) (a b : ListedEvent) → ordering_then (group_cmp (trip_group q a.trip) (trip_group q b.trip)) (nat_cmp a.row b.row)
        ≡ course_no_cmp (stopping_of q a).course (stopping_of q b).course
    same_course_order q a b = then_assoc (nat_cmp (trip_group q a.trip).0 (trip_group q b.trip).0) _ (nat_cmp a.row b.row)

-- what is not less by two things is not less by the first
pub first_not_less : (r s : Ordering) → is_lt (ordering_then r s) ≡ false → is_lt r ≡ false
first_not_less Less s is = is
first_not_less Equal s is = λ i. false
first_not_less Greater s is = λ i. false

-- trips in their order stand by group
pub by_groups : (xs : List GroupedTripValue) → IsSorted grouped_cmp xs → IsSorted (λ x y. group_cmp (group_of x) (group_of y)) xs
by_groups xs up k d from within = first_not_less _ _ (up k d from within)

-- that of the fields, of which the service and the rank are the last
abbrev pub field_cmp : ListedEvent → ListedEvent → Ordering
field_cmp = then_cmp (on (λ x. x.group) nat_cmp)
    (then_cmp (on (λ x. x.row) nat_cmp)
    (then_cmp (on (λ x. x.at) nat_cmp)
    (then_cmp (on (λ x. x.trip) nat_cmp)
    (then_cmp (on (λ x. x.run) nat_cmp)
    (then_cmp (on (λ x. x.seq) nat_cmp)
    (then_cmp (on (λ x. x.service) nat_cmp)
    (on (λ x. x.rank) nat_cmp)))))))

-- what is not less by the fields is not less without the service and the rank
without_service : (x y : ListedEvent) → is_lt (field_cmp x y) ≡ false → is_lt (listed_cmp x y) ≡ false
without_service x y h = first_not_less (listed_cmp x y) last (ap is_lt (sym apart) ∙ h)
  where
    last : Ordering
    last = ordering_then (nat_cmp x.service y.service) (nat_cmp x.rank y.rank)

    further : (r s t u : Ordering) → s ≡ ordering_then t u → ordering_then r s ≡ ordering_then (ordering_then r t) u
    further r s t u is = ap (ordering_then r) is ∙ sym (then_assoc r t u)

    apart : field_cmp x y ≡ ordering_then (listed_cmp x y) last
    apart =
        further (nat_cmp x.group y.group) _ _ _ (further (nat_cmp x.row y.row) _ _ _ (further (nat_cmp x.at y.at) _ _ _ (further (nat_cmp x.trip y.trip) _ _ _
        (sym (then_assoc (nat_cmp x.run y.run) (nat_cmp x.seq y.seq) last)))))

pub in_order : (p : Parts) (xs : List ListedEvent) → AreNumbered p xs → IsSorted field_cmp xs → IsSorted (λ x y. stopping_cmp (stopping_of p x) (stopping_of p y)) xs
in_order p xs numbers up k d from within =
    let x = get_or xs (k + 1) d in
    let y = get_or xs k d in
    ap is_lt (sym (same_order p x y (numbers (k + 1) d within k d (omega (arith, within))))) ∙ without_service x y (up k d from within)

-- ---- ascending events

pub courses_ascend : (p : Parts) (xs : List ListedEvent) → AreNumbered p xs → Ascends listed_cmp xs → Ascends stopping_cmp (map (stopping_of p) xs)
courses_ascend p xs numbers up =
    pairs-map (stopping_of p) (λ a b. stopping_cmp a b ≡ Less) xs (λ i j d before within.
    sym (same_order p (get_or xs i d) (get_or xs j d) (numbers i d (omega (arith, before, within)) j d within)) ∙ up i j d before within)

pub events_ascend : (p : Parts) (xs : List ListedEvent) → AreNumbered p xs → Ascends stopping_cmp (map (stopping_of p) xs) → Ascends listed_cmp xs
events_ascend p xs numbers up i j d before within =
    let inside : j < length (map (stopping_of p) xs) = let size = length-map xs (stopping_of p) in omega (arith, size, within) in
    let here : i < length xs = omega (arith, before, within) in
    same_order p (get_or xs i d) (get_or xs j d) (numbers i d here j d within)
    ∙ (λ k. stopping_cmp (sym (get_or-map (stopping_of p) xs i d (stopping_of p d) here) k) (sym (get_or-map (stopping_of p) xs j d (stopping_of p d) within) k))
    ∙ up i j (stopping_of p d) before inside

-- of one group and position the event decides
alike_less : (x y : ListedEvent) → nat_cmp x.group y.group ≡ Equal → nat_cmp x.row y.row ≡ Equal → listed_cmp x y ≡ Less → event_cmp (event_of x) (event_of y) ≡ Less
alike_less x y group row less =
    let whole = event_cmp (event_of x) (event_of y) in
    (λ k. ordering_then (sym group k) (ordering_then (sym row k) whole))
    ∙ sym (ap (ordering_then (nat_cmp x.group y.group)) (decided (nat_cmp x.row y.row) (nat_cmp x.at y.at) (nat_cmp x.trip y.trip) (nat_cmp x.run y.run) (nat_cmp x.seq y.seq))) ∙ less

pub alike_ascend : (xs : List ListedEvent) (n : ℕ) → n ≤ length xs → ((k : ℕ) (d : ListedEvent) → k < n → is_alike (get_or xs 0 d) (get_or xs k d) ≡ true) → Ascends listed_cmp xs
    → Ascends event_cmp (map event_of (take n xs))
alike_ascend xs n upto alike up =
    pairs-map event_of (λ a b. event_cmp a b ≡ Less) (take n xs) (λ i j d before within.
    let size = length-take-le n xs upto in
    let last : j < n = omega (arith, size, within) in
    let first : i < n = omega (arith, before, last) in
    let x = get_or xs i d in
    let y = get_or xs j d in
    let head = get_or xs 0 d in
    let one = and_parts (head.group == x.group) (head.row == x.row) (alike i d first) in
    let other = and_parts (head.group == y.group) (head.row == y.row) (alike j d last) in
    (λ k. event_cmp (event_of (get_or-take n xs i d first k)) (event_of (get_or-take n xs j d last k)))
    ∙ alike_less x y (one_number head.group x.group y.group one.0 other.0) (one_number head.row x.row y.row one.1 other.1) (up i j d before (omega (arith, last, upto))))
  where
    one_number : (a m n : ℕ) → (a == m) ≡ true → (a == n) ≡ true → nat_cmp m n ≡ Equal
    one_number a m n first second = (λ k. nat_cmp (sym (eqb-true a m first) k) (sym (eqb-true a n second) k)) ∙ tied_itself nat_cmp_total a

-- one event more of the group and position of the first
pub alike_more : (xs : List ListedEvent) (n : ℕ) (a b : ListedEvent) → n < length xs → a ≡ get_or xs 0 a → b ≡ get_or xs n b → is_alike a b ≡ true
    → ((k : ℕ) (d : ListedEvent) → k < n → is_alike (get_or xs 0 d) (get_or xs k d) ≡ true) → (k : ℕ) (d : ListedEvent) → k < n + 1 → is_alike (get_or xs 0 d) (get_or xs k d) ≡ true
alike_more xs n a b inside first last same so_far k d below = elim (cases_Bool (nat_lt k n)) [
  | inl is ↦ so_far k d (ltb-true k n is)
  | inr isnt ↦
      let here : k ≡ n = omega (arith, ltb-false k n isnt, below) in
      let filled : 0 < length xs = omega (arith, inside) in
      (λ i. is_alike (sym (first ∙ get_or_default xs 0 a d filled) i) ((ap (λ m. get_or xs m d) here ∙ sym (last ∙ get_or_default xs n b d inside)) i)) ∙ same
]

-- ---- services

-- an event that gets its number keeps its service
pub served_kept : (p : Parts) (xs : List ListedEvent) (n : ℕ) (x y : ListedEvent) → n < length xs → x ≡ get_or xs n x → y.trip ≡ x.trip → y.service ≡ x.service → AreServed p xs
    → AreServed p (slice_set xs n y)
served_kept p xs n x y within is trip service served =
    let own : (trip_group p x.trip).0 ≡ x.service = subst (λ z. (trip_group p z.trip).0 ≡ z.service) (sym is) (served n x within) in
    All-set (λ z. (trip_group p z.trip).0 ≡ z.service) xs n y (ap (λ t. (trip_group p t).0) trip ∙ own ∙ sym service) served

pub served_left : (p : Parts) (n : ℕ) (xs : List ListedEvent) → AreServed p xs → AreServed p (drop n xs)
served_left p n xs served = All-drop (λ x. (trip_group p x.trip).0 ≡ x.service) n xs served

-- ---- the steps of the code

pub both_made : {A E : Type 0} (r : Result A E) (P Q R : A → Type 0) → ((x : A) → P x → Q x → R x) → IfOk r P → IfOk r Q → IfOk r R
both_made (Ok x) P Q R take first second = take x first second
both_made (Err e) P Q R take first second = tt

-- events of the same trips share with as many
pub shared_by : (p : Parts) (trips : List GroupedTripValue) (xs ys : List ListedEvent) → ((q : Parts) → map (stopping_of q) xs ≡ map (stopping_of q) ys)
    → All (λ x. 1 ≤ sharing trips (trip_group p x.trip)) xs → All (λ x. 1 ≤ sharing trips (trip_group p x.trip)) ys
shared_by p trips xs ys same all =
    all_mapped (λ z. 1 ≤ sharing trips (trip_group p z.event.trip.0)) (stopping_of p) ys
    (subst (All (λ z. 1 ≤ sharing trips (trip_group p z.event.trip.0))) (same p) (All-map (λ z. 1 ≤ sharing trips (trip_group p z.event.trip.0)) (stopping_of p) xs all))
