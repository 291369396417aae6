-- The patterns of a route: which trips they have, and in which order they stand.
use Rattle.std.proofs.Common.{rules, ◌≡◌, ◌≤◌, ◌<◌, ◌+◌, ◌++◌, ◌∙◌, ◌==◌, ℕ, zero, suc, Bool, true, false, not, List, [], ◌∷◌, length, map, Option, Some, None, refl, sym, ap, subst, arith, inl, inr}
use Rattle.std.specs.Prelude.{option_and_then, option_map, unwrap_or}
use Rattle.std.specs.List.{All, AllPairs, Contains, filter, flat_map, list_all, range_with_len, slice_get}
use Rattle.std.specs.List.Sorted.{IsPermutation}
use Rattle.std.specs.Option.{option_cmp, option_eq}
use Rattle.std.specs.Cmp.{IsTotalOrder}
use Rattle.std.specs.Cmp.Lexicographic.{pointwise, slice_cmp}
use Rattle.std.specs.Cmp.Rules.{comparing}
use Rattle.std.specs.FinMap.{nat_cmp-IsAntisymmetric, slice_cmp-IsAntisymmetric}
use Rattle.std.specs.declared.cmp.Ordering.{Ordering}
use Rattle.std.specs.declared.cmp.Ordering.TheVariants.{Less, Equal, Greater}
use Rattle.std.specs.Ordering.{is_lt, nat_cmp, on, ordering_then, then_cmp}
use Rattle.std.proofs.lemmas.Bool.{and_from as and_join, and_parts, cases_Bool, eq-eqb, eqb-false, eqb-true, not-true, true≢false}
use Rattle.std.proofs.lemmas.Bool.Decides.{nat_tests}
use Rattle.std.proofs.lemmas.List.{length-map}
use Rattle.std.proofs.lemmas.List.Elements.{All-head, All-map, All-tail}
use Rattle.std.proofs.lemmas.List.Sorted.{Contains-permutation, IsPermutation-sym, ranks_by, sorted_far}
use Rattle.std.proofs.lemmas.Option.{get_or_from_slice_get, slice_get-get_or, slice_get_within}
use Rattle.std.proofs.lemmas.Simd.{map-map}
use Rattle.gtfs_field.proofs.OrderingFacts.{tied}
use Rattle.gtfs_schema.specs.FieldValues.{if_there}
use Rattle.gtfs_table.proofs.PartFacts.{length-parts}
use Rattle.gtfs_field.specs.TextOrder.{text_cmp}
use Rattle.gtfs_rows.proofs.SameElements.{pairs-head, pairs-map, pairs-tail}
use Rattle.gtfs_rows.specs.RowChoices.{direction_code}
use Rattle.gtfs_rows.specs.TransferOrder.{Ascends}
use Rattle.gtfs_rows.specs.Rows.{Trip}
use Rattle.gtfs_rows.specs.RowsInMemory.{IsSoundParts, content_of_parts, stop_ids, stop_row_of, text_of_number}
use Rattle.gtfs_stop_times.specs.declared.numbers.StopNo.{StopNo}
use Rattle.gtfs_rows.specs.declared.numbers.TripNo.{TripNo}
use Rattle.gtfs_rows.specs.declared.parts.Parts.{Parts}
use Rattle.gtfs_rows.proofs.SoundOrder.{in_order}
use Rattle.gtfs_rows.proofs.TripFacts.{stop_times}
use Rattle.gtfs_rows.specs.Trips.{stop_rows_by_trip}
use Rattle.gtfs_runs.specs.Tallies.{tally}
use Rattle.gtfs_runs.specs.Lanes.{stops_of}
use Rattle.gtfs_runs.specs.Patterns.{ArePatterns, Entry, Heading, headings_change, entries_of, entries_under, entry_cmp, entry_of, heading_of, has_a_trip, is_of_route, is_same_heading, rows_of_number, stops_cmp}
use Rattle.gtfs_runs.specs.declared.pattern.Pattern.{Pattern}
use Rattle.gtfs_runs.proofs.Counting.{tally-map as tally-mapped}
use Rattle.gtfs_runs.proofs.Tallies.{tally-append as tally-joined, tally-permutation as tally-permuted}
use Rattle.gtfs_runs.proofs.CourseOrder.{pairs-right}
use Rattle.gtfs_board.specs.TimetableColumns.{HasRow, IsPattern, stops_along}
use Rattle.gtfs_board.specs.Timetable.{direction_rank, heading_cmp, is_heading_before}
use Rattle.gtfs_board.specs.Timetable as timetable
use Rattle.gtfs_board.specs.upcoming.QueueOrder.{In, AscendsBy, IsStrict}
use Rattle.gtfs_runs.proofs.TripIds.{numbers}
use Rattle.gtfs_board.proofs.Candidates.{strict_from_total}
use Rattle.gtfs_board.proofs.EventFacts.{at_in, in_at}
use Rattle.gtfs_board.proofs.Orders.{in-right}
use Rattle.gtfs_board.proofs.LaneDays.{flat_map-in, in-flat_map, in-map, in-range, map-in}
use Rattle.gtfs_board.proofs.Rests.{filter-in, in-filter}
use Rattle.gtfs_board.proofs.SheetColumns.{all-in, trip-of}
use Rattle.gtfs_board.proofs.SheetLists.{ascending-mapped, below}
use Rattle.gtfs_board.proofs.Window.{each_weaker}
use Rattle.gtfs_board.proofs.Timely.{all-each as all-from}

-- ---- members

contains-in : {X : Type 0} (xs : List X) (x : X) → Contains xs x → In x xs
contains-in xs x at = at_in xs at.0 x (slice_get-get_or xs at.0 x at.1 ∙ ap Some at.2)

in-contains : {X : Type 0} (xs : List X) (x : X) → In x xs → Contains xs x
in-contains xs x there = let at = in_at xs x there in (at.0, slice_get_within xs at.0 x at.1, get_or_from_slice_get xs at.0 x x at.1)

permuted : {X : Type 0} (xs ys : List X) → IsPermutation xs ys → (x : X) → In x xs → In x ys
permuted xs ys same x there = contains-in ys x (Contains-permutation xs ys x same (in-contains xs x there))

range-in : (a n i : ℕ) → In i (range_with_len a n) → i < a + n
range-in a zero i there = absurd there
range-in a (suc n) i there = elim there [ inl e ↦ omega (arith, e) | inr later ↦ omega (arith, range-in (a + 1) n i later) ]

-- ---- headings by number

abbrev number_cmp : Heading → Heading → Ordering
number_cmp = then_cmp (on (λ h. h.direction) (option_cmp nat_cmp)) (on (λ h. h.stops) stops_cmp)

abbrev pub is_pattern_before : Pattern → Pattern → Bool
is_pattern_before x y = is_lt (number_cmp (heading_of x) (heading_of y))

numbers_total : IsTotalOrder number_cmp
numbers_total = search (comparing, rules) depth 20

entries_total : IsTotalOrder entry_cmp
entries_total = search (comparing, rules) depth 20

option_exact : (a b : Option ℕ) → option_cmp nat_cmp a b ≡ Equal → a ≡ b
option_exact None None h = refl
option_exact None (Some b) h = absurd (cc)
option_exact (Some a) None h = absurd (cc)
option_exact (Some a) (Some b) h = ap Some (nat_cmp-IsAntisymmetric a b h)

stop_exact : (a b : StopNo) → nat_cmp a.0 b.0 ≡ Equal → a ≡ b
stop_exact a b h = let same = nat_cmp-IsAntisymmetric a.0 b.0 h in λ i. record { 0 = same i }

number_exact : (a b : Heading) → number_cmp a b ≡ Equal → a ≡ b
number_exact a b h =
    let both = tied _ _ h in
    let directions = option_exact a.direction b.direction both.0 in
    let stops = slice_cmp-IsAntisymmetric stop_exact a.stops b.stops both.1 in
    λ i. record { direction = directions i; stops = stops i }

heading_itself : (h : Heading) → is_same_heading h h ≡ true
heading_itself h = and_join (option_eq (λ a b. a == b) h.direction h.direction) (pointwise (λ s t. s.0 == t.0) h.stops h.stops) (direction h.direction) (stops h.stops)
  where
    direction : (o : Option ℕ) → option_eq (λ a b. a == b) o o ≡ true
    direction None = refl
    direction (Some n) = eq-eqb n n refl

    stops : (xs : List StopNo) → pointwise (λ s t. s.0 == t.0) xs xs ≡ true
    stops [] = refl
    stops (x ∷ xs) = and_join (x.0 == x.0) (pointwise (λ s t. s.0 == t.0) xs xs) (eq-eqb x.0 x.0 refl) (stops xs)

-- an entry that does not lie below another has a heading that does not
lt_front : (a b c : Ordering) → is_lt (ordering_then a (ordering_then b c)) ≡ false → is_lt (ordering_then a b) ≡ false
lt_front Less b c h = h
lt_front Equal Less c h = h
lt_front Equal Equal c h = refl
lt_front Equal Greater c h = refl
lt_front Greater b c h = refl

abbrev NotBelow : Entry → Entry → Type 0
NotBelow a b = is_lt (entry_cmp b a) ≡ false

pairs-cross : {X : Type 0} (R : X → X → Type 0) (xs ys : List X) → AllPairs R (xs ++ ys) → (x y : X) → In x xs → In y ys → R x y
pairs-cross R [] ys up x y in_x in_y = absurd in_x
pairs-cross R (z ∷ xs) ys up x y in_x in_y = elim in_x [
  | inl e ↦ subst (λ w. R w y) (sym e) (all-in (R z) (xs ++ ys) (pairs-head R z (xs ++ ys) up) y (in-right xs ys y in_y))
  | inr later ↦ pairs-cross R xs ys (pairs-tail R z (xs ++ ys) up) x y later in_y
]

some-trip : (x : Pattern) → has_a_trip x ≡ true → (k : TripNo) × In k x.trips
some-trip x filled = some x.trips (not-true (length x.trips == 0) filled)
  where
    some : (xs : List TripNo) → (length xs == 0) ≡ false → (k : TripNo) × In k xs
    some [] none = absurd (true≢false none)
    some (k ∷ xs) none = (k, inl refl)

entry-under : (x : Pattern) (k : TripNo) → In k x.trips → In (record { heading = heading_of x; trip = k }) (entries_under x)
entry-under x k there = in-map (λ t. record { heading = heading_of x; trip = t }) x.trips k there

rise : (xs : List Pattern) → AllPairs NotBelow (flat_map entries_under xs) → list_all has_a_trip xs ≡ true → headings_change (map heading_of xs) ≡ true → AscendsBy is_pattern_before xs
rise [] far filled apart = tt
rise (x ∷ []) far filled apart = (tt, tt)
rise (x ∷ y ∷ xs) far filled apart =
    let full = and_parts (has_a_trip x) (list_all has_a_trip (y ∷ xs)) filled in
    let next = and_parts (has_a_trip y) (list_all has_a_trip xs) full.1 in
    let differ = and_parts (not (is_same_heading (heading_of x) (heading_of y))) (headings_change (map heading_of (y ∷ xs))) apart in
    let rest = rise (y ∷ xs) (pairs-right NotBelow (entries_under x) (flat_map entries_under (y ∷ xs)) far) full.1 differ.1 in
    let a = some-trip x full.0 in
    let b = some-trip y next.0 in
    let e : Entry = record { heading = heading_of x; trip = a.0 } in
    let g : Entry = record { heading = heading_of y; trip = b.0 } in
    let later : In g (flat_map entries_under (y ∷ xs)) = in-flat_map entries_under (y ∷ xs) y g (inl refl) (entry-under y b.0 b.1) in
    let up = pairs-cross NotBelow (entries_under x) (flat_map entries_under (y ∷ xs)) far e g (entry-under x a.0 a.1) later in
    let back : is_lt (number_cmp (heading_of y) (heading_of x)) ≡ false =
    lt_front (option_cmp nat_cmp y.direction x.direction) (stops_cmp y.stops x.stops) (nat_cmp b.0.0 a.0.0) up in
    let first : is_pattern_before x y ≡ true =
    below numbers_total (λ _ _. true) (λ _ _ _. refl) (number_cmp (heading_of x) (heading_of y)) (number_cmp (heading_of y) (heading_of x)) (numbers_total.antisymm (heading_of y) (heading_of x)) back
    (λ tie. true≢false (sym (heading_itself (heading_of x)) ∙ ap (is_same_heading (heading_of x)) (number_exact (heading_of x) (heading_of y) tie)
    ∙ not-true (is_same_heading (heading_of x) (heading_of y)) differ.0)) in
    ((first, each_weaker (λ z. is_pattern_before y z ≡ true) (λ z. is_pattern_before x z ≡ true) (λ z h. patterns_strict.trans (heading_of x) (heading_of y) (heading_of z) first h) xs rest.0), rest)
  where
    patterns_strict : IsStrict (λ g h. is_lt (number_cmp g h))
    patterns_strict = strict_from_total number_cmp numbers_total number_exact

-- ---- headings by text

abbrev pub heading_along : Parts → Pattern → timetable.SheetHeading
heading_along p x = (direction_rank x.direction, stops_along p x)

directions : (a b : Option ℕ) → nat_cmp (direction_rank a) (direction_rank b) ≡ option_cmp nat_cmp a b
directions None None = refl
directions None (Some b) = grind (arith, nat_tests)
directions (Some a) None = grind (arith, nat_tests)
directions (Some a) (Some b) = grind (arith, nat_tests)

module _ (p : Parts) (sound : IsSoundParts p) where
  stops_ascend : Ascends text_cmp (stop_ids p)
  stops_ascend = pairs-map (λ s. s.stop_id) (λ a b. text_cmp a b ≡ Less) p.stops (in_order p sound).stops

  stops-compare : (xs ys : List StopNo) → All (λ s. s.0 < length p.stops) xs → All (λ s. s.0 < length p.stops) ys
      → slice_cmp text_cmp (map (λ s. text_of_number (stop_ids p) s.0) xs) (map (λ s. text_of_number (stop_ids p) s.0) ys) ≡ stops_cmp xs ys
  stops-compare [] [] a b = refl
  stops-compare [] (y ∷ ys) a b = refl
  stops-compare (x ∷ xs) [] a b = refl
  stops-compare (x ∷ xs) (y ∷ ys) a b =
      let P : StopNo → Type 0 = λ s. s.0 < length p.stops in
      let first = numbers (stop_ids p) x.0 y.0 stops_ascend (ids-within x.0 (All-head P x xs a)) (ids-within y.0 (All-head P y ys b)) in
      λ i. ordering_then (sym first i) (stops-compare xs ys (All-tail P x xs a) (All-tail P y ys b) i)
    where
      ids-within : (n : ℕ) → n < length p.stops → n < length (stop_ids p)
      ids-within n within = omega (arith, within, length-map p.stops (λ s. s.stop_id))

  pub headings-compare : (x y : Pattern) → IsPattern p x → IsPattern p y → heading_cmp (heading_along p x) (heading_along p y) ≡ number_cmp (heading_of x) (heading_of y)
  headings-compare x y a b = λ i. ordering_then (directions x.direction y.direction i) (stops-compare x.stops y.stops a.stops b.stops i)

  -- a trip of a pattern has the pattern's heading
  pub heading-is : (x : Pattern) (m : ℕ) (t : Trip) → slice_get (content_of_parts p).trips m ≡ Some t → heading_of x ≡ (entry_of p m).heading → heading_along p x ≡ timetable.sheet_heading t
  heading-is x m t at same =
      let r = trip-of p m t at in
      let direction : x.direction ≡ t.direction_id =
      ap (λ h. h.direction) same ∙ ap (option_and_then (λ u. option_map direction_code u.direction_id)) r.at_trip ∙ ap (λ (u : Trip). u.direction_id) r.is in
      let stops : stops_along p x ≡ stops_of t =
      ap (λ h. map (λ s. text_of_number (stop_ids p) s.0) h.stops) same
      ∙ ap (λ o. map (λ s. text_of_number (stop_ids p) s.0) (map (λ row. row.stop_id) (unwrap_or o []))) r.at_rows
      ∙ map-map (λ s. text_of_number (stop_ids p) s.0) (λ row. row.stop_id) r.rows
      ∙ sym (map-map (λ row. row.stop_id) (stop_row_of p) r.rows) ∙ ap (λ (u : Trip). stops_of u) r.is in
      λ i. (direction_rank (direction i), stops i)

-- ---- what the patterns of a route are

tally-part : {X Y : Type 0} (q : Y → Bool) (f : X → List Y) (xs : List X) (x : X) → In x xs → tally q (f x) ≤ tally q (flat_map f xs)
tally-part q f [] x there = absurd there
tally-part q f (y ∷ ys) x there = elim there [
  | inl e ↦ let same = ap (λ z. tally q (f z)) e in omega (arith, same, tally-joined q (f y) (flat_map f ys))
  | inr later ↦ omega (arith, tally-part q f ys x later, tally-joined q (f y) (flat_map f ys))
]

kept-fewer : {X : Type 0} (q r : X → Bool) (xs : List X) → tally q (filter r xs) ≤ tally q xs
kept-fewer q r [] = omega arith
kept-fewer q r (x ∷ xs) = elim (cases_Bool (r x)) [
  | inl is ↦ rw is (omega (arith, kept-fewer q r xs))
  | inr isnt ↦ rw isnt (omega (arith, kept-fewer q r xs))
]

range-later : (m a n : ℕ) → m < a → tally (λ k. m == k) (range_with_len a n) ≡ 0
range-later m a zero before = refl
range-later m a (suc n) before =
    let other : (m == a) ≡ false = grind (arith, nat_tests) in
    rw other (omega (arith, range-later m (a + 1) n (omega arith)))

range-once : (m a n : ℕ) → tally (λ k. m == k) (range_with_len a n) ≤ 1
range-once m a zero = omega arith
range-once m a (suc n) = elim (cases_Bool (m == a)) [
  | inl same ↦ let e = eqb-true m a same in rw same (omega (arith, range-later m (a + 1) n (omega (arith, e))))
  | inr other ↦ rw other (omega (arith, range-once m (a + 1) n))
]

module _ (p : Parts) (sound : IsSoundParts p) (route : ℕ) (xs : List Pattern) (are : ArePatterns p route xs) where
  pub patterns-ascend : AscendsBy is_pattern_before xs
  patterns-ascend =
      rise xs (λ i j d before within. sorted_far (λ a b. is_lt (entry_cmp a b)) (ranks_by entries_total (λ e. e)) (flat_map entries_under xs) are.in_order i j d (omega arith) within)
      are.groups.filled are.groups.apart

  -- a trip of a pattern is one of the route, under the pattern's heading
  pub trip-of-pattern : (x : Pattern) (k : TripNo) → In x xs → In k x.trips
      → (k.0 < length p.trips) × ((is_of_route p route k.0 ≡ true) × (heading_of x ≡ (entry_of p k.0).heading))
  trip-of-pattern x k in_x in_k =
      let e : Entry = record { heading = heading_of x; trip = k } in
      let there = in-flat_map entries_under xs x e in_x (entry-under x k in_k) in
      let back = permuted (flat_map entries_under xs) (entries_of p route) (IsPermutation-sym (entries_of p route) (flat_map entries_under xs) are.each_once) e there in
      let m = map-in (entry_of p) (filter (is_of_route p route) (range_with_len 0 (length p.trips))) e back in
      let kept = filter-in (is_of_route p route) (range_with_len 0 (length p.trips)) m.0 m.1.0 in
      let number : m.0 ≡ k.0 = sym (ap (λ (g : Entry). g.trip.0) m.1.1) in (
        subst (λ n. n < length p.trips) number (omega (arith, range-in 0 (length p.trips) m.0 kept.0)),
        (
          ap (is_of_route p route) (sym number) ∙ kept.1,
          ap (λ (g : Entry). g.heading) m.1.1 ∙ ap (λ n. (entry_of p n).heading) number,
        ),
      )

  -- each trip of the route that has a stop row is in a pattern
  pub pattern-of-trip : (m : ℕ) → m < length p.trips → is_of_route p route m ≡ true
      → (x : Pattern) × (In x xs × (In (record { 0 = m }) x.trips × (heading_of x ≡ (entry_of p m).heading)))
  pattern-of-trip m within is =
      let listed = in-map (entry_of p) (filter (is_of_route p route) (range_with_len 0 (length p.trips))) m
      (in-filter (is_of_route p route) (range_with_len 0 (length p.trips)) m (in-range 0 (length p.trips) m (omega arith) (omega (arith, within))) is) in
      let there = permuted (entries_of p route) (flat_map entries_under xs) are.each_once (entry_of p m) listed in
      let x = flat_map-in entries_under xs (entry_of p m) there in
      let k = map-in (λ t. record { heading = heading_of x.0; trip = t }) x.0.trips (entry_of p m) x.1.1 in
      let number : k.0 ≡ record { 0 = m } = sym (ap (λ (g : Entry). g.trip) k.1.1) in
      (x.0, (x.1.0, (subst (λ n. In n x.0.trips) number k.1.0, sym (ap (λ (g : Entry). g.heading) k.1.1))))

  once : (x : Pattern) → In x xs → (m : ℕ) → tally (λ n. m == n.0) x.trips ≤ 1
  once x there m =
      let q : Entry → Bool = λ e. m == e.trip.0 in
      let own : tally q (entries_under x) ≡ tally (λ n. m == n.0) x.trips = tally-mapped q (λ t. record { heading = heading_of x; trip = t }) x.trips in
      let part = tally-part q entries_under xs x there in
      let all = tally-permuted q (entries_of p route) (flat_map entries_under xs) are.each_once in
      let each = tally-mapped q (entry_of p) (filter (is_of_route p route) (range_with_len 0 (length p.trips))) in
      let fewer = kept-fewer (λ n. m == n) (is_of_route p route) (range_with_len 0 (length p.trips)) in
      omega (arith, own, part, all, each, fewer, range-once m 0 (length p.trips))

  pub pattern-is : (x : Pattern) → In x xs → IsPattern p x
  pattern-is x there =
      let filled = all-filled xs are.groups.filled x there in
      let k = some-trip x filled in
      let t = trip-of-pattern x k.0 there k.1 in
      let rows : slice_get (stop_rows_by_trip p) k.0.0 ≡ Some (rows_of_number p k.0.0) = rows-there k.0.0 t.0 in
      record {
        stops = subst (All (λ s. s.0 < length p.stops)) (sym (ap (λ (h : Heading). h.stops) t.1.1))
            (All-map (λ s. s.0 < length p.stops) (λ row. row.stop_id) (rows_of_number p k.0.0) (stop_times p sound k.0.0 (rows_of_number p k.0.0) rows).stops);
        trips = all-from (HasRow p) x.trips (λ n member. let u = trip-of-pattern x n there member in (u.0, some-rows n.0 u.1.0));
        along = all-from (λ n. map (λ row. row.stop_id) (rows_of_number p n.0) ≡ x.stops) x.trips
            (λ n member. let u = trip-of-pattern x n there member in sym (ap (λ (h : Heading). h.stops) u.1.1));
        once = once x there;
      }
    where
      all-filled : (ys : List Pattern) → list_all has_a_trip ys ≡ true → (y : Pattern) → In y ys → has_a_trip y ≡ true
      all-filled [] all y there = absurd there
      all-filled (z ∷ zs) all y there =
          let both = and_parts (has_a_trip z) (list_all has_a_trip zs) all in
          elim there [ inl e ↦ ap has_a_trip e ∙ both.0 | inr later ↦ all-filled zs both.1 y later ]

      rows-there : (n : ℕ) → n < length p.trips → slice_get (stop_rows_by_trip p) n ≡ Some (rows_of_number p n)
      rows-there n within =
          let inside : n < length (stop_rows_by_trip p) = omega (arith, within, length-parts p.stop_times.starts p.stop_times.rows, sound.stop_rows.0) in
          let at = slice_get-get_or (stop_rows_by_trip p) n [] inside in
          at ∙ ap Some (sym (ap (λ o. unwrap_or o []) at))

      some-rows : (n : ℕ) → is_of_route p route n ≡ true → 0 < length (rows_of_number p n)
      some-rows n is =
          let both = and_parts (if_there (slice_get p.trips n) (λ t. t.route_id.0 == route)) (not (length (rows_of_number p n) == 0)) is in
          omega (arith, eqb-false (length (rows_of_number p n)) 0 (not-true (length (rows_of_number p n) == 0) both.1))

  pub patterns-are : All (IsPattern p) xs
  patterns-are = all-from (IsPattern p) xs pattern-is

  -- headings by their texts ascend too
  pub headings-ascend : (ys : List Pattern) → ((y : Pattern) → In y ys → In y xs) → AscendsBy is_pattern_before ys → AscendsBy is_heading_before (map (heading_along p) ys)
  headings-ascend ys inside up =
      ascending-mapped is_pattern_before is_heading_before (heading_along p) ys
      (λ x y a b before. ap is_lt (headings-compare p sound x y (pattern-is x (inside x a)) (pattern-is y (inside y b))) ∙ before) up
