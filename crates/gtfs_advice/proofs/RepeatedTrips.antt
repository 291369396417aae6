-- Among trips in the order of their courses, a trip repeats the one before it exactly where an earlier trip is like it.
use Rattle.std.proofs.Common.{◌≡◌, ◌∙◌, ◌<◌, ℕ, Bool, true, false, List, [], length, map, get_or, Some, refl, sym, ap, subst, arith}
use Rattle.std.specs.Prelude.{◌==◌, ◌&&◌, not, All, nat_eq, nat_lt}
use Rattle.std.specs.List.{list_any, slice_get}
use Rattle.std.specs.List.Sorted.{IsPermutation, IsSorted}
use Rattle.std.specs.Option.{option_eq}
use Rattle.std.specs.Ordering.{is_eq, is_lt}
use Rattle.std.specs.declared.cmp.Ordering.TheVariants.{Less}
use Rattle.std.proofs.lemmas.List.{get_or-map, length-map}
use Rattle.std.proofs.lemmas.List.FromFn.{get_or-range_with_len, length-range_with_len}
use Rattle.std.proofs.lemmas.List.Sorted.{All-permutation, length_permutation, list_any-IsPermutation}
use Rattle.std.proofs.lemmas.Option.{get_or_from_slice_get, same_Some, slice_get-get_or, slice_get_within}
use Rattle.gtfs_field.specs.TextOrder.{text_cmp}
use Rattle.gtfs_field.proofs.ListFacts.{any_alike, some_of}
use Rattle.gtfs_table.proofs.PartFacts.{length-parts}
use Rattle.gtfs_rows.specs.Rows.{Trip}
use Rattle.gtfs_rows.specs.Trips.{frequencies_by_trip, stop_rows_by_trip}
use Rattle.gtfs_rows.specs.RowsInMemory.{IsSoundParts, content_of_parts, stop_row_of, trip_ids}
use Rattle.gtfs_rows.specs.declared.parts.Parts.{Parts}
use Rattle.gtfs_rows.proofs.SameElements.{pairs-map}
use Rattle.gtfs_rows.proofs.SoundOrder.{in_order, trip_ids-kept}
use Rattle.gtfs_advice.specs.declared.trip_courses.Course.{Course}
use Rattle.gtfs_advice.specs.TripCourses.{AreCourses, AreRepeats, IsCourse, course_cmp, is_repeat, listed_cmp, neighbours, repeated, repeats_one}
use Rattle.gtfs_advice.specs.NumberMarks.{AreMarks}
use Rattle.gtfs_advice.specs.Trips.{is_like, is_same_as_another}
use Rattle.gtfs_advice.proofs.AlikeTrips.{alike}
use Rattle.gtfs_advice.proofs.NamedAsOthers.{any-paired, number-if}
use Rattle.gtfs_advice.proofs.Numbers.{lower_number}
use Rattle.gtfs_advice.proofs.Repeats as repeats
use Rattle.gtfs_advice.proofs.Repeats.{distinct_numbers, is_repeated_of, moved_to}
use Rattle.gtfs_advice.proofs.SameCourses.{courses_total}

swapped : (a b : Bool) → (a && b) ≡ (b && a)
swapped true true = refl
swapped true false = refl
swapped false true = refl
swapped false false = refl

-- ---- the trips of a content

module _ (p : Parts) (sound : IsSoundParts p) where
  ids-kept : map (λ t. t.trip_id) (content_of_parts p).trips ≡ trip_ids p
  ids-kept = trip_ids-kept p p.trips (stop_rows_by_trip p) (frequencies_by_trip p)
      (length-parts p.stop_times.starts p.stop_times.rows ∙ sound.stop_rows.0) (length-parts p.frequency_starts p.frequencies ∙ sound.frequencies.0)

  pub trips_counted : length (content_of_parts p).trips ≡ length p.trips
  trips_counted = sym (length-map (content_of_parts p).trips (λ t. t.trip_id)) ∙ ap length ids-kept ∙ length-map p.trips (λ t. t.trip_id)

  pub trip_id-at : (n : ℕ) (t : Trip) → slice_get (content_of_parts p).trips n ≡ Some t → get_or (trip_ids p) n [] ≡ t.trip_id
  trip_id-at n t there =
      let ts = (content_of_parts p).trips in
      ap (λ ids. get_or ids n []) (sym ids-kept) ∙ get_or-map (λ u. u.trip_id) ts n t [] (slice_get_within ts n t there) ∙ ap (λ (u : Trip). u.trip_id) (get_or_from_slice_get ts n t t there)

  -- earlier trips have lower numbers
  lower : (m n : ℕ) (u t : Trip) → slice_get (content_of_parts p).trips m ≡ Some u → slice_get (content_of_parts p).trips n ≡ Some t → nat_lt m n ≡ is_lt (text_cmp u.trip_id t.trip_id)
  lower m n u t at_m at_n =
      let ts = (content_of_parts p).trips in
      let up = pairs-map (λ r. r.trip_id) (λ s t. text_cmp s t ≡ Less) p.trips (in_order p sound).trips in
      let count = length-map p.trips (λ r. r.trip_id) in
      lower_number (trip_ids p) m n up (omega (arith, count, trips_counted, slice_get_within ts m u at_m)) (omega (arith, count, trips_counted, slice_get_within ts n t at_n))
      ∙ (λ i. is_lt (text_cmp (trip_id-at m u at_m i) (trip_id-at n t at_n i)))

  -- ---- all courses in order

  -- a lower number with the same course is an earlier trip that is like it
  earlier_like : (x y : Course) (a : IsCourse p x) (b : IsCourse p y)
      → is_repeated_of (course_cmp p.headsigns) (courses_total p.headsigns) (λ z. z.trip.0) x y ≡ (is_lt (text_cmp b.trip.trip_id a.trip.trip_id) && is_like a.trip b.trip)
  earlier_like x y a b = (λ i. sym (alike p y x b a) i && lower y.trip.0 x.trip.0 b.trip a.trip b.there a.there i) ∙ swapped (is_like a.trip b.trip) (is_lt (text_cmp b.trip.trip_id a.trip.trip_id))

  module _ (xs sorted : List Course) (are : AreCourses p xs) (same : IsPermutation xs sorted) (up : IsSorted (listed_cmp p.headsigns) sorted) where
    counted : length xs ≡ length p.trips
    counted = sym (length-map xs (λ x. x.trip.0)) ∙ ap length are.numbers ∙ length-range_with_len 0 (length p.trips)

    sorted_counted : length sorted ≡ length p.trips
    sorted_counted = length_permutation xs sorted same ∙ counted

    number-at : (k : ℕ) (x : Course) → slice_get xs k ≡ Some x → x.trip.0 ≡ k
    number-at k x at =
        let within = slice_get_within xs k x at in
        let here = get_or-range_with_len 0 (length p.trips) k 0 (omega (arith, counted, within)) in
        ap (λ (y : Course). y.trip.0) (sym (get_or_from_slice_get xs k x x at)) ∙ sym (get_or-map (λ y. y.trip.0) xs k x 0 within) ∙ ap (λ ns. get_or ns k 0) are.numbers ∙ here ∙ omega arith

    course-at : (k : ℕ) (x : Course) → slice_get xs k ≡ Some x → IsCourse p x
    course-at k x at = subst (IsCourse p) (get_or_from_slice_get xs k x x at) (are.each k x (slice_get_within xs k x at))

    its : (n : ℕ) (t : Trip) → slice_get (content_of_parts p).trips n ≡ Some t → (x : Course) → slice_get xs n ≡ Some x → (a : IsCourse p x) → a.trip ≡ t
    its n t there x at a = same_Some a.trip t (sym a.there ∙ ap (slice_get (content_of_parts p).trips) (number-at n x at) ∙ there)

    -- an earlier course is the same exactly where an earlier trip is alike
    any_earlier : (x : Course) (a : IsCourse p x) → list_any (is_repeated_of (course_cmp p.headsigns) (courses_total p.headsigns) (λ z. z.trip.0) x) xs
        ≡ list_any (λ u. is_lt (text_cmp u.trip_id a.trip.trip_id) && is_like a.trip u) (content_of_parts p).trips
    any_earlier x a =
        any-paired (is_repeated_of (course_cmp p.headsigns) (courses_total p.headsigns) (λ z. z.trip.0) x) (λ u. is_lt (text_cmp u.trip_id a.trip.trip_id) && is_like a.trip u)
        xs (content_of_parts p).trips (counted ∙ sym trips_counted)
        (λ k y u at there. let b = course-at k y at in
        earlier_like x y a b ∙ ap (λ (v : Trip). is_lt (text_cmp v.trip_id a.trip.trip_id) && is_like a.trip v) (its k u there y at b))

    marked : (n : ℕ) (t : Trip) → slice_get (content_of_parts p).trips n ≡ Some t → repeats_one p.headsigns sorted n ≡ is_same_as_another (content_of_parts p) t
    marked n t there =
        let hs = p.headsigns in
        let inside : n < length xs = omega (arith, counted, trips_counted, slice_get_within (content_of_parts p).trips n t there) in
        let x = get_or xs n (some_of xs n inside) in
        let at = slice_get-get_or xs n (some_of xs n inside) inside in
        let a = course-at n x at in
        let place = moved_to xs sorted n x same at in
        let distinct = distinct_numbers (λ z. z.trip.0) xs sorted (length p.trips) are.numbers same in
        let chosen : (y : Course) → Bool = λ y. not (length y.rows.now == 0) in
        let count : length x.rows.now ≡ length a.trip.stop_rows = sym (length-map x.rows.now (stop_row_of p)) ∙ sym (ap length a.along.is) in
        any_alike (λ w. option_eq nat_eq (repeated hs w) (Some n)) (λ w. (chosen w.1 && is_eq (course_cmp hs w.0 w.1)) && (w.1.trip.0 == n)) (neighbours sorted) (λ w. number-if (is_repeat hs w.0 w.1) w.1.trip.0 n)
        ∙ ap (λ m. list_any (λ w. (chosen w.1 && is_eq (course_cmp hs w.0 w.1)) && (w.1.trip.0 == m)) (neighbours sorted)) (sym (number-at n x at))
        ∙ repeats.repeated (course_cmp hs) (courses_total hs) (λ z. z.trip.0) sorted up distinct place.0 x place.1 place.2 chosen
        ∙ ap (λ b. chosen x && b) (sym (list_any-IsPermutation (is_repeated_of (course_cmp hs) (courses_total hs) (λ z. z.trip.0) x) xs sorted same) ∙ any_earlier x a)
        ∙ ap (λ c. not (c == 0) && list_any (λ u. is_lt (text_cmp u.trip_id a.trip.trip_id) && is_like a.trip u) (content_of_parts p).trips) count
        ∙ ap (is_same_as_another (content_of_parts p)) (its n t there x at a)

    pub courses_within : All (λ x. x.trip.0 < length sorted) sorted
    courses_within k d within =
        let a = All-permutation (IsCourse p) xs sorted same are.each k d within in
        omega (arith, slice_get_within (content_of_parts p).trips (get_or sorted k d).trip.0 a.trip a.there, trips_counted, sorted_counted)

    pub all_repeats : (marks : List Bool) → AreMarks (length sorted) (repeats_one p.headsigns sorted) marks → AreRepeats p marks
    all_repeats marks marked_so = record {
      count = marked_so.count ∙ sorted_counted;
      at = λ n t there.
          marked_so.at n (omega (arith, sorted_counted, trips_counted, slice_get_within (content_of_parts p).trips n t there)) ∙ marked n t there;
    }
