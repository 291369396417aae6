-- What leaves the place of a stop, found by its departure rows, whatever order they come in.
use Rattle.std.proofs.Common.{◌≡◌, ◌≤◌, ◌<◌, ◌+◌, ◌*◌, ◌-◌, ◌++◌, ◌∙◌, ◌&&◌, ◌==◌, ℕ, zero, suc, Bool, true, false, cond, List, [], ◌∷◌, Some, length, map, filter, take, drop, get_or, refl, sym, ap, subst, arith, append_assoc}
use Rattle.std.specs.Prelude.{option_map, unwrap_or}
use Rattle.std.specs.List.{All, list_any, slice_get}
use Rattle.std.specs.List.Sorted.{IsPermutation}
use Rattle.std.proofs.lemmas.Bool.Decides.{nat_tests}
use Rattle.std.proofs.lemmas.List.{append-nil, length-drop, length-map, length-take-le, map-append}
use Rattle.std.proofs.lemmas.List.Elements.{All-drop, All-head, All-tail, All-take, filter-append}
use Rattle.std.proofs.lemmas.List.Recursion.{is_sum_by}
use Rattle.std.proofs.lemmas.List.Sorted.{All-permutation, IsPermutation-map, IsPermutation-sym, IsPermutation-trans, sum_by-IsPermutation}
use Rattle.std.proofs.lemmas.Option.{slice_get-get_or}
use Rattle.std.proofs.lemmas.Simd.{map-map}
use Rattle.gtfs_field.proofs.ListFacts.{some_of}
use Rattle.gtfs_rows.specs.TransferOrder.{Ascends}
use Rattle.gtfs_rows.specs.Trips.{frequencies_by_trip, stop_rows_by_trip}
use Rattle.gtfs_rows.specs.RowsInMemory.{IsSoundParts}
use Rattle.gtfs_rows.specs.declared.frequency.Frequency.{Frequency}
use Rattle.gtfs_rows.specs.declared.parts.Parts.{Parts}
use Rattle.gtfs_stop_times.specs.declared.stop_row.StopRow.{StopRow}
use Rattle.gtfs_rows.specs.declared.trip.Trip.{Trip}
use Rattle.gtfs_table.proofs.PartFacts.{length-parts}
use Rattle.gtfs_times.proofs.FilledContent.{sound-timed}
use Rattle.gtfs_times.specs.TimedRows.{timed_parts, timed_stop_times}
use Rattle.gtfs_times.specs.declared.times.Times.{Times}
use Rattle.gtfs_runs.specs.EventOrder.{is_same}
use Rattle.gtfs_runs.specs.Tallies.{tally}
use Rattle.gtfs_runs.specs.StopIndex.{is_this_row}
use Rattle.gtfs_runs.specs.StopLanes.{LaneValue}
use Rattle.gtfs_runs.specs.declared.event.Event.{Event}
use Rattle.gtfs_runs.specs.declared.departure_row.DepartureRow.{DepartureRow}
use Rattle.gtfs_runs.specs.declared.stop_lanes.listed.ListedEvent.{ListedEvent}
use Rattle.gtfs_runs.specs.declared.stop_lanes.passing.Passing.{Passing}
use Rattle.gtfs_runs.specs.steps.Courses.{IsCourse, IsListed, Stopping, course_of, stopping_events, stopping_of}
use Rattle.gtfs_runs.specs.steps.FoundEvents.{AreFound, AreTold, stopping_at, times_passed, times_passed_in, times_told}
use Rattle.gtfs_runs.specs.steps.TripGroups.{trip_group}
use Rattle.gtfs_stop_times.specs.StopLists.{stops_in}
use Rattle.gtfs_runs.specs.steps.NotedRows.{IsNoted}
use Rattle.gtfs_runs.specs.steps.Passings.{ArePassings, first_left, passings_of}
use Rattle.gtfs_runs.specs.steps.PlaceRows.{AreOfPlace, ArePlaceRows, IsStopTime, departs_in_place, first_trip, number_cmp}
use Rattle.gtfs_runs.specs.steps.FoundAtRow.{AreAdded, row_lanes, row_passing, row_stopping, row_told, runs_once, sum_over}
use Rattle.gtfs_runs.proofs.PlaceFinds.{are-passings, first_within, nothing_told, raised, rows_raised, stop_times_there}
use Rattle.gtfs_runs.proofs.PlacePassings.{of_one_trip, passings_noted}
use Rattle.gtfs_runs.proofs.PlaceRows.{by-number, by_number, first_counted, kept_numbered, left_rows, numbered, own_all, own_trip, own_up}
use Rattle.gtfs_runs.proofs.Tallies.{tally-permutation}
use Rattle.gtfs_runs.proofs.TimedTrips.{first_timed, rows_timed, stops_timed}
use Rattle.gtfs_runs.proofs.TripFinds.{listed_told, periods_told}
use Rattle.gtfs_runs.proofs.TripTimes.{rows_at}
use Rattle.gtfs_runs.proofs.WholeLanes.{events_tally}

rejoined : {X : Type 0} (n : ℕ) (xs : List X) → take n xs ++ drop n xs ≡ xs
rejoined zero xs = refl
rejoined (suc n) [] = refl
rejoined (suc n) (x ∷ xs) = ap (λ l. x ∷ l) (rejoined n xs)

-- ---- sums

pub sum-append : (f : DepartureRow → ℕ) (xs ys : List DepartureRow) → sum_over f (xs ++ ys) ≡ sum_over f xs + sum_over f ys
sum-append f [] ys = nothing (sum_over f ys)
  where
    nothing : (n : ℕ) → n ≡ 0 + n
    nothing n = omega arith
sum-append f (x ∷ xs) ys = ap (λ n. f x + n) (sum-append f xs ys) ∙ assoc (f x) (sum_over f xs) (sum_over f ys)
  where
    assoc : (a b c : ℕ) → a + (b + c) ≡ a + b + c
    assoc a b c = omega arith

sum-permutation : (f : DepartureRow → ℕ) (xs ys : List DepartureRow) → IsPermutation xs ys → sum_over f ys ≡ sum_over f xs
sum-permutation f xs ys same = is_sum_by (sum_over f) f refl (λ _ _. refl) ys ∙ sum_by-IsPermutation f xs ys same ∙ sym (is_sum_by (sum_over f) f refl (λ _ _. refl) xs)

sum-same : (f g : DepartureRow → ℕ) (xs : List DepartureRow) → All (λ x. f x ≡ g x) xs → sum_over f xs ≡ sum_over g xs
sum-same f g [] same = refl
sum-same f g (x ∷ xs) same = λ i. All-head (λ y. f y ≡ g y) x xs same i + sum-same f g xs (All-tail (λ y. f y ≡ g y) x xs same) i

sum-guard : (b : Bool) (f : DepartureRow → ℕ) (xs : List DepartureRow) → sum_over (λ x. cond b (f x) 0) xs ≡ cond b (sum_over f xs) 0
sum-guard true f xs = refl
sum-guard false f [] = refl
sum-guard false f (x ∷ xs) = ap (λ n. 0 + n) (sum-guard false f xs)

sum-each : (n : ℕ) (xs : List DepartureRow) → sum_over (λ x. n) xs ≡ n * length xs
sum-each n [] = let none : 0 ≡ n * 0 = omega arith in none
sum-each n (x ∷ xs) = ap (λ m. n + m) (sum-each n xs) ∙ more n (length xs)
  where
    more : (a b : ℕ) → a + a * b ≡ a * suc b
    more a b = omega arith

-- ---- the events and the lanes of rows

abbrev pub stoppings : Parts → List DepartureRow → List Stopping
stoppings p rows = map (row_stopping p) (filter (runs_once p) rows)

abbrev pub told : Parts → List DepartureRow → ℕ → Event → ℕ
told p rows k e = sum_over (row_told p k e) rows

abbrev pub lanes : Parts → List DepartureRow → ℕ
lanes p rows = sum_over (row_lanes p) rows

pub stoppings-append : (p : Parts) (xs ys : List DepartureRow) → stoppings p (xs ++ ys) ≡ stoppings p xs ++ stoppings p ys
stoppings-append p xs ys = ap (map (row_stopping p)) (filter-append (runs_once p) xs ys) ∙ map-append (row_stopping p) (filter (runs_once p) xs) (filter (runs_once p) ys)

all-pass : (q : DepartureRow → Bool) (xs : List DepartureRow) → All (λ x. q x ≡ true) xs → filter q xs ≡ xs
all-pass q [] all = refl
all-pass q (x ∷ xs) all = rw (All-head (λ y. q y ≡ true) x xs all) (ap (λ l. x ∷ l) (all-pass q xs (All-tail (λ y. q y ≡ true) x xs all)))

none-pass : (q : DepartureRow → Bool) (xs : List DepartureRow) → All (λ x. q x ≡ false) xs → filter q xs ≡ []
none-pass q [] none = refl
none-pass q (x ∷ xs) none = rw (All-head (λ y. q y ≡ false) x xs none) (none-pass q xs (All-tail (λ y. q y ≡ false) x xs none))

map-alike : {Y : Type 0} (f g : DepartureRow → Y) (xs : List DepartureRow) → All (λ x. f x ≡ g x) xs → map f xs ≡ map g xs
map-alike f g [] same = refl
map-alike f g (x ∷ xs) same = λ i. All-head (λ y. f y ≡ g y) x xs same i ∷ map-alike f g xs (All-tail (λ y. f y ≡ g y) x xs same) i

-- the passings one by one
passed-one : (t : ℕ) (e : Event) (y : Passing) (ys : List Passing) (fs : List Frequency) → times_passed_in t e (y ∷ []) fs + times_passed_in t e ys fs ≡ times_passed_in t e (y ∷ ys) fs
passed-one t e y ys [] = refl
passed-one t e y ys (f ∷ fs) = sums (times_passed t e (y ∷ []) f) (times_passed t e ys f) (times_passed t e (y ∷ ys) f) (times_passed_in t e (y ∷ []) fs) (times_passed_in t e ys fs) (one _ (times_passed t e ys f)) ∙ ap (λ n. times_passed t e (y ∷ ys) f + n) (passed-one t e y ys fs)
  where
    one : (a n : ℕ) → a + 0 + n ≡ a + n
    one a n = omega arith

    sums : (a b c m n : ℕ) → a + b ≡ c → a + m + (b + n) ≡ c + (m + n)
    sums a b c m n is = omega (arith, is)

passed-each : (t : ℕ) (e : Event) (f : DepartureRow → Passing) (fs : List Frequency) (xs : List DepartureRow) → sum_over (λ x. times_passed_in t e (f x ∷ []) fs) xs ≡ times_passed_in t e (map f xs) fs
passed-each t e f fs [] = none fs
  where
    none : (gs : List Frequency) → 0 ≡ times_passed_in t e [] gs
    none [] = refl
    none (g ∷ gs) = ap (λ n. 0 + n) (none gs)
passed-each t e f fs (x ∷ xs) = ap (λ n. times_passed_in t e (f x ∷ []) fs + n) (passed-each t e f fs xs) ∙ passed-one t e (f x) (map f xs) fs

-- ---- counts that are the same

told-as : (p : Parts) (s n : ℕ) (listed : List Stopping) (old new : ℕ → Event → ℕ) (before after : ℕ) → ((k : ℕ) (e : Event) → new k e ≡ old k e) → after ≡ before
    → AreTold p s n listed old before → AreTold p s n listed new after
told-as p s n listed old new before after same count was = record {
  exact = λ k e within. ap (λ m. tally (is_same e) (stopping_events k listed) + m) (same k e) ∙ was.exact k e within;
  known = was.known;
  own = was.own;
  courses = was.courses;
  counted = count ∙ was.counted;
}

told-moved : (p : Parts) (s n : ℕ) (xs ys : List Stopping) (told : ℕ → Event → ℕ) (count : ℕ) → IsPermutation xs ys → AreTold p s n xs told count → AreTold p s n ys told count
told-moved p s n xs ys told count same was = record {
  exact = λ k e within.
      let q : Stopping → Bool = λ x. (x.course.service == k) && is_same e x.event in
      ap (λ m. m + told k e) (events_tally k e ys ∙ tally-permutation q xs ys same ∙ sym (events_tally k e xs)) ∙ was.exact k e within;
  known = All-permutation (λ x. IsCourse p x.course) xs ys same was.known;
  own = All-permutation (IsListed p) xs ys same was.own;
  courses = IsPermutation-trans _ _ _ was.courses (IsPermutation-map (λ x. course_of p x.course) xs ys same);
  counted = was.counted;
}

-- ---- trip after trip

module _ (choice : Times) (p : Parts) (sound : IsSoundParts p) (s : ℕ) where
  abbrev q : Parts
  q = timed_parts choice p

  abbrev fair : IsSoundParts q
  fair = sound-timed p sound choice

  module _ (t : ℕ) (within : t < length p.trips) (own : List DepartureRow) (up : Ascends number_cmp own) (of_trip : All (λ x. x.trip ≡ t) own)
      (all : (r : ℕ) → list_any (is_this_row t r) own ≡ departs_in_place q s t r) (noted : All (IsNoted q) own) (there : All (IsStopTime q) own) (some : 0 < length own) where
    abbrev u : Trip
    u = get_or p.trips t (some_of p.trips t within)

    abbrev given : List StopRow
    given = get_or (stop_rows_by_trip p) t []

    abbrev rs : List StopRow
    rs = timed_stop_times choice given

    abbrev fs : List Frequency
    fs = get_or (frequencies_by_trip p) t []

    at_trip : slice_get p.trips t ≡ Some u
    at_trip = slice_get-get_or p.trips t (some_of p.trips t within) within

    at_rows : slice_get (stop_rows_by_trip q) t ≡ Some rs
    at_rows = rows_timed choice p sound t given rs (rows_at p sound t within) refl

    at_periods : slice_get (frequencies_by_trip p) t ≡ Some fs
    at_periods =
        let here : t < length (frequencies_by_trip p) = omega (arith, within, length-parts p.frequency_starts p.frequencies, sound.frequencies.0) in
        slice_get-get_or (frequencies_by_trip p) t [] here

    service : (trip_group p t).0 ≡ u.service_id.0
    service = ap (λ o. unwrap_or (option_map (λ v. v.service_id.0) o) 0) at_trip

    -- they are passed as the trip passes the place
    passings : ArePassings q s t (map (row_passing p) own)
    passings = are-passings q fair s t within own (map (row_passing p) own) up of_trip all
        (λ rows d at. passings_noted choice p sound d own there noted ∙ of_one_trip q t rows at d own of_trip) some

    by_trip : {Y : Type 0} (f : ℕ → DepartureRow → Y) → All (λ x. f x.trip x ≡ f t x) own
    by_trip f k d inside = ap (λ n. f n (get_or own k d)) (of_trip k d inside)

    module _ (gs : List Frequency) (are : fs ≡ gs) where
      told-own : (k : ℕ) (e : Event) → sum_over (row_told p k e) own ≡ cond (u.service_id.0 == k) (times_passed_in t e (passings_of q s u rs gs) gs) 0
      told-own k e =
          let f : ℕ → DepartureRow → ℕ = λ n x. cond ((trip_group p n).0 == k) (times_passed_in n e (row_passing p x ∷ []) (get_or (frequencies_by_trip p) n [])) 0 in
          sum-same (row_told p k e) (f t) own (by_trip f)
          ∙ sum-guard ((trip_group p t).0 == k) (λ x. times_passed_in t e (row_passing p x ∷ []) fs) own
          ∙ (λ i. cond (service i == k) (passed-each t e (row_passing p) (are i) own i) 0)
          ∙ ap (λ l. cond (u.service_id.0 == k) (times_passed_in t e l gs) 0) (passings u rs gs at_rows)

      lanes-own : sum_over (row_lanes p) own ≡ length gs * length (passings_of q s u rs gs)
      lanes-own =
          let f : ℕ → DepartureRow → ℕ = λ n x. length (get_or (frequencies_by_trip p) n []) in
          sum-same (row_lanes p) (f t) own (by_trip f) ∙ sum-each (length fs) own
          ∙ (λ i. length (are i) * (sym (length-map own (row_passing p)) ∙ ap length (passings u rs gs at_rows)) i)

    pub trip_more : (pre : List DepartureRow) → AreTold q s t (stoppings p pre) (told p pre) (lanes p pre)
        → AreTold q s (t + 1) (stoppings p (pre ++ own)) (told p (pre ++ own)) (lanes p (pre ++ own))
    trip_more pre was = by fs refl
      where
        no_more : (n m : ℕ) → m ≡ 0 → n + m ≡ n
        no_more n m none = omega (arith, none)

        nothing : (b : Bool) → ◌≡◌ {A = ℕ} (cond b 0 0) 0
        nothing true = refl
        nothing false = refl

        none : (n : ℕ) → 0 * n ≡ 0
        none n = omega arith

        by : (gs : List Frequency) → fs ≡ gs → AreTold q s (t + 1) (stoppings p (pre ++ own)) (told p (pre ++ own)) (lanes p (pre ++ own))
        by [] are =
            let f : ℕ → DepartureRow → Stopping = λ n x. stopping_at (trip_group p n).1 (trip_group p n).0 n (first_left (get_or (stop_rows_by_trip p) n [])) (row_passing p x) in
            let once : ℕ → DepartureRow → Bool = λ n x. length (get_or (frequencies_by_trip p) n []) == 0 in
            let every : All (λ x. runs_once p x ≡ true) own = λ k d inside. by_trip once k d inside ∙ ap (λ l. length l == 0) are in
            let events : stoppings p own ≡ map (stopping_at (stops_in rs) u.service_id.0 t (first_left rs)) (passings_of q s u rs []) =
            ap (map (row_stopping p)) (all-pass (runs_once p) own every)
            ∙ map-alike (row_stopping p) (f t) own (by_trip f)
            ∙ sym (map-map (stopping_at (trip_group p t).1 (trip_group p t).0 t (first_left given)) (row_passing p) own)
            ∙ (λ i. map (stopping_at (sym (stops_timed choice given) i) (service i) t (sym (first_timed choice given) i)) (passings u rs [] at_rows i)) in
            told-as q s (t + 1) (stoppings p (pre ++ own)) (told p pre) (told p (pre ++ own)) (lanes p pre) (lanes p (pre ++ own))
            (λ k e. sum-append (row_told p k e) pre own ∙ no_more (told p pre k e) _ (told-own [] are k e ∙ nothing (u.service_id.0 == k)))
            (sum-append (row_lanes p) pre own ∙ no_more (lanes p pre) _ (lanes-own [] are ∙ none (length (passings_of q s u rs []))))
            (listed_told q fair s t u rs at_trip at_rows (at_periods ∙ ap Some are) (stoppings p pre) (stoppings p (pre ++ own)) (told p pre) (lanes p pre)
            (stoppings-append p pre own ∙ ap (λ l. stoppings p pre ++ l) events) was)
        by (g ∷ gs) are =
            let once : ℕ → DepartureRow → Bool = λ n x. length (get_or (frequencies_by_trip p) n []) == 0 in
            let some : (suc (length gs) == 0) ≡ false = grind (arith, nat_tests) in
            let never : All (λ x. runs_once p x ≡ false) own = λ k d inside. by_trip once k d inside ∙ ap (λ l. length l == 0) are ∙ some in
            let same : stoppings p (pre ++ own) ≡ stoppings p pre =
            stoppings-append p pre own ∙ ap (λ l. stoppings p pre ++ map (row_stopping p) l) (none-pass (runs_once p) own never) ∙ append-nil (stoppings p pre) in
            subst (λ l. AreTold q s (t + 1) l (told p (pre ++ own)) (lanes p (pre ++ own))) (sym same)
            (periods_told q fair s t u rs (g ∷ gs) at_trip at_rows (at_periods ∙ ap Some are) (omega arith) (stoppings p pre) (told p pre) (told p (pre ++ own)) (lanes p pre) (lanes p (pre ++ own))
            (λ k e. sum-append (row_told p k e) pre own ∙ ap (λ n. told p pre k e + n) (told-own (g ∷ gs) are k e))
            (sum-append (row_lanes p) pre own ∙ ap (λ n. lanes p pre + n) (lanes-own (g ∷ gs) are)) was)

  upto_all : (t : ℕ) (xs : List DepartureRow) → tally (λ x. x.trip == t) xs ≤ length xs
  upto_all t [] = omega arith
  upto_all t (x ∷ xs) = one (x.trip == t) (tally (λ y. y.trip == t) xs) (length xs) (upto_all t xs)
    where
      one : (b : Bool) (m n : ℕ) → m ≤ n → cond b 1 0 + m ≤ suc n
      one true m n le = omega (arith, le)
      one false m n le = omega (arith, le)

  walk : (m : ℕ) (pre rest : List DepartureRow) → length rest ≤ m → ArePlaceRows q s (first_trip (length p.trips) rest) rest → All (IsNoted q) rest → All (IsStopTime q) rest
      → AreTold q s (first_trip (length p.trips) rest) (stoppings p pre) (told p pre) (lanes p pre)
      → AreTold q s (length p.trips) (stoppings p (pre ++ rest)) (told p (pre ++ rest)) (lanes p (pre ++ rest))
  walk m pre [] short are noted there was = subst (λ l. AreTold q s (length p.trips) (stoppings p l) (told p l) (lanes p l)) (sym (append-nil pre)) was
  walk zero pre (x ∷ rest) short are noted there was = absurd (omega (arith, short))
  walk (suc m) pre (x ∷ rest) short are noted there was =
      let t = x.trip in
      let ys = x ∷ rest in
      let n = tally (λ z. z.trip == t) ys in
      let some : 0 < n = first_counted (length p.trips) ys t refl (omega arith) in
      let upto : n ≤ length ys = upto_all t ys in
      let within : t < length p.trips = first_within q s t ys are refl (omega arith) in
      let filled : 0 < length (take n ys) = omega (arith, some, length-take-le n ys upto) in
      let left : ArePlaceRows q s (t + 1) (drop n ys) = left_rows q s t n ys are refl in
      let last : t + 1 ≤ length p.trips = omega (arith, within) in
      let next = trip_more t within (take n ys) (own_up q s t n ys are refl) (own_trip q s t n ys are refl) (own_all q s t n ys are refl)
      (All-take (IsNoted q) n ys noted) (All-take (IsStopTime q) n ys there) filled pre was in
      let size : length (drop n ys) ≡ length ys - n = length-drop n ys in
      let less : length (drop n ys) ≤ m = fewer (length (drop n ys)) (length rest) n m size some short in
      subst (λ l. AreTold q s (length p.trips) (stoppings p l) (told p l) (lanes p l)) (append_assoc pre (take n ys) (drop n ys) ∙ ap (λ l. pre ++ l) (rejoined n ys))
      (walk m (pre ++ take n ys) (drop n ys) less (rows_raised q fair s (t + 1) (drop n ys) left last) (All-drop (IsNoted q) n ys noted) (All-drop (IsStopTime q) n ys there)
      (raised q fair s (t + 1) (drop n ys) left last (stoppings p (pre ++ take n ys)) (told p (pre ++ take n ys)) (lanes p (pre ++ take n ys)) next))
    where
      fewer : (l k n m : ℕ) → l ≡ suc k - n → 0 < n → suc k ≤ suc m → l ≤ m
      fewer l k n m is some short = omega (arith, is, some, short)

  -- what all rows of the place add to nothing is what leaves it
  pub all_found : (xs : List DepartureRow) (listed : List ListedEvent) (periods : List LaneValue) → AreOfPlace q s xs → All (IsNoted q) xs → AreAdded p xs [] listed [] periods
      → AreFound q s (length p.trips) (map (stopping_of p) listed) periods
  all_found xs listed periods of noted added =
      let zs = by_number xs in
      let same : IsPermutation xs zs = numbered xs in
      let are : ArePlaceRows q s 0 zs = by-number q s xs of in
      let low : 0 ≤ length p.trips = omega arith in
      let there = stop_times_there q fair s xs of in
      let sorted = walk (length zs) [] zs (omega arith) (rows_raised q fair s 0 zs are low) (All-permutation (IsNoted q) xs zs same noted) (All-permutation (IsStopTime q) xs zs same there)
      (raised q fair s 0 zs are low [] (λ k e. 0) 0 (nothing_told q s)) in
      let events : map (stopping_of p) listed ≡ stoppings p xs = added.events in
      let moved : IsPermutation (stoppings p zs) (stoppings p xs) =
      IsPermutation-sym (stoppings p xs) (stoppings p zs) (IsPermutation-map (row_stopping p) (filter (runs_once p) xs) (filter (runs_once p) zs) (kept_numbered (runs_once p) xs)) in
      record {
        told = subst (λ l. AreTold q s (length p.trips) l (λ k e. times_told k e periods) (length periods)) (sym events)
            (told-as q s (length p.trips) (stoppings p xs) (told p zs) (λ k e. times_told k e periods) (lanes p zs) (length periods)
            (λ k e. added.told k e ∙ nothing (told p xs k e) ∙ sym (sum-permutation (row_told p k e) xs zs same))
            (added.counted ∙ nothing (lanes p xs) ∙ sym (sum-permutation (row_lanes p) xs zs same))
            (told-moved q s (length p.trips) (stoppings p zs) (stoppings p xs) (told p zs) (lanes p zs) moved sorted));
        within = added.within (λ k d inside. absurd (omega (arith, inside)));
        runs = added.runs choice (λ k d inside. absurd (omega (arith, inside)));
      }
    where
      nothing : (n : ℕ) → 0 + n ≡ n
      nothing n = omega arith
