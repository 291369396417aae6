-- The rows of trips after a sort: each row once, in the order of trip, sequence and row.
use Rattle.std.proofs.Common.{◌≡◌, ℕ, zero, suc, ◌-◌, length, ◌+◌, ◌<◌, ◌≤◌, true, false, Bool, cond, get_or, List, [], ◌∷◌, map, filter, refl, sym, ap, ◌∙◌, subst, inl, inr, arith}
use Rattle.std.specs.Prelude.{◌==◌, pos, IsPermutation}
use Rattle.std.specs.Cmp.{Equal-is, IsTotalOrder, on_total, tied_itself}
use Rattle.std.specs.Cmp.Lexicographic.{nat_list_cmp_total}
use Rattle.std.specs.FinMap.{nat_cmp-IsAntisymmetric}
use Rattle.std.specs.List.{AllByRecursion, dedup, dedup_from, range_with_len, sum_by}
use Rattle.std.specs.List.Sorted.{IsSorted, IsStrictlySortedBy}
use Rattle.std.specs.Ordering.{eq_by_cmp, int_cmp, is_lt, nat_cmp, ordering_then}
use Rattle.std.specs.declared.cmp.Ordering.{Ordering}
use Rattle.std.specs.declared.cmp.Ordering.TheVariants.{Less, Equal, Greater}
use Rattle.std.proofs.lemmas.Bool.{cases_Bool, eqb-true as same_number}
use Rattle.std.proofs.lemmas.Bool.Decides.{nat_tests}
use Rattle.std.proofs.lemmas.List.Kept.{IsStrictlySortedBy-dedup}
use Rattle.std.proofs.lemmas.List.Sorted.{All-permutation, IsPermutation-map, sum_by-IsPermutation}
use Rattle.std.proofs.lemmas.List.Sums.{sum_by-cons}
use Rattle.gtfs_field.proofs.NumberFacts.{number_itself}
use Rattle.gtfs_field.specs.TextOrder.{text_cmp}
use Rattle.gtfs_table.specs.Tables.{Dataset, Records}
use Rattle.gtfs_table.specs.declared.file.File.TheVariants as file
use Rattle.gtfs_table.specs.Rows.{is_row, records_in}
use Rattle.gtfs_stop_times.specs.declared.stop_time.StopTime.{StopTime}
use Rattle.gtfs_trip_rules.specs.TripNumbers.{AllNumbered, IsNumbered}
use Rattle.gtfs_stop_times.specs.StopTimeOrder.{kept_cmp}
use Rattle.gtfs_trip_rules.specs.TripOrder.{row_cmp, AreInOrder, InOrder}
use Rattle.gtfs_trip_rules.specs.TripStopTimes.{TripStopTime, has_trip_stop_time, trip_stop_time, trip_stop_time_in, trip_stop_times_in}
use Rattle.gtfs_schema.proofs.BoolFacts.{no_test}
use Rattle.gtfs_schema.proofs.FoundFacts.{sorted_mapped}
use Rattle.gtfs_trip_rules.proofs.TripStopTimeOrder.{row_total}

-- ---- each row of a file comes once

abbrev is_here : ℕ → ℕ → ℕ
is_here n m = cond (n == m) 1 0

range_past : (n a len : ℕ) → n < a → sum_by (is_here n) (range_with_len a len) ≡ 0
range_past n a zero below = refl
range_past n a (suc len) below =
    let other : (n == a) ≡ false = grind (arith, nat_tests, below) in
    let first : is_here n a ≡ 0 = ap (λ b. cond b 1 0) other in
    omega (arith, first, sum_by-cons (is_here n) a (range_with_len (a + 1) len), range_past n (a + 1) len (omega arith))

range_once : (n a len : ℕ) → sum_by (is_here n) (range_with_len a len) ≤ 1
range_once n a zero = omega arith
range_once n a (suc len) = elim (cases_Bool (n == a)) [
  | inl here ↦
      let same : n ≡ a = same_number n a here in
      let first : is_here n a ≡ 1 = ap (λ b. cond b 1 0) here in
      omega (arith, first, sum_by-cons (is_here n) a (range_with_len (a + 1) len), range_past n (a + 1) len (omega arith))
  | inr other ↦
      let first : is_here n a ≡ 0 = ap (λ b. cond b 1 0) other in
      omega (arith, first, sum_by-cons (is_here n) a (range_with_len (a + 1) len), range_once n (a + 1) len)
]

filter_less : (f : ℕ → ℕ) (p : ℕ → Bool) (ms : List ℕ) → sum_by f (filter p ms) ≤ sum_by f ms
filter_less f p [] = omega arith
filter_less f p (m ∷ ms) = elim (p m) as (λ b. sum_by f (cond b (m ∷ filter p ms) (filter p ms)) ≤ sum_by f (m ∷ ms)) [
  | true ↦ omega (arith, sum_by-cons f m (filter p ms), sum_by-cons f m ms, filter_less f p ms)
  | false ↦ omega (arith, sum_by-cons f m ms, filter_less f p ms)
]

abbrev row_here : ℕ → TripStopTime → ℕ
row_here n r = is_here n r.row

sum_rows : (n : ℕ) (d : Dataset) (ms : List ℕ) → sum_by (row_here n) (map (trip_stop_time_in d) ms) ≡ sum_by (is_here n) ms
sum_rows n d [] = refl
sum_rows n d (m ∷ ms) =
    sum_by-cons (row_here n) (trip_stop_time_in d m) (map (trip_stop_time_in d) ms) ∙ ap (λ s. is_here n m + s) (sum_rows n d ms) ∙ sym (sum_by-cons (is_here n) m ms)

once : (n : ℕ) (d : Dataset) → sum_by (row_here n) (trip_stop_times_in d) ≤ 1
once n d = once_in (records_in d file.StopTimes)
  where
    once_in : (rs : Records) → sum_by (row_here n) (map (trip_stop_time_in d) (filter (has_trip_stop_time d) (filter (is_row rs) (range_with_len 2 (length rs - 1))))) ≤ 1
    once_in rs =
        omega (
          arith,
          sum_rows n d (filter (has_trip_stop_time d) (filter (is_row rs) (range_with_len 2 (length rs - 1)))),
          filter_less (is_here n) (has_trip_stop_time d) (filter (is_row rs) (range_with_len 2 (length rs - 1))),
          filter_less (is_here n) (is_row rs) (range_with_len 2 (length rs - 1)),
          range_once n 2 (length rs - 1),
        )

-- ---- rows that come once and are sorted ascend

module _ (number : List ℕ → ℕ) (name : ℕ → List ℕ) where
  abbrev pub lent_cmp : StopTime → StopTime → Ordering
  lent_cmp x y = row_cmp number (trip_stop_time name x) (trip_stop_time name y)

  abbrev lent_here : ℕ → StopTime → ℕ
  lent_here n x = is_here n x.row

  sum_lent : (n : ℕ) (xs : List StopTime) → sum_by (lent_here n) xs ≡ sum_by (row_here n) (map (trip_stop_time name) xs)
  sum_lent n [] = refl
  sum_lent n (x ∷ xs) =
      sum_by-cons (lent_here n) x xs ∙ ap (λ s. is_here n x.row + s) (sum_lent n xs) ∙ sym (sum_by-cons (row_here n) (trip_stop_time name x) (map (trip_stop_time name) xs))

  then_second : (r s : Ordering) → ordering_then r s ≡ Equal → s ≡ Equal
  then_second Less s e = cc
  then_second Equal s e = e
  then_second Greater s e = cc

  tied_row : (x y : StopTime) → eq_by_cmp lent_cmp y x ≡ true → y.row ≡ x.row
  tied_row x y tied = nat_cmp-IsAntisymmetric y.row x.row (then_second _ _ (then_second _ _ ((Equal-is (lent_cmp y x)).0 tied)))

  abbrev EachOnce : List StopTime → Type 0
  EachOnce xs = (n : ℕ) → sum_by (lent_here n) xs ≤ 1

  later_once : (x : StopTime) (xs : List StopTime) → EachOnce (x ∷ xs) → EachOnce xs
  later_once x xs each n = omega (arith, each n, sum_by-cons (lent_here n) x xs)

  kept_from : (x : StopTime) (xs : List StopTime) → EachOnce (x ∷ xs) → dedup_from (eq_by_cmp lent_cmp) x xs ≡ x ∷ xs
  kept_from x [] each = refl
  kept_from x (y ∷ ys) each =
      let apart : eq_by_cmp lent_cmp y x ≡ false = no_test (eq_by_cmp lent_cmp y x) (λ tied. two (tied_row x y tied)) in
      ap (λ b. cond b (dedup_from (eq_by_cmp lent_cmp) x ys) (x ∷ dedup_from (eq_by_cmp lent_cmp) y ys)) apart
      ∙ ap (λ zs. x ∷ zs) (kept_from y ys (later_once x (y ∷ ys) each))
    where
      two : y.row ≡ x.row → false ≡ true
      two same =
          let first : is_here x.row x.row ≡ 1 = ap (λ b. cond b 1 0) (number_itself x.row) in
          let second : is_here x.row y.row ≡ 1 = ap (is_here x.row) same ∙ first in
          absurd (omega (arith, each x.row, first, second, sum_by-cons (lent_here x.row) x (y ∷ ys), sum_by-cons (lent_here x.row) y ys))

  kept_all : (xs : List StopTime) → EachOnce xs → dedup (eq_by_cmp lent_cmp) xs ≡ xs
  kept_all [] each = refl
  kept_all (x ∷ xs) each = kept_from x xs each

  lent_total : IsTotalOrder lent_cmp
  lent_total = on_total (trip_stop_time name) (row_total number)

  pub sorted_strictly : (d : Dataset) (old new : List StopTime) → map (trip_stop_time name) old ≡ trip_stop_times_in d → IsPermutation old new → IsSorted lent_cmp new → IsStrictlySortedBy lent_cmp new
  sorted_strictly d old new is swapped sorted = subst (IsStrictlySortedBy lent_cmp) (kept_all new each) (IsStrictlySortedBy-dedup lent_total (λ x y. refl) new sorted)
    where
      each : EachOnce new
      each n = omega (arith, once n d, sum_by-IsPermutation (lent_here n) old new swapped, sum_lent n old ∙ ap (sum_by (row_here n)) is)

  pub sorted_in_order : (d : Dataset) (old new : List StopTime) → map (trip_stop_time name) old ≡ trip_stop_times_in d → IsPermutation old new → IsStrictlySortedBy lent_cmp new → InOrder d (map (trip_stop_time name) new)
  sorted_in_order d old new is swapped strictly = record {
    number = number;
    moved = subst (λ (rs : List TripStopTime). IsPermutation rs (map (trip_stop_time name) new)) is (IsPermutation-map (trip_stop_time name) old new swapped);
    ascending = sorted_mapped (trip_stop_time name) (row_cmp number) new strictly;
  }

  -- ---- rows that are sorted by the numbers of their trips

  then_tied : (r s rest : Ordering) → (r ≡ Equal → s ≡ Equal) → ordering_then r rest ≡ ordering_then (ordering_then r s) rest
  then_tied Less s rest same = refl
  then_tied Equal s rest same = ap (λ t. ordering_then t rest) (sym (same refl))
  then_tied Greater s rest same = refl

  as_numbers : (x y : StopTime) → IsNumbered number name x → IsNumbered number name y → kept_cmp x y ≡ lent_cmp x y
  as_numbers x y e f =
      then_tied (nat_cmp x.trip y.trip) (text_cmp (name x.trip) (name y.trip)) (ordering_then (int_cmp (pos x.stop_row.stop_sequence) (pos y.stop_row.stop_sequence)) (nat_cmp x.row y.row))
      (λ tied. ap (λ n. text_cmp (name x.trip) (name n)) (sym (nat_cmp-IsAntisymmetric x.trip y.trip tied)) ∙ tied_itself nat_list_cmp_total (name x.trip))
      ∙ (λ i. ordering_then (ordering_then (nat_cmp (sym e i) (sym f i)) (text_cmp (name x.trip) (name y.trip))) (ordering_then (int_cmp (pos x.stop_row.stop_sequence) (pos y.stop_row.stop_sequence)) (nat_cmp x.row y.row)))

  pub sorted_by_numbers : (xs : List StopTime) → AllNumbered number name xs → IsSorted kept_cmp xs → IsSorted lent_cmp xs
  sorted_by_numbers xs each sorted k d low h =
      let below : k < length xs = omega (arith, h) in
      ap is_lt (sym (as_numbers (get_or xs (k + 1) d) (get_or xs k d) (each (k + 1) d h) (each k d below))) ∙ sorted k d low h

  -- rows that ascend by their records ascend by numbers
  below_by_numbers : (x : StopTime) (ys : List StopTime) → IsNumbered number name x → AllNumbered number name ys → AllByRecursion (λ y. lent_cmp x y ≡ Less) ys → AllByRecursion (λ y. kept_cmp x y ≡ Less) ys
  below_by_numbers x [] of_x each below = below
  below_by_numbers x (y ∷ ys) of_x each below =
      (as_numbers x y of_x (each 0 y (omega arith)) ∙ below.0, below_by_numbers x ys of_x (λ k z h. each (suc k) z (omega (arith, h))) below.1)

  ascend_by_numbers : (xs : List StopTime) → AllNumbered number name xs → IsStrictlySortedBy lent_cmp xs → IsStrictlySortedBy kept_cmp xs
  unfolding IsStrictlySortedBy
  ascend_by_numbers [] each up = up
  ascend_by_numbers (x ∷ xs) each up =
      let later : AllNumbered number name xs = λ k z h. each (suc k) z (omega (arith, h)) in
      (below_by_numbers x xs (each 0 x (omega arith)) later up.0, ascend_by_numbers xs later up.1)

  pub numbered_in_order : (d : Dataset) (old new : List StopTime) → map (trip_stop_time name) old ≡ trip_stop_times_in d → AllNumbered number name old
      → IsPermutation old new → IsSorted kept_cmp new → AreInOrder d new
  numbered_in_order d old new is each swapped sorted =
      let numbered = All-permutation (IsNumbered number name) old new swapped each in
      let strictly = sorted_strictly d old new is swapped (sorted_by_numbers new numbered sorted) in
      record {
        number = number;
        name = name;
        numbered = numbered;
        order = sorted_in_order d old new is swapped strictly;
        ascending = ascend_by_numbers new numbered strictly;
      }
