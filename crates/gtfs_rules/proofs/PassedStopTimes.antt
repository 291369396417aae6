-- The stop times that were kept of a dataset that passes are its stop times: one for each row, and each before those after it.
use Rattle.std.proofs.Common.{◌≡◌, ℕ, suc, List, [], ◌∷◌, true, false, Bool, refl, sym, ap, ◌∙◌, subst, arith, codes, filter, get_or, length, map, Option, Some, inl, inr}
use Rattle.std.specs.Prelude.{◌&&◌, ◌==◌, ◌-◌, bytes_eq, is_some, nat_lt, ℤ, pos, IsPermutation}
use Rattle.std.specs.Cmp.{signed_Decides}
use Rattle.std.specs.Cmp.Lexicographic.{pointwise}
use Rattle.std.specs.FinMap.{nat_cmp-IsAntisymmetric}
use Rattle.std.specs.List.{All, AllByRecursion, list_any, range_with_len}
use Rattle.std.specs.List.Sorted.{IsStrictlySortedBy}
use Rattle.std.specs.Ordering.{int_eq, nat_cmp, ordering_then}
use Rattle.std.specs.declared.cmp.Ordering.{Ordering}
use Rattle.std.specs.declared.cmp.Ordering.TheVariants.{Less, Equal, Greater}
use Rattle.std.proofs.lemmas.Bool.{and_from, cases_Bool, eqb-true}
use Rattle.std.proofs.lemmas.List.{get_or-map, length-map}
use Rattle.std.proofs.lemmas.List.Elements.{filter_passes}
use Rattle.std.proofs.lemmas.List.Sorted.{All-permutation, IsPermutation-map}
use Rattle.gtfs_field.proofs.NumberFacts.{int_cmp-pos}
use Rattle.gtfs_table.specs.Tables.{Dataset, Records}
use Rattle.gtfs_table.specs.Rows.{is_row, records_in, rows}
use Rattle.gtfs_table.specs.declared.file.File.TheVariants as file
use Rattle.gtfs_table.proofs.RowFacts.{row_among}
use Rattle.gtfs_schema.specs.declared.code.Code.TheVariants as code
use Rattle.gtfs_schema.specs.IdNumbers.{id_numbered}
use Rattle.gtfs_schema.specs.KeyRules.{all_there, same_key}
use Rattle.gtfs_schema.specs.Problems.{Passes, kept}
use Rattle.gtfs_schema.specs.RowConditions.{amount_in, text_in, value_in, word_in}
use Rattle.gtfs_schema.specs.FieldValues.{Value, amount, if_both, value_eq, word}
use Rattle.gtfs_stop_times.specs.declared.stop_time.StopTime.{StopTime}
use Rattle.gtfs_trip_rules.specs.KeptOrder.{AreKeptOf}
use Rattle.gtfs_stop_times.specs.StopTimeOrder.{kept_cmp}
use Rattle.gtfs_trip_rules.specs.TripStopTimes.{TripStopTime, has_trip_stop_time, trip_stop_time, trip_stop_time_in, trip_stop_times_in}
use Rattle.gtfs_rules.specs.StopTimes.{AreStopTimes, SaysStopTime, stop_time_cmp}
use Rattle.gtfs_schema.proofs.EachFacts.{any_follows}
use Rattle.gtfs_schema.proofs.SiteFacts.{text_itself}
use Rattle.gtfs_schema.proofs.ValueFacts.{amount_value, word_value}
use Rattle.gtfs_rules.proofs.PassedRows.{says, sequence_there, trip_is}

-- ---- each row comes once

passing_all : (p q : ℕ → Bool) → ((n : ℕ) → q n ≡ true → p n ≡ true) → (xs : List ℕ) → filter p (filter q xs) ≡ filter q xs
passing_all p q follows [] = refl
passing_all p q follows (n ∷ xs) = elim (cases_Bool (q n)) [
  | inl here ↦ let there = follows n here in rw (here, there) (ap (λ ns. n ∷ ns) (passing_all p q follows xs))
  | inr none ↦ rw none (passing_all p q follows xs)
]

numbers_read : (d : Dataset) (ns : List ℕ) → map (λ r. r.row) (map (trip_stop_time_in d) ns) ≡ ns
numbers_read d [] = refl
numbers_read d (n ∷ ns) = ap (λ ms. n ∷ ms) (numbers_read d ns)

numbers_kept : (name : ℕ → List ℕ) (ss : List StopTime) → map (λ r. r.row) (map (trip_stop_time name) ss) ≡ map (λ s. s.row) ss
numbers_kept name [] = refl
numbers_kept name (s ∷ ss) = ap (λ ms. s.row ∷ ms) (numbers_kept name ss)

abbrev row_number : TripStopTime → ℕ
row_number r = r.row

-- ---- of two stop times the first comes before the second

less_then : (a b r : Ordering) → ordering_then a (ordering_then b r) ≡ Less → (a ≡ Equal → b ≡ Equal → r ≡ Less → Equal ≡ Less) → ordering_then a b ≡ Less
less_then Less b r less apart = refl
less_then Greater b r less apart = less
less_then Equal Less r less apart = refl
less_then Equal Greater r less apart = less
less_then Equal Equal r less apart = apart refl refl less

less_is : (a b : ℕ) → nat_cmp a b ≡ Less → nat_lt a b ≡ true
less_is a b less = elim (cases_Bool (nat_lt a b)) [
  | inl below ↦ below
  | inr other ↦ elim (cases_Bool (a == b)) [
    | inl same ↦ cc (rw (other, same) at less)
    | inr apart ↦ cc (rw (other, apart) at less)
  ]
]

-- two keys of two parts
abbrev pub have_one_key : Option Value → Option Value → Option Value → Option Value → Bool
have_one_key a b e f = if_both (all_there (a ∷ b ∷ [])) (all_there (e ∷ f ∷ [])) (pointwise value_eq)

pub one_key : (t : List ℕ) (x : ℤ) → have_one_key (Some (word t)) (Some (amount x)) (Some (word t)) (Some (amount x)) ≡ true
one_key t x = and_from (bytes_eq t t) (int_eq x x && true) (text_itself t) (and_from (int_eq x x) true ((signed_Decides x x).1 refl) refl)

module _ (d : Dataset) (passes : Passes d) where
  -- rows that stand in a dataset that passes have no key twice
  no_repeat : (m n : ℕ) → is_row (records_in d file.StopTimes) m ≡ true → is_row (records_in d file.StopTimes) n ≡ true → nat_lt m n ≡ true → same_key d file.StopTimes n m ≡ true → true ≡ false
  no_repeat m n first second below same =
      let there = any_follows (λ k. m == k) (λ k. nat_lt k n && same_key d file.StopTimes n k) (rows d file.StopTimes)
      (λ k is. subst (λ (j : ℕ). (nat_lt j n && same_key d file.StopTimes n j) ≡ true) (eqb-true m k is) (and_from (nat_lt m n) (same_key d file.StopTimes n m) below same))
      (row_among d file.StopTimes m first) in
      sym (and_from (is_row (records_in d file.StopTimes) n) (list_any (λ k. nat_lt k n && same_key d file.StopTimes n k) (rows d file.StopTimes)) second there)
      ∙ passes (record { file = kept file.StopTimes; row = n; code = code.E09; column = codes "stop_sequence" }) refl

  apart : (x y : StopTime) → SaysStopTime d x → SaysStopTime d y → kept_cmp x y ≡ Less → stop_time_cmp x y ≡ Less
  apart x y of_x of_y less =
      less_then (nat_cmp x.trip y.trip) (nat_cmp x.stop_row.stop_sequence y.stop_row.stop_sequence) (nat_cmp x.row y.row)
      (ap (λ o. ordering_then (nat_cmp x.trip y.trip) (ordering_then o (nat_cmp x.row y.row))) (sym (int_cmp-pos x.stop_row.stop_sequence y.stop_row.stop_sequence)) ∙ less)
      (λ trips sequences later. clash (nat_cmp-IsAntisymmetric x.trip y.trip trips) (nat_cmp-IsAntisymmetric x.stop_row.stop_sequence y.stop_row.stop_sequence sequences) (less_is x.row y.row later))
    where
      t : List ℕ
      t = text_in d file.StopTimes x.row (codes "trip_id")

      clash : x.trip ≡ y.trip → x.stop_row.stop_sequence ≡ y.stop_row.stop_sequence → nat_lt x.row y.row ≡ true → Equal ≡ Less
      clash trips sequences below =
          let first : word_in d file.StopTimes x.row "trip_id" ≡ Some t = trip_is d passes x.row of_x.row in
          let second : word_in d file.StopTimes y.row "trip_id" ≡ Some t =
          sym of_y.trip ∙ ap (id_numbered d file.Trips (codes "trip_id")) (sym trips) ∙ of_x.trip ∙ first in
          let at_first : amount_in d file.StopTimes x.row "stop_sequence" ≡ Some (pos x.stop_row.stop_sequence) = sym of_x.stop_sequence in
          let at_second : amount_in d file.StopTimes y.row "stop_sequence" ≡ Some (pos x.stop_row.stop_sequence) = sym of_y.stop_sequence ∙ ap (λ k. Some (pos k)) (sym sequences) in
          let same : same_key d file.StopTimes y.row x.row ≡ true =
          (λ i. have_one_key
          (word_value (value_in d file.StopTimes y.row (codes "trip_id")) t second i)
          (amount_value (value_in d file.StopTimes y.row (codes "stop_sequence")) (pos x.stop_row.stop_sequence) at_second i)
          (word_value (value_in d file.StopTimes x.row (codes "trip_id")) t first i)
          (amount_value (value_in d file.StopTimes x.row (codes "stop_sequence")) (pos x.stop_row.stop_sequence) at_first i))
          ∙ one_key t (pos x.stop_row.stop_sequence) in
          cc (no_repeat x.row y.row of_x.row of_y.row below same)

  before : (x : StopTime) (ys : List StopTime) → SaysStopTime d x → All (SaysStopTime d) ys → AllByRecursion (λ y. kept_cmp x y ≡ Less) ys → AllByRecursion (λ y. stop_time_cmp x y ≡ Less) ys
  before x [] of_x each below = below
  before x (y ∷ ys) of_x each below = (apart x y of_x (each 0 y (omega arith)) below.0, before x ys of_x (λ k z h. each (suc k) z (omega (arith, h))) below.1)

  ascend : (ss : List StopTime) → All (SaysStopTime d) ss → IsStrictlySortedBy kept_cmp ss → IsStrictlySortedBy stop_time_cmp ss
  unfolding IsStrictlySortedBy
  ascend [] each up = up
  ascend (s ∷ ss) each up =
      let later : All (SaysStopTime d) ss = λ k z h. each (suc k) z (omega (arith, h)) in
      (before s ss (each 0 s (omega arith)) later up.0, ascend ss later up.1)

  -- each row has a trip and a sequence
  all_placed : trip_stop_times_in d ≡ map (trip_stop_time_in d) (rows d file.StopTimes)
  all_placed = ap (map (trip_stop_time_in d)) (all_in (records_in d file.StopTimes) refl)
    where
      all_in : (rs : Records) → rs ≡ records_in d file.StopTimes → filter (has_trip_stop_time d) (filter (is_row rs) (range_with_len 2 (length rs - 1))) ≡ filter (is_row rs) (range_with_len 2 (length rs - 1))
      all_in rs is = passing_all (has_trip_stop_time d) (is_row rs) (λ n row.
          let here : is_row (records_in d file.StopTimes) n ≡ true = subst (λ (q : Records). is_row q n ≡ true) is row in
          and_from (is_some (word_in d file.StopTimes n "trip_id")) (is_some (amount_in d file.StopTimes n "stop_sequence"))
          (ap is_some (trip_is d passes n here)) (sequence_there d passes n here)) (range_with_len 2 (length rs - 1))

  module _ (ss : List StopTime) (are : AreKeptOf d ss) where
    each_row : IsPermutation (rows d file.StopTimes) (map (λ s. s.row) ss)
    each_row =
        let moved = IsPermutation-map row_number (trip_stop_times_in d) (map (trip_stop_time are.order.name) ss) are.order.order.moved in
        subst (λ (ns : List ℕ). IsPermutation ns (map (λ s. s.row) ss)) (ap (map row_number) all_placed ∙ numbers_read d (rows d file.StopTimes))
        (subst (λ (ns : List ℕ). IsPermutation (map row_number (trip_stop_times_in d)) ns) (numbers_kept are.order.name ss) moved)

    all_rows : All (λ n. is_row (records_in d file.StopTimes) n ≡ true) (map (λ s. s.row) ss)
    all_rows = All-permutation (λ n. is_row (records_in d file.StopTimes) n ≡ true) (rows d file.StopTimes) (map (λ s. s.row) ss) each_row
        (filter_passes (is_row (records_in d file.StopTimes)) (range_with_len 2 (length (records_in d file.StopTimes) - 1)))

    all_say : All (SaysStopTime d) ss
    all_say k s below =
        let site : get_or (map (λ z. z.row) ss) k s.row ≡ (get_or ss k s).row = get_or-map (λ (z : StopTime). z.row) ss k s s.row below in
        let here : is_row (records_in d file.StopTimes) (get_or ss k s).row ≡ true =
        subst (λ (n : ℕ). is_row (records_in d file.StopTimes) n ≡ true) site (all_rows k s.row (omega (arith, below, length-map ss (λ (z : StopTime). z.row)))) in
        says d passes (get_or ss k s) here (are.kept k s below)

    pub are_stop_times : AreStopTimes d ss
    are_stop_times = record { each_row = each_row; say = all_say; ascending = ascend ss all_say are.order.ascending }
