-- The stop times of a trip of a dataset that passes: E09, E16 and E17.
use Rattle.std.proofs.Common.{◌≡◌, ◌+◌, ◌<◌, ◌≤◌, ◌∙◌, ℕ, zero, suc, List, [], ◌∷◌, true, false, Bool, Option, Some, None, refl, sym, ap, inl, inr, arith}
use Rattle.std.specs.Prelude.{◌&&◌, ◌||◌, not, bytes_eq, codes, nat_lt, is_some, option_map, pos, int_lt}
use Prim.Native.String.{String as Literal}
use Rattle.std.specs.Cmp.Lexicographic.{pointwise}
use Rattle.std.specs.List.{Contains, list_any}
use Rattle.std.specs.Option.{option_or}
use Rattle.std.specs.Ordering.{int_eq}
use Rattle.std.proofs.lemmas.Bool.{and_parts, and_from, or_left, or_right, or_cases, or_parts, cases_Bool, ltb-true, ltb-false, lt-ltb, not_from_false, true≢false}
use Rattle.std.proofs.lemmas.Bool.Decides.{Decides-int_eq, nat_tests}
use Rattle.gtfs_table.specs.Rows.{is_row, records_in, rows}
use Rattle.gtfs_table.specs.Tables.{Dataset}
use Rattle.gtfs_table.specs.declared.file.File.TheVariants as file
use Rattle.gtfs_schema.specs.declared.code.Code.TheVariants as code
use Rattle.gtfs_schema.specs.Columns.{count, time, column_named, optional}
use Rattle.gtfs_schema.specs.KeyRules.{all_there, key_in, same_key}
use Rattle.gtfs_schema.specs.Problems.{Passes}
use Rattle.gtfs_schema.specs.RowConditions.{value_in, amount_in, is_readable_in, is_empty_in}
use Rattle.gtfs_schema.specs.TripRules.{sequence_in, is_row_of, rows_of_trip, is_less, is_earlier_equal, stands_before, leaves_early, is_clear, arrival_in, departure_in, timed_rows, is_timed_before, goes_back}
use Rattle.gtfs_schema.specs.FieldValues.{word, value_eq, if_there, if_both, is_word}
use Rattle.gtfs_schema.proofs.SiteFacts.{text_itself}
use Rattle.gtfs_schema.proofs.ValueFacts.{word_value}
use Rattle.gtfs_rows.specs.ContentRead.{number_in, number_at, stop_row_in}
use Rattle.gtfs_rows.specs.RowCells.{value_of_number}
use Rattle.gtfs_rows.specs.SoundContent.{comes, leaves, keeps_time}
use Rattle.gtfs_rows.proofs.ContentRows.{NamesTrip, names_word}
use Rattle.gtfs_rows.proofs.PassedReferences.{after, no_error}
use Rattle.gtfs_rows.proofs.PassedValues.{number_is, number_value, number_if_there, there_if_filled}
use Rattle.gtfs_rows.proofs.SameElements.{contains-none, contains-first, contains-later, contains-cases, contains-filter, contains-from_filter}
use Rattle.gtfs_rows.proofs.TripCodes.{both_numbers, or_numbers, if_clear}

-- ---- tests of lists

-- the element that passes
pub record Passing {X : Type 0} (p : X → Bool) (xs : List X) : Type 0 where
  pub element : X
  pub among : Contains xs element
  pub passes : p element ≡ true

pub some_passes : {X : Type 0} (p : X → Bool) (xs : List X) → list_any p xs ≡ true → Passing p xs
some_passes p [] h = cc
some_passes p (x ∷ xs) h = elim (or_cases (p x) (list_any p xs) h) [
  | inl here ↦ record { element = x; among = contains-first x x xs refl; passes = here }
  | inr later ↦ let rest = some_passes p xs later in record { element = rest.element; among = contains-later rest.element x xs rest.among; passes = rest.passes }
]

pub none_passes : {X : Type 0} (p : X → Bool) (xs : List X) (x : X) → list_any p xs ≡ false → Contains xs x → p x ≡ false
none_passes p [] x none at = absurd (contains-none x at)
none_passes p (y ∷ xs) x none at =
    let parts = or_parts (p y) (list_any p xs) none in
    elim (contains-cases x y xs at) [
      | inl same ↦ sym (ap p same) ∙ parts.0
      | inr later ↦ none_passes p xs x parts.1 later
    ]

one_of_two : (a b : Bool) → a ≡ not b → (a || b) ≡ true
one_of_two a true e = or_right a true refl
one_of_two a false e = or_left a false e

-- ---- times of a row

-- no later than it leaves
in_order : (arrival departure : Option ℕ) (a l : ℕ) → if_both departure arrival nat_lt ≡ false → option_or arrival departure ≡ Some a → option_or departure arrival ≡ Some l → a ≤ l
in_order None None a l e p q = cc
in_order None (Some n) a l e p q = let same : a ≡ l = cc in omega (arith, same)
in_order (Some m) None a l e p q = let same : a ≡ l = cc in omega (arith, same)
in_order (Some m) (Some n) a l e p q =
    let first : m ≡ a = cc in
    let last : n ≡ l = cc in
    let kept = ltb-false n m e in
    omega (arith, first, last, kept)

some_or : (o u : Option ℕ) → is_some (option_or o u) ≡ is_some (option_or u o)
some_or None None = refl
some_or None (Some n) = refl
some_or (Some m) None = refl
some_or (Some m) (Some n) = refl

pub some_mapped : (o : Option ℕ) → is_some (option_map pos o) ≡ is_some o
some_mapped None = refl
some_mapped (Some n) = refl

some_value : (o : Option ℕ) → is_some o ≡ true → (n : ℕ) × (o ≡ Some n)
some_value None e = cc
some_value (Some n) e = (n, refl)

module _ (d : Dataset) (passes : Passes d) where
  abbrev pub sequence : ℕ → ℕ
  sequence m = number_at d file.StopTimes m "stop_sequence"

  module _ (m : ℕ) (row : is_row (records_in d file.StopTimes) m ≡ true) where
    pub sequence_is : sequence_in d m ≡ Some (pos (number_at d file.StopTimes m "stop_sequence"))
    sequence_is = number_is d passes file.StopTimes m row "stop_sequence" count refl refl

    arrival_is : amount_in d file.StopTimes m "arrival_time" ≡ option_map pos (number_in d file.StopTimes m "arrival_time")
    arrival_is = number_if_there d passes file.StopTimes m row "arrival_time" time refl refl

    departure_is : amount_in d file.StopTimes m "departure_time" ≡ option_map pos (number_in d file.StopTimes m "departure_time")
    departure_is = number_if_there d passes file.StopTimes m row "departure_time" time refl refl

    clear : (name : Literal) → column_named file.StopTimes (codes name) ≡ Some (optional name time) → is_clear d m name ≡ true
    clear name there = one_of_two (is_readable_in d file.StopTimes m name) (is_empty_in d file.StopTimes m name) (there_if_filled d passes file.StopTimes m row name time there)

    pub arrives : arrival_in d m ≡ option_map pos (comes (stop_row_in d m))
    arrives =
        if_clear _ _ _ (clear "arrival_time" refl) (clear "departure_time" refl)
        ∙ (λ i. option_or (arrival_is i) (departure_is i))
        ∙ or_numbers (number_in d file.StopTimes m "arrival_time") (number_in d file.StopTimes m "departure_time")

    pub departs : departure_in d m ≡ option_map pos (leaves (stop_row_in d m))
    departs =
        if_clear _ _ _ (clear "departure_time" refl) (clear "arrival_time" refl)
        ∙ (λ i. option_or (departure_is i) (arrival_is i))
        ∙ or_numbers (number_in d file.StopTimes m "departure_time") (number_in d file.StopTimes m "arrival_time")

    -- E16
    pub not_early : if_both (number_in d file.StopTimes m "departure_time") (number_in d file.StopTimes m "arrival_time") nat_lt ≡ false
    not_early =
        sym (both_numbers (number_in d file.StopTimes m "departure_time") (number_in d file.StopTimes m "arrival_time"))
        ∙ sym (λ i. if_both (departure_is i) (arrival_is i) int_lt)
        ∙ after (is_row (records_in d file.StopTimes) m) (leaves_early d m) row (no_error d passes code.E16 file.StopTimes m (codes "departure_time") refl)

  -- ---- the rows of a trip

  module _ (q : List ℕ) where
    pub of_trip : (m : ℕ) → Contains (rows_of_trip d q) m → NamesTrip d file.StopTimes q m
    of_trip m at =
        let from = contains-from_filter (λ k. is_row_of d q k && is_some (sequence_in d k)) (rows d file.StopTimes) m at in
        names_word d file.StopTimes q m from.0 (and_parts (is_row_of d q m) (is_some (sequence_in d m)) from.1).0

    pub in_trip : (m : ℕ) → NamesTrip d file.StopTimes q m → Contains (rows_of_trip d q) m
    in_trip m is =
        contains-filter (λ k. is_row_of d q k && is_some (sequence_in d k)) (rows d file.StopTimes) m
        (and_from (is_row_of d q m) (is_some (sequence_in d m)) (ap (λ o. is_word o q) is.named ∙ text_itself q) (ap (λ o. is_some o) (sequence_is m is.row))) is.among

    -- E09: no two rows have one sequence
    key_is : (m : ℕ) → NamesTrip d file.StopTimes q m → key_in d file.StopTimes m ≡ Some (word q ∷ value_of_number (number_at d file.StopTimes m "stop_sequence") ∷ [])
    key_is m is = λ i. all_there (word_value (value_in d file.StopTimes m (codes "trip_id")) q is.named i ∷ sequence_value i ∷ [])
      where
        sequence_value : value_in d file.StopTimes m (codes "stop_sequence") ≡ Some (value_of_number (number_at d file.StopTimes m "stop_sequence"))
        sequence_value = number_value d passes file.StopTimes m is.row "stop_sequence" count refl refl

    different : (m n : ℕ) → NamesTrip d file.StopTimes q m → NamesTrip d file.StopTimes q n → nat_lt m n ≡ true → int_eq (pos (number_at d file.StopTimes n "stop_sequence")) (pos (number_at d file.StopTimes m "stop_sequence")) ≡ false
    different m n is of before =
        let twice : list_any (λ k. nat_lt k n && same_key d file.StopTimes n k) (rows d file.StopTimes) ≡ false = after (is_row (records_in d file.StopTimes) n) _ of.row (no_error d passes code.E09 file.StopTimes n (codes "stop_sequence") refl) in
        let none : same_key d file.StopTimes n m ≡ false = after (nat_lt m n) (same_key d file.StopTimes n m) before (none_passes (λ k. nat_lt k n && same_key d file.StopTimes n k) (rows d file.StopTimes) m twice is.among) in
        let keys : (bytes_eq q q && (int_eq (pos (number_at d file.StopTimes n "stop_sequence")) (pos (number_at d file.StopTimes m "stop_sequence")) && true)) ≡ false = sym (λ i. if_both (key_is n of i) (key_is m is i) (pointwise value_eq)) ∙ none in
        last _ (after (bytes_eq q q) _ (text_itself q) keys)
      where
        last : (b : Bool) → (b && true) ≡ false → b ≡ false
        last true e = e
        last false e = refl

    less_is : (m n : ℕ) → NamesTrip d file.StopTimes q m → NamesTrip d file.StopTimes q n → is_less d m n ≡ nat_lt (number_at d file.StopTimes m "stop_sequence") (number_at d file.StopTimes n "stop_sequence")
    less_is m n is of = λ i. if_both (sequence_is m is.row i) (sequence_is n of.row i) int_lt

    pub not_equal : (m n : ℕ) → NamesTrip d file.StopTimes q m → NamesTrip d file.StopTimes q n → is_earlier_equal d m n ≡ true → ⊥
    not_equal m n is of equal =
        let parts = and_parts (nat_lt m n) (if_both (sequence_in d m) (sequence_in d n) int_eq) equal in
        let same : int_eq (pos (number_at d file.StopTimes m "stop_sequence")) (pos (number_at d file.StopTimes n "stop_sequence")) ≡ true = sym (λ i. if_both (sequence_is m is.row i) (sequence_is n of.row i) int_eq) ∙ parts.1 in
        let one = (Decides-int_eq (pos (number_at d file.StopTimes m "stop_sequence")) (pos (number_at d file.StopTimes n "stop_sequence"))).0 same in
        let turned = (Decides-int_eq (pos (number_at d file.StopTimes n "stop_sequence")) (pos (number_at d file.StopTimes m "stop_sequence"))).1 (sym one) in
        true≢false (sym turned ∙ different m n is of parts.0)

    pub before_is : (m n : ℕ) → NamesTrip d file.StopTimes q m → NamesTrip d file.StopTimes q n → stands_before d m n ≡ true → nat_lt (number_at d file.StopTimes m "stop_sequence") (number_at d file.StopTimes n "stop_sequence") ≡ true
    before_is m n is of before = elim (or_cases (is_less d m n) (is_earlier_equal d m n) before) [
      | inl less ↦ sym (less_is m n is of) ∙ less
      | inr equal ↦ absurd (not_equal m n is of equal)
    ]

    pub after_is : (m n : ℕ) → NamesTrip d file.StopTimes q m → NamesTrip d file.StopTimes q n → (is_less d m n || is_earlier_equal d n m) ≡ true → nat_lt (number_at d file.StopTimes m "stop_sequence") (number_at d file.StopTimes n "stop_sequence") ≡ true
    after_is m n is of later = elim (or_cases (is_less d m n) (is_earlier_equal d n m) later) [
      | inl less ↦ sym (less_is m n is of) ∙ less
      | inr equal ↦ absurd (not_equal n m of is equal)
    ]

    -- ---- E17: neighbours, and so all pairs

    timed : (m : ℕ) (l : ℕ) → NamesTrip d file.StopTimes q m → leaves (stop_row_in d m) ≡ Some l → Contains (timed_rows d q) m
    timed m l is leaves_at =
        contains-filter (λ k. is_some (departure_in d k)) (rows_of_trip d q) m (ap (λ o. is_some o) (departs m is.row ∙ ap (option_map pos) leaves_at)) (in_trip m is)

    -- a timed row between
    record IsBetween (m n : ℕ) : Type 0 where
      row : ℕ
      is : NamesTrip d file.StopTimes q row
      arrival : ℕ
      departure : ℕ
      comes_at : comes (stop_row_in d row) ≡ Some arrival
      leaves_at : leaves (stop_row_in d row) ≡ Some departure
      stays : arrival ≤ departure
      later : number_at d file.StopTimes m "stop_sequence" < number_at d file.StopTimes row "stop_sequence"
      earlier : number_at d file.StopTimes row "stop_sequence" < number_at d file.StopTimes n "stop_sequence"

    between : (m n : ℕ) → NamesTrip d file.StopTimes q m → NamesTrip d file.StopTimes q n → list_any (λ k. stands_before d m k && stands_before d k n) (timed_rows d q) ≡ true → IsBetween m n
    between m n is of some =
        let k = some_passes (λ k. stands_before d m k && stands_before d k n) (timed_rows d q) some in
        let from = contains-from_filter (λ j. is_some (departure_in d j)) (rows_of_trip d q) k.element k.among in
        let names = of_trip k.element from.0 in
        let order = and_parts (stands_before d m k.element) (stands_before d k.element n) k.passes in
        let a = number_in d file.StopTimes k.element "arrival_time" in
        let b = number_in d file.StopTimes k.element "departure_time" in
        let gone : is_some (leaves (stop_row_in d k.element)) ≡ true = sym (some_mapped (leaves (stop_row_in d k.element))) ∙ sym (ap (λ o. is_some o) (departs k.element names.row)) ∙ from.1 in
        let l = some_value (leaves (stop_row_in d k.element)) gone in
        let c = some_value (comes (stop_row_in d k.element)) (some_or a b ∙ gone) in
        record {
          row = k.element;
          is = names;
          arrival = c.0;
          departure = l.0;
          comes_at = c.1;
          leaves_at = l.1;
          stays = in_order a b c.0 l.0 (not_early k.element names.row) c.1 l.1;
          later = ltb-true _ _ (before_is m k.element is names order.0);
          earlier = ltb-true _ _ (before_is k.element n names of order.1);
        }

    -- what E17 says of a row and the timed row before it
    next_in_time : (m n a l : ℕ) → NamesTrip d file.StopTimes q m → NamesTrip d file.StopTimes q n → comes (stop_row_in d n) ≡ Some a → leaves (stop_row_in d m) ≡ Some l
        → number_at d file.StopTimes m "stop_sequence" < number_at d file.StopTimes n "stop_sequence"
        → list_any (λ k. stands_before d m k && stands_before d k n) (timed_rows d q) ≡ false → nat_lt a l ≡ false
    next_in_time m n a l is of comes_at leaves_at less none =
        let told : goes_back d n ≡ false = after (is_row (records_in d file.StopTimes) n) (goes_back d n) of.row (no_error d passes code.E17 file.StopTimes n (codes "arrival_time") refl) in
        let arrival : arrival_in d n ≡ Some (pos a) = arrives n of.row ∙ ap (option_map pos) comes_at in
        let departure : departure_in d m ≡ Some (pos l) = departs m is.row ∙ ap (option_map pos) leaves_at in
        let all : list_any (λ k. is_timed_before d q n k && if_there (departure_in d k) (int_lt (pos a))) (timed_rows d q) ≡ false =
        sym (λ i. if_both (of.named i) (arrival i) (λ trip comes. list_any (λ k. is_timed_before d trip n k && if_there (departure_in d k) (int_lt comes)) (timed_rows d trip))) ∙ told in
        let one = none_passes (λ k. is_timed_before d q n k && if_there (departure_in d k) (int_lt (pos a))) (timed_rows d q) m all (timed m l is leaves_at) in
        let stands : stands_before d m n ≡ true = or_left (is_less d m n) (is_earlier_equal d m n) (less_is m n is of ∙ lt-ltb _ _ less) in
        sym (ap (λ o. if_there o (int_lt (pos a))) departure) ∙ after (is_timed_before d q n m) (if_there (departure_in d m) (int_lt (pos a))) (and_from _ _ stands (not_from_false _ none)) one

    in_time : (fuel m n a l : ℕ) → NamesTrip d file.StopTimes q m → NamesTrip d file.StopTimes q n → comes (stop_row_in d n) ≡ Some a → leaves (stop_row_in d m) ≡ Some l
        → number_at d file.StopTimes m "stop_sequence" < number_at d file.StopTimes n "stop_sequence"
        → number_at d file.StopTimes n "stop_sequence" ≤ fuel + number_at d file.StopTimes m "stop_sequence" → l ≤ a
    in_time zero m n a l is of comes_at leaves_at less near = absurd (omega (arith, less, near))
    in_time (suc fuel) m n a l is of comes_at leaves_at less near = elim (cases_Bool (list_any (λ k. stands_before d m k && stands_before d k n) (timed_rows d q))) [
      | inr none ↦ ltb-false a l (next_in_time m n a l is of comes_at leaves_at less none)
      | inl some ↦
          let k = between m n is of some in
          let first = in_time fuel m k.row k.arrival l is k.is k.comes_at leaves_at k.later (omega (arith, near, k.earlier)) in
          let second = in_time fuel k.row n a k.departure k.is of comes_at k.leaves_at k.earlier (omega (arith, near, k.later)) in
          omega (arith, first, second, k.stays)
    ]

    kept_in_time : (m n : ℕ) → NamesTrip d file.StopTimes q m → NamesTrip d file.StopTimes q n → number_at d file.StopTimes m "stop_sequence" < number_at d file.StopTimes n "stop_sequence"
        → (c l : Option ℕ) → comes (stop_row_in d n) ≡ c → leaves (stop_row_in d m) ≡ l → if_both c l nat_lt ≡ false
    kept_in_time m n is of less None l comes_at leaves_at = refl
    kept_in_time m n is of less (Some a) None comes_at leaves_at = refl
    kept_in_time m n is of less (Some a) (Some l) comes_at leaves_at =
        not_below a l (in_time (number_at d file.StopTimes n "stop_sequence") m n a l is of comes_at leaves_at less (omega arith))
      where
        not_below : (a l : ℕ) → l ≤ a → nat_lt a l ≡ false
        not_below a l h = grind (arith, nat_tests)

    pub times_kept : (m n : ℕ) → NamesTrip d file.StopTimes q m → NamesTrip d file.StopTimes q n → keeps_time (stop_row_in d m) (stop_row_in d n) ≡ true
    times_kept m n is of = elim (cases_Bool (nat_lt (number_at d file.StopTimes m "stop_sequence") (number_at d file.StopTimes n "stop_sequence"))) [
      | inr other ↦ or_left _ _ (not_from_false _ other)
      | inl less ↦ or_right _ _ (not_from_false _ (kept_in_time m n is of (ltb-true _ _ less) (comes (stop_row_in d n)) (leaves (stop_row_in d m)) refl refl))
    ]
