-- The rules about the order of a trip's rows, said of all rows that have a trip id and a sequence.
use Rattle.std.proofs.Common.{◌≡◌, ℕ, true, false, Bool, cond, List, [], ◌∷◌, map, filter, bytes_eq, Option, Some, None, option_map, Result, Ok, Err, refl, sym, ap, ◌∙◌, inl, inr}
use Rattle.std.specs.Prelude.{◌&&◌, ◌||◌, not, ℤ, pos, is_some, nat_lt, int_lt, codes, option_and_then}
use Rattle.std.specs.Cmp.Lexicographic.{pointwise}
use Rattle.std.specs.List.{list_any}
use Rattle.std.specs.Option.{unwrap_or}
use Rattle.std.specs.Ordering.{int_eq}
use Rattle.std.specs.Result.{result_ok}
use Rattle.std.proofs.lemmas.Bool.{and_from as and_both, cases_Bool}
use Rattle.std.proofs.Math.Bool.{and-false as and_none, and-true as and_so}
use Rattle.gtfs_field.specs.declared.fault.FieldFault.{FieldFault}
use Rattle.gtfs_field.specs.Kinds.{count_of, shaped}
use Rattle.gtfs_field.proofs.TestFacts.{and_exchange as across, and_later as later}
use Rattle.gtfs_field.proofs.ListFacts.{any_alike, any_mapped as any_map, any_silent}
use Rattle.gtfs_table.specs.Tables.{Dataset}
use Rattle.gtfs_table.specs.declared.file.File.TheVariants as file
use Rattle.gtfs_schema.specs.KeyRules.{all_there, key_in, same_key}
use Rattle.gtfs_table.specs.Rows.{rows, is_empty}
use Rattle.gtfs_schema.specs.RowConditions.{text_in, word_in}
use Rattle.gtfs_trip_rules.specs.TripOrder.{same_sequence, same_trip}
use Rattle.gtfs_trip_rules.specs.TripStopTimes.{TripStopTime, has_trip_stop_time, trip_stop_time_in, trip_stop_times_in}
use Rattle.gtfs_schema.specs.TripRules.{arrival_in, departure_in, goes_back, is_end_untimed, is_first_row, is_earlier_equal, is_last_row, is_timed_before, sequence_in, stands_before, timed_rows}
use Rattle.gtfs_schema.specs.FieldValues.{Value, amount, as_amount, as_word, value_of_count, has_control, if_both, if_there, is_word, value_eq, word}
use Rattle.gtfs_schema.proofs.BoolFacts.{and_parts, no_test}
use Rattle.gtfs_trip_rules.proofs.TripPositions.{is_left_late, is_timed_in, left_late}
use Rattle.gtfs_trip_rules.proofs.TripStopTimeOrder.{is_earlier_twin, is_lower, stands_first}

-- ---- tests of a list

pub any_filter : {X : Type 0} (t p : X → Bool) (xs : List X) → list_any t (filter p xs) ≡ list_any (λ x. p x && t x) xs
any_filter t p [] = refl
any_filter t p (x ∷ xs) = elim (p x) as (λ b. list_any t (cond b (x ∷ filter p xs) (filter p xs)) ≡ ((b && t x) || list_any (λ x. p x && t x) xs)) [
  | true ↦ ap (λ b. t x || b) (any_filter t p xs)
  | false ↦ any_filter t p xs
]

-- ---- tests of values that are there

both_there : (f : ℤ → ℤ → Bool) (a b : Option ℤ) → is_some a ≡ true → is_some b ≡ true → if_both a b f ≡ f (unwrap_or a (pos 0)) (unwrap_or b (pos 0))
both_there f None b e g = cc e
both_there f (Some x) None e g = cc g
both_there f (Some x) (Some y) e g = refl

both_missing : (f : ℤ → ℤ → Bool) (a b : Option ℤ) → is_some b ≡ false → if_both a b f ≡ false
both_missing f None b e = refl
both_missing f (Some x) None e = refl
both_missing f (Some x) (Some y) e = cc e

there : {X : Type 0} (o : Option X) (default : X) (p : X → Bool) → is_some o ≡ true → if_there o p ≡ p (unwrap_or o default)
there None default p e = cc e
there (Some x) default p e = refl

missing : {X : Type 0} (o : Option X) (p : X → Bool) → is_some o ≡ false → if_there o p ≡ false
missing None p e = refl
missing (Some x) p e = cc e

is_there : {X : Type 0} (o : Option X) (p : X → Bool) → if_there o p ≡ true → is_some o ≡ true
is_there None p e = e
is_there (Some x) p e = refl

word_test : (w : Option (List ℕ)) (t : List ℕ) (s : Bool) → (is_word w t && s) ≡ ((is_some w && s) && bytes_eq t (unwrap_or w []))
word_test None t s = refl
word_test (Some x) t true = and_so (bytes_eq t x)
word_test (Some x) t false = and_none (bytes_eq t x)

under_both : (h x t u : Bool) → (h ≡ true → t ≡ u) → ((h && x) && t) ≡ (h && (x && u))
under_both true true t u f = f refl
under_both true false t u f = refl
under_both false x t u f = refl

-- ---- rows by the values of their columns

module _ (W : ℕ → Option (List ℕ)) (S A D : ℕ → Option ℤ) (U : ℕ → Bool) (ms : List ℕ) where
  abbrev row : ℕ → TripStopTime
  row n = record { trip_id = unwrap_or (W n) []; sequence = unwrap_or (S n) (pos 0); row = n; arrival = A n; departure = D n; is_untimed = U n }

  abbrev has : ℕ → Bool
  has n = is_some (W n) && is_some (S n)

  abbrev all : List TripStopTime
  all = map row (filter has ms)

  abbrev of_trip : List ℕ → List ℕ
  of_trip trip = filter (λ m. is_word (W m) trip && is_some (S m)) ms

  abbrev timed_of : List ℕ → List ℕ
  timed_of trip = filter (λ m. is_some (D m)) (of_trip trip)

  abbrev less : ℕ → ℕ → Bool
  less m n = if_both (S m) (S n) int_lt

  abbrev twin : ℕ → ℕ → Bool
  twin m n = nat_lt m n && if_both (S m) (S n) int_eq

  any_of_trip : (trip : List ℕ) (t : ℕ → Bool) (u : TripStopTime → Bool) → ((m : ℕ) → has m ≡ true → t m ≡ u (row m)) → list_any t (of_trip trip) ≡ list_any (λ r. bytes_eq trip r.trip_id && u r) all
  any_of_trip trip t u alike =
      any_filter t (λ m. is_word (W m) trip && is_some (S m)) ms
      ∙ any_alike (λ m. (is_word (W m) trip && is_some (S m)) && t m) (λ m. has m && (bytes_eq trip (row m).trip_id && u (row m))) ms
      (λ m. ap (λ b. b && t m) (word_test (W m) trip (is_some (S m))) ∙ under_both (has m) (bytes_eq trip (row m).trip_id) (t m) (u (row m)) (alike m))
      ∙ sym (any_filter (λ m. bytes_eq trip (row m).trip_id && u (row m)) has ms)
      ∙ sym (any_map (λ r. bytes_eq trip r.trip_id && u r) row (filter has ms))

  any_timed : (trip : List ℕ) (t : ℕ → Bool) (u : TripStopTime → Bool) → ((m : ℕ) → has m ≡ true → t m ≡ u (row m))
      → list_any t (timed_of trip) ≡ list_any (λ r. (bytes_eq trip r.trip_id && is_some r.departure) && u r) all
  any_timed trip t u alike =
      any_filter t (λ m. is_some (D m)) (of_trip trip)
      ∙ any_of_trip trip (λ m. is_some (D m) && t m) (λ r. is_some r.departure && u r) (λ m h. ap (λ b. is_some (D m) && b) (alike m h))
      ∙ any_alike (λ r. bytes_eq trip r.trip_id && (is_some r.departure && u r)) (λ r. (bytes_eq trip r.trip_id && is_some r.departure) && u r) all (λ r. later (bytes_eq trip r.trip_id) (is_some r.departure) (u r))

  in_sequence : (n : ℕ) → has n ≡ true → is_some (S n) ≡ true
  in_sequence n h = (and_parts (is_some (W n)) (is_some (S n)) h).1

  less_row : (m n : ℕ) → has m ≡ true → has n ≡ true → less m n ≡ is_lower (row m) (row n)
  less_row m n h k = both_there int_lt (S m) (S n) (in_sequence m h) (in_sequence n k)

  twin_row : (m n : ℕ) → has m ≡ true → has n ≡ true → twin m n ≡ is_earlier_twin (row m) (row n)
  twin_row m n h k = ap (λ b. nat_lt m n && b) (both_there int_eq (S m) (S n) (in_sequence m h) (in_sequence n k))

  first_row : (m n : ℕ) → has m ≡ true → has n ≡ true → (less m n || twin m n) ≡ stands_first (row m) (row n)
  first_row m n h k = λ i. less_row m n h k i || twin_row m n h k i

  module _ (n : ℕ) (here : has n ≡ true) where
    earlier_restated : list_any (λ m. less m n || twin m n) (of_trip (row n).trip_id) ≡ list_any (λ r. same_trip (row n) r && stands_first r (row n)) all
    earlier_restated = any_of_trip (row n).trip_id (λ m. less m n || twin m n) (λ r. stands_first r (row n)) (λ m h. first_row m n h here)

    later_restated : list_any (λ m. less n m || twin m n) (of_trip (row n).trip_id) ≡ list_any (λ r. same_trip (row n) r && (is_lower (row n) r || is_earlier_twin r (row n))) all
    later_restated = any_of_trip (row n).trip_id (λ m. less n m || twin m n) (λ r. is_lower (row n) r || is_earlier_twin r (row n)) (λ m h. λ i. less_row n m here h i || twin_row m n h here i)

    late_restated : (late : ℤ → Bool)
        → list_any (λ m. ((less m n || twin m n) && not (list_any (λ k. (less m k || twin m k) && (less k n || twin k n)) (timed_of (row n).trip_id))) && if_there (D m) late) (timed_of (row n).trip_id)
        ≡ list_any (is_left_late late all (row n)) all
    late_restated late =
        any_timed (row n).trip_id (λ m. ((less m n || twin m n) && not (list_any (λ k. (less m k || twin m k) && (less k n || twin k n)) (timed_of (row n).trip_id))) && if_there (D m) late)
        (λ r. (stands_first r (row n) && not (list_any (λ k. is_timed_in (row n) k && (stands_first r k && stands_first k (row n))) all)) && left_late late r)
        (λ m h. λ i. (first_row m n h here i && not (any_timed (row n).trip_id (λ k. (less m k || twin m k) && (less k n || twin k n)) (λ k. stands_first (row m) k && stands_first k (row n))
        (λ k g. λ j. first_row m k h g j && first_row k n g here j) i)) && if_there (D m) late)

-- ---- the rules

abbrev ids : Dataset → ℕ → Option (List ℕ)
ids d n = word_in d file.StopTimes n "trip_id"

abbrev pub untimed : Dataset → ℕ → Bool
untimed d n = (trip_stop_time_in d n).is_untimed

-- the row is the first or the last one of its trip
abbrev pub at_end : List TripStopTime → TripStopTime → Bool
at_end all e = not (list_any (λ m. same_trip e m && stands_first m e) all) || not (list_any (λ m. same_trip e m && (is_lower e m || is_earlier_twin m e)) all)

abbrev pub ends_untimed : List TripStopTime → TripStopTime → Bool
ends_untimed all e = e.is_untimed && at_end all e

abbrev pub goes_back_among : List TripStopTime → TripStopTime → Bool
goes_back_among all e = if_there e.arrival (λ arrives. list_any (is_left_late (int_lt arrives) all e) all)

abbrev pub repeats_among : List TripStopTime → TripStopTime → Bool
repeats_among all e = list_any (λ m. nat_lt m.row e.row && same_sequence e m) all

module _ (d : Dataset) (n : ℕ) where
  end_there : has_trip_stop_time d n ≡ true → is_end_untimed d n ≡ ends_untimed (trip_stop_times_in d) (trip_stop_time_in d n)
  end_there here =
      let parts = and_parts (is_some (ids d n)) (is_some (sequence_in d n)) here in
      ap (λ b. (untimed d n && b) && if_there (ids d n) ends_of) parts.1
      ∙ and_first (untimed d n) (if_there (ids d n) ends_of)
      ∙ ap (λ b. untimed d n && b) (there (ids d n) [] ends_of parts.0
      ∙ (λ i. not (earlier_restated (ids d) (sequence_in d) (arrival_in d) (departure_in d) (untimed d) (rows d file.StopTimes) n here i)
      || not (later_restated (ids d) (sequence_in d) (arrival_in d) (departure_in d) (untimed d) (rows d file.StopTimes) n here i)))
    where
      ends_of : List ℕ → Bool
      ends_of trip = is_first_row d trip n || is_last_row d trip n

      and_first : (a b : Bool) → ((a && true) && b) ≡ (a && b)
      and_first true b = refl
      and_first false b = refl

  before_missing : is_some (sequence_in d n) ≡ false → (m : ℕ) → stands_before d m n ≡ false
  before_missing none m =
      ap (λ b. b || is_earlier_equal d m n) (both_missing int_lt (sequence_in d m) (sequence_in d n) none)
      ∙ ap (λ b. nat_lt m n && b) (both_missing int_eq (sequence_in d m) (sequence_in d n) none) ∙ and_none (nat_lt m n)

  abbrev back_at : List ℕ → ℤ → Bool
  back_at trip arrives = list_any (λ m. is_timed_before d trip n m && if_there (departure_in d m) (int_lt arrives)) (timed_rows d trip)

  abbrev back_in : List ℕ → Bool
  back_in trip = if_there (arrival_in d n) (back_at trip)

  back_there : has_trip_stop_time d n ≡ true → goes_back d n ≡ goes_back_among (trip_stop_times_in d) (trip_stop_time_in d n)
  back_there here =
      there (ids d n) [] back_in (and_parts (is_some (ids d n)) (is_some (sequence_in d n)) here).0
      ∙ (λ i. if_there (arrival_in d n) (λ arrives. late_restated (ids d) (sequence_in d) (arrival_in d) (departure_in d) (untimed d) (rows d file.StopTimes) n here (int_lt arrives) i))

  never : (o : Option ℤ) → if_there o (λ x. false) ≡ false
  never None = refl
  never (Some x) = refl

  back_missing : (trip : List ℕ) → is_some (sequence_in d n) ≡ false → back_in trip ≡ false
  back_missing trip none =
      (λ i. if_there (arrival_in d n) (λ arrives. any_silent (λ m. is_timed_before d trip n m && if_there (departure_in d m) (int_lt arrives)) (timed_rows d trip)
      (λ m. ap (λ b. (b && not (list_any (λ k. stands_before d m k && stands_before d k n) (timed_rows d trip))) && if_there (departure_in d m) (int_lt arrives)) (before_missing none m)) i))
      ∙ never (arrival_in d n)

  some_word : (o : Option (List ℕ)) (p : List ℕ → Bool) → ((t : List ℕ) → p t ≡ false) → if_there o p ≡ false
  some_word None p f = refl
  some_word (Some t) p f = f t

  -- ---- each rule, of any row

  pub end_restated : is_end_untimed d n ≡ (has_trip_stop_time d n && ends_untimed (trip_stop_times_in d) (trip_stop_time_in d n))
  end_restated = elim (cases_Bool (has_trip_stop_time d n)) [
    | inl here ↦ end_there here ∙ sym (ap (λ b. b && ends_untimed (trip_stop_times_in d) (trip_stop_time_in d n)) here)
    | inr none ↦
        no_test (is_end_untimed d n) (λ holds.
        let parts = and_parts ((untimed d n) && is_some (sequence_in d n)) (if_there (ids d n) ends_of) holds in
        let second = and_parts (untimed d n) (is_some (sequence_in d n)) parts.0 in
        sym none ∙ and_both (is_some (ids d n)) (is_some (sequence_in d n)) (is_there (ids d n) ends_of parts.1) second.1)
        ∙ sym (ap (λ b. b && ends_untimed (trip_stop_times_in d) (trip_stop_time_in d n)) none)
  ]
    where
      ends_of : List ℕ → Bool
      ends_of trip = is_first_row d trip n || is_last_row d trip n

  pub back_restated : goes_back d n ≡ (has_trip_stop_time d n && goes_back_among (trip_stop_times_in d) (trip_stop_time_in d n))
  back_restated = elim (cases_Bool (has_trip_stop_time d n)) [
    | inl here ↦ back_there here ∙ sym (ap (λ b. b && goes_back_among (trip_stop_times_in d) (trip_stop_time_in d n)) here)
    | inr none ↦
        no_test (goes_back d n) (λ holds.
        let named = is_there (ids d n) back_in holds in
        sym (some_word (ids d n) back_in (λ trip. back_missing trip (sym (ap (λ b. b && is_some (sequence_in d n)) named) ∙ none))) ∙ holds)
        ∙ sym (ap (λ b. b && goes_back_among (trip_stop_times_in d) (trip_stop_time_in d n)) none)
  ]

-- ---- keys

id_value : (empty clean : Bool) (t : List ℕ) → let v : Option Value = cond empty None (result_ok (shaped clean (Ok (word t)))) in v ≡ option_map word (option_and_then as_word v)
id_value true clean t = refl
id_value false true t = refl
id_value false false t = refl

count_value : (empty : Bool) (r : Result ℕ FieldFault) → let v : Option Value = cond empty None (result_ok (value_of_count r)) in v ≡ option_map amount (option_and_then as_amount v)
count_value true r = refl
count_value false (Ok x) = refl
count_value false (Err e) = refl

abbrev key_of : Option (List ℕ) → Option ℤ → Option (List Value)
key_of w z = all_there (option_map word w ∷ option_map amount z ∷ [])

key_is : (d : Dataset) (m : ℕ) → key_in d file.StopTimes m ≡ key_of (ids d m) (sequence_in d m)
key_is d m = λ i. all_there (id_value (is_empty trip) (not (has_control trip)) trip i ∷ count_value (is_empty sequence) (count_of sequence) i ∷ [])
  where
    trip : List ℕ
    trip = text_in d file.StopTimes m (codes "trip_id")

    sequence : List ℕ
    sequence = text_in d file.StopTimes m (codes "stop_sequence")

keyed : (w : Option (List ℕ)) (z : Option ℤ) (t : List ℕ) (s : ℤ)
    → if_both (key_of (Some t) (Some s)) (key_of w z) (pointwise value_eq) ≡ ((is_some w && is_some z) && (bytes_eq t (unwrap_or w []) && int_eq s (unwrap_or z (pos 0))))
keyed None z t s = refl
keyed (Some x) None t s = refl
keyed (Some x) (Some y) t s = ap (λ b. bytes_eq t x && b) (and_so (int_eq s y))

some_is : {X : Type 0} (o : Option X) (default : X) → is_some o ≡ true → o ≡ Some (unwrap_or o default)
some_is None default e = cc e
some_is (Some x) default e = refl

no_key : (w : Option (List ℕ)) (z : Option ℤ) (o : Option (List Value)) → (is_some w && is_some z) ≡ false → if_both (key_of w z) o (pointwise value_eq) ≡ false
no_key None z o e = refl
no_key (Some x) None o e = refl
no_key (Some x) (Some y) o e = cc e

module _ (d : Dataset) (n : ℕ) where
  -- an earlier row has the key of the row
  abbrev pub key_before : Bool
  key_before = list_any (λ m. nat_lt m n && same_key d file.StopTimes n m) (rows d file.StopTimes)

  keys_are : (m : ℕ) → same_key d file.StopTimes n m ≡ if_both (key_of (ids d n) (sequence_in d n)) (key_of (ids d m) (sequence_in d m)) (pointwise value_eq)
  keys_are m = λ i. if_both (key_is d n i) (key_is d m i) (pointwise value_eq)

  same_key_row : has_trip_stop_time d n ≡ true → (m : ℕ) → same_key d file.StopTimes n m ≡ (has_trip_stop_time d m && same_sequence (trip_stop_time_in d n) (trip_stop_time_in d m))
  same_key_row here m =
      let parts = and_parts (is_some (ids d n)) (is_some (sequence_in d n)) here in
      keys_are m
      ∙ (λ i. if_both (key_of (some_is (ids d n) [] parts.0 i) (some_is (sequence_in d n) (pos 0) parts.1 i)) (key_of (ids d m) (sequence_in d m)) (pointwise value_eq))
      ∙ keyed (ids d m) (sequence_in d m) (trip_stop_time_in d n).trip_id (trip_stop_time_in d n).sequence

  key_there : has_trip_stop_time d n ≡ true → key_before ≡ repeats_among (trip_stop_times_in d) (trip_stop_time_in d n)
  key_there here =
      any_alike (λ m. nat_lt m n && same_key d file.StopTimes n m) (λ m. has_trip_stop_time d m && (nat_lt m n && same_sequence (trip_stop_time_in d n) (trip_stop_time_in d m))) (rows d file.StopTimes)
      (λ m. ap (λ b. nat_lt m n && b) (same_key_row here m) ∙ across (nat_lt m n) (has_trip_stop_time d m) (same_sequence (trip_stop_time_in d n) (trip_stop_time_in d m)))
      ∙ sym (any_filter (λ m. nat_lt m n && same_sequence (trip_stop_time_in d n) (trip_stop_time_in d m)) (has_trip_stop_time d) (rows d file.StopTimes))
      ∙ sym (any_map (λ r. nat_lt r.row n && same_sequence (trip_stop_time_in d n) r) (trip_stop_time_in d) (filter (has_trip_stop_time d) (rows d file.StopTimes)))

  pub key_restated : key_before ≡ (has_trip_stop_time d n && repeats_among (trip_stop_times_in d) (trip_stop_time_in d n))
  key_restated = elim (cases_Bool (has_trip_stop_time d n)) [
    | inl here ↦ key_there here ∙ sym (ap (λ b. b && repeats_among (trip_stop_times_in d) (trip_stop_time_in d n)) here)
    | inr none ↦
        any_silent (λ m. nat_lt m n && same_key d file.StopTimes n m) (rows d file.StopTimes)
        (λ m. ap (λ b. nat_lt m n && b) (keys_are m ∙ no_key (ids d n) (sequence_in d n) (key_of (ids d m) (sequence_in d m)) none) ∙ and_none (nat_lt m n))
        ∙ sym (ap (λ b. b && repeats_among (trip_stop_times_in d) (trip_stop_time_in d n)) none)
  ]
