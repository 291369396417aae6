-- What the rules ask of all rows, read off the rows next to a row.
use Rattle.std.proofs.Common.{◌≡◌, ℕ, true, false, Bool, cond, List, [], ◌∷◌, Option, Some, None, refl, sym, ap, ◌∙◌, inl, inr}
use Rattle.std.specs.Prelude.{◌&&◌, ◌||◌, not, ℤ, is_some, nat_lt}
use Rattle.std.specs.List.{AllByRecursion, find, list_any}
use Rattle.std.specs.Ordering.{int_eq, is_lt}
use Rattle.std.specs.declared.cmp.Ordering.TheVariants.{Less}
use Rattle.std.specs.Option.{option_or}
use Rattle.std.proofs.lemmas.Bool.{cases_Bool}
use Rattle.gtfs_field.proofs.ListFacts.{any_alike}
use Rattle.gtfs_trip_rules.specs.TripOrder.{ends, follows, last_left, left_before, repeats, row_cmp, same_sequence, same_trip}
use Rattle.gtfs_trip_rules.specs.TripStopTimes.{TripStopTime}
use Rattle.gtfs_schema.specs.FieldValues.{if_there}
use Rattle.gtfs_schema.proofs.BoolFacts.{no_test}
use Rattle.gtfs_trip_rules.proofs.SplitLists.{IsAscending, IsDescending, IsSplit, any_none, any_or, far_before, first_is, last_split, near_split, not_back, not_itself, only_after, onto}
use Rattle.gtfs_trip_rules.proofs.TripStopTimeOrder.{higher_alike, is_earlier_twin, is_higher_in_trip, is_lower, later_or_twin, next_higher, not_higher, sequence_before, row_total, stands_as_order, stands_first, stands_in_trip, trip_after, trip_before, trip_itself, trips_alike, twins_as_order}

-- ---- the rows before

first_follows : (number : List ℕ → ℕ) (e : TripStopTime) (before : List TripStopTime) → first_is (row_cmp number) (row_total number) (same_trip e) before ≡ follows before e
first_follows number e [] = refl
first_follows number e (b ∷ before) = refl

first_repeats : (number : List ℕ → ℕ) (e : TripStopTime) (before : List TripStopTime) → first_is (row_cmp number) (row_total number) (same_sequence e) before ≡ repeats before e
first_repeats number e [] = refl
first_repeats number e (b ∷ before) = refl

module _ (number : List ℕ → ℕ) (before : List TripStopTime) (e : TripStopTime) (after : List TripStopTime) (split : IsSplit (row_cmp number) before e after) where
  -- an earlier row of the trip
  pub earlier_row : list_any (λ m. same_trip e m && stands_first m e) (onto before (e ∷ after)) ≡ follows before e
  earlier_row =
      any_alike (λ m. same_trip e m && stands_first m e) (λ m. same_trip e m && is_lt (row_cmp number m e)) (onto before (e ∷ after)) (stands_as_order number e)
      ∙ near_split (row_cmp number) (row_total number) e (same_trip e) (trip_before number e) before after split
      ∙ first_follows number e before

  twins : list_any (λ m. same_sequence e m && is_lt (row_cmp number m e)) (onto before (e ∷ after)) ≡ repeats before e
  twins = near_split (row_cmp number) (row_total number) e (same_sequence e) (sequence_before number e) before after split ∙ first_repeats number e before

  -- an earlier row of the same trip and sequence
  pub earlier_twin : list_any (λ m. nat_lt m.row e.row && same_sequence e m) (onto before (e ∷ after)) ≡ repeats before e
  earlier_twin = any_alike (λ m. nat_lt m.row e.row && same_sequence e m) (λ m. same_sequence e m && is_lt (row_cmp number m e)) (onto before (e ∷ after)) (twins_as_order number e) ∙ twins

-- ---- the rows after

higher_after : (number : List ℕ → ℕ) (e : TripStopTime) (after : List TripStopTime) → AllByRecursion (λ a. row_cmp number e a ≡ Less) after → IsAscending (row_cmp number) after → list_any (is_higher_in_trip e) after ≡ not (ends (e ∷ after))
higher_after number e [] above ascends = refl
higher_after number e (a ∷ after) above ascends = elim (cases_Bool (same_trip e a)) [
  | inl same ↦ elim (cases_Bool (int_eq e.sequence a.sequence)) [
    | inl tied ↦
        ap (λ p. list_any p (a ∷ after)) (higher_alike e a same tied)
        ∙ ap (λ b. b || list_any (is_higher_in_trip a) after) (not_higher number a a (not_itself (row_cmp number) (row_total number) a))
        ∙ higher_after number a after ascends.0 ascends.1
        ∙ ap not (sym (ap (λ t. not t || (int_eq e.sequence a.sequence && ends (a ∷ after))) same ∙ ap (λ t. t && ends (a ∷ after)) tied))
    | inr other ↦
        ap (λ b. b || list_any (is_higher_in_trip e) after) (next_higher number e a above.0 same other)
        ∙ ap not (sym (ap (λ t. not t || (int_eq e.sequence a.sequence && ends (a ∷ after))) same ∙ ap (λ t. t && ends (a ∷ after)) other))
  ]
  | inr apart ↦
      ap (λ b. (b && is_lower e a) || list_any (is_higher_in_trip e) after) apart
      ∙ any_none (λ m. row_cmp number a m ≡ Less) (is_higher_in_trip e) after (λ m later. ap (λ t. t && is_lower e m) (no_test (same_trip e m) (λ same. sym apart ∙ trip_after number e a m above.0 later same))) ascends.0
      ∙ ap not (sym (ap (λ t. not t || (int_eq e.sequence a.sequence && ends (a ∷ after))) apart))
]

module _ (number : List ℕ → ℕ) (before : List TripStopTime) (e : TripStopTime) (after : List TripStopTime) (split : IsSplit (row_cmp number) before e after) where
  higher : list_any (is_higher_in_trip e) (onto before (e ∷ after)) ≡ not (ends (e ∷ after))
  higher =
      only_after (row_cmp number) (is_higher_in_trip e) before e after (not_higher number e e (not_itself (row_cmp number) (row_total number) e))
      (any_none (λ b. row_cmp number b e ≡ Less) (is_higher_in_trip e) before (λ b below. not_higher number e b (not_back (row_cmp number) (row_total number) b e below)) split.below)
      ∙ higher_after number e after split.above split.ascends

  -- a later row of the trip, or an earlier one of the same sequence
  pub later_row : list_any (λ m. same_trip e m && (is_lower e m || is_earlier_twin m e)) (onto before (e ∷ after)) ≡ (repeats before e || not (ends (e ∷ after)))
  later_row =
      any_alike (λ m. same_trip e m && (is_lower e m || is_earlier_twin m e)) (λ m. (same_sequence e m && is_lt (row_cmp number m e)) || is_higher_in_trip e m) (onto before (e ∷ after)) (later_or_twin number e)
      ∙ any_or (λ m. same_sequence e m && is_lt (row_cmp number m e)) (is_higher_in_trip e) (onto before (e ∷ after))
      ∙ (λ i. twins number before e after split i || higher i)

-- ---- the last row before that has a time

abbrev pub is_timed_in : TripStopTime → TripStopTime → Bool
is_timed_in e m = same_trip e m && is_some m.departure

module _ (late : ℤ → Bool) where
  abbrev pub left_late : TripStopTime → Bool
  left_late m = if_there m.departure late

  none_found : (e : TripStopTime) (before : List TripStopTime) → list_any (same_trip e) before ≡ false → find (is_timed_in e) before ≡ None
  none_found e [] none = refl
  none_found e (b ∷ before) none = elim (cases_Bool (same_trip e b)) [
    | inl same ↦ let clash : true ≡ false = sym (ap (λ t. t || list_any (same_trip e) before) same) ∙ none in cc
    | inr apart ↦
        ap (λ t. cond (t && is_some b.departure) (Some b) (find (is_timed_in e) before)) apart
        ∙ none_found e before (sym (ap (λ t. t || list_any (same_trip e) before) apart) ∙ none)
  ]

  found_left : (e b : TripStopTime) (before : List TripStopTime) (left : Option ℤ) → b.departure ≡ left → if_there (find (is_timed_in b) before) left_late ≡ if_there (left_before before b) late
      → if_there (cond (is_some left) (Some b) (find (is_timed_in b) before)) left_late ≡ if_there (option_or left (left_before before b)) late
  found_left e b before None is rest = rest
  found_left e b before (Some x) is rest = ap (λ left. if_there left late) is

  last_timed : (number : List ℕ → ℕ) (e : TripStopTime) (before : List TripStopTime) → AllByRecursion (λ b. row_cmp number b e ≡ Less) before → IsDescending (row_cmp number) before → if_there (find (is_timed_in e) before) left_late ≡ if_there (left_before before e) late
  last_timed number e [] below descends = refl
  last_timed number e (b ∷ before) below descends = elim (cases_Bool (same_trip e b)) [
    | inl same ↦
        ap (λ t. if_there (cond (t && is_some b.departure) (Some b) (find (is_timed_in e) before)) left_late) same
        ∙ ap (λ trip. if_there (cond (is_some b.departure) (Some b) (find (λ m. trip m && is_some m.departure) before)) left_late) (trips_alike e b same)
        ∙ found_left e b before b.departure refl (last_timed number b before descends.0 descends.1)
        ∙ sym (ap (λ t. if_there (cond t (last_left (b ∷ before)) None) late) same)
    | inr apart ↦
        ap (λ t. if_there (cond (t && is_some b.departure) (Some b) (find (is_timed_in e) before)) left_late) apart
        ∙ ap (λ found. if_there found left_late) (none_found e before (far_before (row_cmp number) (row_total number) e (same_trip e) (trip_before number e) b before below.0 descends.0 apart))
        ∙ sym (ap (λ t. if_there (cond t (last_left (b ∷ before)) None) late) apart)
  ]

  between_alike : (number : List ℕ → ℕ) (e m k : TripStopTime) → same_trip e m ≡ true → (is_timed_in e k && (stands_first m k && stands_first k e)) ≡ (is_timed_in e k && (is_lt (row_cmp number m k) && is_lt (row_cmp number k e)))
  between_alike number e m k same = elim (cases_Bool (same_trip e k)) [
    | inl here ↦ (λ i. is_timed_in e k && (stands_in_trip number e m k same here i && stands_in_trip number e k e here (trip_itself e) i))
    | inr apart ↦
        ap (λ t. (t && is_some k.departure) && (stands_first m k && stands_first k e)) apart
        ∙ sym (ap (λ t. (t && is_some k.departure) && (is_lt (row_cmp number m k) && is_lt (row_cmp number k e))) apart)
  ]

  module _ (rows : List TripStopTime) (e : TripStopTime) where
    -- m is the last row of e's trip before e that has a time, and it is left late
    abbrev pub is_left_late : TripStopTime → Bool
    is_left_late m = is_timed_in e m && ((stands_first m e && not (list_any (λ k. is_timed_in e k && (stands_first m k && stands_first k e)) rows)) && left_late m)

    abbrev late_in_order : (List ℕ → ℕ) → TripStopTime → Bool
    late_in_order number m = is_timed_in e m && ((is_lt (row_cmp number m e) && not (list_any (λ k. is_timed_in e k && (is_lt (row_cmp number m k) && is_lt (row_cmp number k e))) rows)) && left_late m)

    late_alike : (number : List ℕ → ℕ) (m : TripStopTime) → is_left_late m ≡ late_in_order number m
    late_alike number m = elim (cases_Bool (same_trip e m)) [
      | inl same ↦
          (λ i. is_timed_in e m && ((stands_in_trip number e m e same (trip_itself e) i
          && not (any_alike (λ k. is_timed_in e k && (stands_first m k && stands_first k e)) (λ k. is_timed_in e k && (is_lt (row_cmp number m k) && is_lt (row_cmp number k e))) rows (λ k. between_alike number e m k same) i)) && left_late m))
      | inr apart ↦
          ap (λ t. (t && is_some m.departure) && ((stands_first m e && not (list_any (λ k. is_timed_in e k && (stands_first m k && stands_first k e)) rows)) && left_late m)) apart
          ∙ sym (ap (λ t. (t && is_some m.departure) && ((is_lt (row_cmp number m e) && not (list_any (λ k. is_timed_in e k && (is_lt (row_cmp number m k) && is_lt (row_cmp number k e))) rows)) && left_late m)) apart)
    ]

  pub last_left_late : (number : List ℕ → ℕ) (before : List TripStopTime) (e : TripStopTime) (after : List TripStopTime) → IsSplit (row_cmp number) before e after
      → list_any (is_left_late (onto before (e ∷ after)) e) (onto before (e ∷ after)) ≡ if_there (left_before before e) late
  last_left_late number before e after split =
      any_alike (is_left_late (onto before (e ∷ after)) e) (late_in_order (onto before (e ∷ after)) e number) (onto before (e ∷ after)) (late_alike (onto before (e ∷ after)) e number)
      ∙ last_split (row_cmp number) (row_total number) (is_timed_in e) left_late before e after split
      ∙ last_timed number e before split.below split.descends
