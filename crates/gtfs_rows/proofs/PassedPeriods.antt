-- The frequencies of a trip of a dataset that passes: E18 and E19.
use Rattle.std.proofs.Common.{◌≡◌, ◌∙◌, ℕ, List, map, true, false, Bool, Some, refl, sym, ap, subst, inl, inr, arith}
use Rattle.std.specs.Prelude.{◌==◌, ◌&&◌, not, codes, nat_lt, nat_le, pos, int_le, int_lt}
use Rattle.std.specs.Int.{int_max, int_min}
use Rattle.std.specs.List.{list_any, list_all}
use Rattle.std.specs.Ordering.{nat_cmp}
use Rattle.std.proofs.lemmas.Bool.{and_from, or_left, or_right, cases_Bool, ltb-true, leb-false, lt-ltb, eq-eqb, not_from_false}
use Rattle.gtfs_field.proofs.NumberFacts.{neither_less as same_number}
use Rattle.gtfs_table.specs.Rows.{is_row, records_in, rows}
use Rattle.gtfs_table.specs.Tables.{Dataset}
use Rattle.gtfs_table.specs.declared.file.File.TheVariants as file
use Rattle.gtfs_schema.specs.declared.code.Code.TheVariants as code
use Rattle.gtfs_schema.specs.Columns.{time}
use Rattle.gtfs_schema.specs.PeriodRules.{period_start, period_end, ends_at_start, share_second, periods_meet, overlaps_earlier}
use Rattle.gtfs_schema.specs.Problems.{Passes}
use Rattle.gtfs_schema.specs.RowConditions.{word_in}
use Rattle.gtfs_schema.specs.FieldValues.{if_there, if_both, is_word}
use Rattle.gtfs_schema.proofs.SiteFacts.{text_itself}
use Rattle.gtfs_rows.specs.TransferOrder.{by_key}
use Rattle.gtfs_rows.specs.ContentRead.{number_at, frequency_in, rows_of}
use Rattle.gtfs_rows.specs.Rows.{Frequency}
use Rattle.gtfs_rows.specs.SoundContent.{are_apart, is_sound_period}
use Rattle.gtfs_rows.proofs.ContentRows.{NamesTrip, period_made}
use Rattle.gtfs_rows.proofs.KeyedRows.{all_from}
use Rattle.gtfs_rows.proofs.PassedReferences.{after, no_error}
use Rattle.gtfs_rows.proofs.PassedStopTimes.{none_passes}
use Rattle.gtfs_rows.proofs.PassedValues.{number_is}

-- ---- two periods in either order

never_both : (a b : ℕ) → nat_lt a b ≡ true → nat_lt b a ≡ true → ⊥
never_both a b p q =
    let below = ltb-true a b p in
    let above = ltb-true b a q in
    omega (arith, below, above)

max_turned : (a b : ℕ) → int_max (pos a) (pos b) ≡ int_max (pos b) (pos a)
max_turned a b = elim (cases_Bool (nat_lt b a)) [
  | inl p ↦ elim (cases_Bool (nat_lt a b)) [
    | inl q ↦ absurd (never_both a b q p)
    | inr q ↦ rw (p, q) refl
  ]
  | inr p ↦ elim (cases_Bool (nat_lt a b)) [
    | inl q ↦ rw (p, q) refl
    | inr q ↦ rw (p, q) (ap pos (sym (same_number a b q p)))
  ]
]

min_turned : (a b : ℕ) → int_min (pos a) (pos b) ≡ int_min (pos b) (pos a)
min_turned a b = elim (cases_Bool (nat_lt a b)) [
  | inl p ↦ elim (cases_Bool (nat_lt b a)) [
    | inl q ↦ absurd (never_both a b p q)
    | inr q ↦ rw (p, q) refl
  ]
  | inr p ↦ elim (cases_Bool (nat_lt b a)) [
    | inl q ↦ rw (p, q) refl
    | inr q ↦ rw (p, q) (ap pos (same_number a b p q))
  ]
]

share_turned : (a b c e : ℕ) → share_second (pos a) (pos b) (pos c) (pos e) ≡ share_second (pos c) (pos e) (pos a) (pos b)
share_turned a b c e = λ i. int_lt (max_turned a c i) (min_turned b e i)

module _ (d : Dataset) (passes : Passes d) (q : List ℕ) where
  module _ (m : ℕ) (is : NamesTrip d file.Frequencies q m) where
    start_is : period_start d m ≡ Some (pos (number_at d file.Frequencies m "start_time"))
    start_is = number_is d passes file.Frequencies m is.row "start_time" time refl refl

    end_is : period_end d m ≡ Some (pos (number_at d file.Frequencies m "end_time"))
    end_is = number_is d passes file.Frequencies m is.row "end_time" time refl refl

    -- E18
    starts_before : nat_lt (number_at d file.Frequencies m "start_time") (number_at d file.Frequencies m "end_time") ≡ true
    starts_before =
        let told : ends_at_start d m ≡ false = after (is_row (records_in d file.Frequencies) m) (ends_at_start d m) is.row (no_error d passes code.E18 file.Frequencies m (codes "end_time") refl) in
        let late : nat_le (number_at d file.Frequencies m "end_time") (number_at d file.Frequencies m "start_time") ≡ false = sym (λ i. if_both (end_is i) (start_is i) int_le) ∙ told in
        lt-ltb _ _ (leb-false _ _ late)

  abbrev shared : ℕ → ℕ → Bool
  shared m n = share_second (pos (number_at d file.Frequencies m "start_time")) (pos (number_at d file.Frequencies m "end_time")) (pos (number_at d file.Frequencies n "start_time")) (pos (number_at d file.Frequencies n "end_time"))

  meet_is : (m n : ℕ) → NamesTrip d file.Frequencies q m → NamesTrip d file.Frequencies q n → periods_meet d m n ≡ shared m n
  meet_is m n is of = λ i. if_both (start_is m is i) (end_is m is i) (λ start end. if_both (start_is n of i) (end_is n of i) (share_second start end))

  -- E19
  earlier_apart : (m n : ℕ) → NamesTrip d file.Frequencies q m → NamesTrip d file.Frequencies q n → nat_lt m n ≡ true → shared m n ≡ false
  earlier_apart m n is of before =
      let told : overlaps_earlier d n ≡ false = after (is_row (records_in d file.Frequencies) n) (overlaps_earlier d n) of.row (no_error d passes code.E19 file.Frequencies n (codes "start_time") refl) in
      let none : list_any (λ k. nat_lt k n && is_word (word_in d file.Frequencies k "trip_id") q && periods_meet d k n) (rows d file.Frequencies) ≡ false =
      sym (ap (λ o. if_there o (λ trip. list_any (λ k. nat_lt k n && is_word (word_in d file.Frequencies k "trip_id") trip && periods_meet d k n) (rows d file.Frequencies))) of.named) ∙ told in
      let one = none_passes (λ k. nat_lt k n && is_word (word_in d file.Frequencies k "trip_id") q && periods_meet d k n) (rows d file.Frequencies) m none is.among in
      sym (meet_is m n is of)
      ∙ after (nat_lt m n && is_word (word_in d file.Frequencies m "trip_id") q) (periods_meet d m n) (and_from _ _ before (ap (λ o. is_word o q) is.named ∙ text_itself q)) one

  apart : (m n : ℕ) → NamesTrip d file.Frequencies q m → NamesTrip d file.Frequencies q n → are_apart (frequency_in d m) (frequency_in d n) ≡ true
  apart m n is of =
      let same = number_at d file.Frequencies m "start_time" == number_at d file.Frequencies n "start_time" in
      elim (cases_Bool (nat_lt m n)) [
        | inl before ↦ or_right same (not (shared m n)) (not_from_false _ (earlier_apart m n is of before))
        | inr other ↦ elim (cases_Bool (nat_lt n m)) [
          | inl later ↦ or_right same (not (shared m n)) (not_from_false _ (share_turned (number_at d file.Frequencies m "start_time") (number_at d file.Frequencies m "end_time") (number_at d file.Frequencies n "start_time") (number_at d file.Frequencies n "end_time") ∙ earlier_apart n m of is later))
          | inr one ↦ or_left same (not (shared m n)) (eq-eqb _ _ (ap (λ k. number_at d file.Frequencies k "start_time") (same_number m n other one)))
        ]
      ]

  abbrev pub periods : List Frequency
  periods = by_key nat_cmp (λ (p : Frequency). p.start_time) (map (frequency_in d) (rows_of d file.Frequencies q))

  period_sound : (m : ℕ) → NamesTrip d file.Frequencies q m → is_sound_period periods (frequency_in d m) ≡ true
  period_sound m is =
      and_from _ _ (starts_before m is) (all_from (are_apart (frequency_in d m)) periods (λ p at.
      let n = period_made d q p at in
      subst (λ (r : Frequency). are_apart (frequency_in d m) r ≡ true) n.same (apart m n.row is n.names)))

  pub periods_sound : list_all (is_sound_period periods) periods ≡ true
  periods_sound = all_from (is_sound_period periods) periods (λ p at.
      let m = period_made d q p at in
      subst (λ (r : Frequency). is_sound_period periods r ≡ true) m.same (period_sound m.row m.names))
