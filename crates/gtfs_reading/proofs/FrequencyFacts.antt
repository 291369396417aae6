-- The frequencies of a trip in a dataset that passes.
use Rattle.std.proofs.Common.{◌≡◌, ℕ, List, map, get_or, true, false, Bool, codes, Some, None, is_some, refl, sym, ap, ◌∙◌, subst, arith, inl, inr}
use Rattle.std.specs.Prelude.{if◌then◌else◌, option_and_then, unsigned_abs, unwrap_or, pos, Result, Ok, Err}
use Rattle.std.specs.Cmp.{Equal-is, nat_cmp_total}
use Rattle.std.specs.FinMap.{nat_cmp-IsAntisymmetric}
use Rattle.std.specs.List.{AllPairs}
use Rattle.std.specs.List.Sorted.{IsPermutation, IsSortedByKey}
use Rattle.std.specs.Ordering.{is_eq, nat_cmp}
use Rattle.std.specs.Result.{result_ok}
use Rattle.std.proofs.lemmas.Bool.{cases_Bool}
use Rattle.std.proofs.lemmas.List.Elements.{All-filter}
use Rattle.gtfs_field.specs.declared.fault.FieldFault.{FieldFault}
use Rattle.gtfs_field.specs.Kinds.{time_of}
use Rattle.gtfs_table.specs.Rows.{is_empty, is_row, records_in, rows}
use Rattle.gtfs_table.specs.Tables.{Dataset}
use Rattle.gtfs_table.specs.declared.file.File.TheVariants as file
use Rattle.gtfs_schema.specs.Columns.{id, refused, required, time}
use Rattle.gtfs_schema.specs.Problems.{Passes}
use Rattle.gtfs_schema.specs.RowConditions.{text_in, value_in, word_in}
use Rattle.gtfs_schema.specs.FieldValues.{as_amount, value_of_count, is_word}
use Rattle.gtfs_schema.proofs.ReadFacts.{amount_some, read_as_there, stands}
use Rattle.gtfs_rows.specs.declared.frequency.Frequency.{Frequency as FrequencyRow}
use Rattle.gtfs_rows.specs.TransferOrder.{by_key}
use Rattle.gtfs_rows.specs.ContentRead.{frequency_in, rows_of}
use Rattle.gtfs_rows.specs.Rows.{Frequency}
use Rattle.gtfs_rows.specs.RowsInMemory.{frequency_of}
use Rattle.gtfs_rows.proofs.SameElements.{pairs-map}
use Rattle.gtfs_reading.specs.CalendarRows.{rows_with}
use Rattle.gtfs_reading.proofs.CalendarFacts.{rows_named}
use Rattle.gtfs_reading.proofs.RowKeys.{all_rows, numbers_apart}
use Rattle.gtfs_reading.proofs.SortedKeys.{by_key_mapped}

counted_is : (e : Bool) (r : Result ℕ FieldFault) → is_some (option_and_then as_amount (if e then None else result_ok (value_of_count r))) ≡ true
    → option_and_then as_amount (if e then None else result_ok (value_of_count r))
    ≡ Some (pos (unsigned_abs (unwrap_or (option_and_then as_amount (if e then None else result_ok (value_of_count r))) (pos 0))))
counted_is true r there = cc there
counted_is false (Ok n) there = refl
counted_is false (Err f) there = cc there

module _ (d : Dataset) (passes : Passes d) where
  abbrev start_of : ℕ → ℕ
  start_of n = (frequency_in d n).start_time

  start_there : (n : ℕ) → is_row (records_in d file.Frequencies) n ≡ true → option_and_then as_amount (value_in d file.Frequencies n (codes "start_time")) ≡ Some (pos (start_of n))
  start_there n row =
      let t = text_in d file.Frequencies n (codes "start_time") in
      let s = stands d passes file.Frequencies n row (codes "start_time") (required "start_time" time) refl t refl in
      counted_is (is_empty t) (time_of t) (amount_some time refl t ∙ read_as_there time refused t s refl)

  abbrev of_trip : List ℕ → List ℕ
  of_trip t = rows_of d file.Frequencies t

  starts_apart : (t : List ℕ) → AllPairs (λ (p q : Frequency). is_eq (nat_cmp p.start_time q.start_time) ≡ false) (map (frequency_in d) (of_trip t))
  starts_apart t = pairs-map (frequency_in d) (λ (p q : Frequency). is_eq (nat_cmp p.start_time q.start_time) ≡ false) (of_trip t) (λ i j e h l.
      let m = get_or (of_trip t) i e in
      let n = get_or (of_trip t) j e in
      let are = All-filter (λ n. is_word (word_in d file.Frequencies n "trip_id") t) (λ n. is_row (records_in d file.Frequencies) n ≡ true) (rows d file.Frequencies) (all_rows d file.Frequencies) in
      elim (cases_Bool (is_eq (nat_cmp (start_of m) (start_of n)))) [
        | inl tie ↦
            let same : start_of m ≡ start_of n = nat_cmp-IsAntisymmetric (start_of m) (start_of n) ((Equal-is (nat_cmp (start_of m) (start_of n))).0 tie) in
            absurd (numbers_apart d passes file.Frequencies "trip_id" "start_time" (λ n. refl) t i j e h l (pos (start_of m))
            (start_there m (are i e (omega (arith, h, l))))
            (start_there n (are j e l) ∙ ap (λ k. Some (pos k)) (sym same)))
        | inr apart ↦ apart
      ])

  -- sorted by start, what was read of the rows of a trip are its frequencies
  pub frequencies_sorted : (t ns : List ℕ) (read sorted : List FrequencyRow) → ns ≡ rows_with d file.Frequencies (codes "trip_id") t
      → map frequency_of read ≡ map (frequency_in d) ns → IsPermutation read sorted → IsSortedByKey (λ p. p.start_time) nat_cmp sorted
      → map frequency_of sorted ≡ by_key nat_cmp (λ (p : Frequency). p.start_time) (map (frequency_in d) (of_trip t))
  frequencies_sorted t ns read sorted are reads moved up =
      let whole : map frequency_of read ≡ map (frequency_in d) (of_trip t) =
      reads ∙ ap (map (frequency_in d)) (are ∙ rows_named d passes file.Frequencies "trip_id" (required "trip_id" id) refl refl refl t) in
      let apart : AllPairs (λ (p q : Frequency). is_eq (nat_cmp p.start_time q.start_time) ≡ false) (map frequency_of read) =
      subst (AllPairs (λ (p q : Frequency). is_eq (nat_cmp p.start_time q.start_time) ≡ false)) (sym whole) (starts_apart t) in
      sym (by_key_mapped nat_cmp nat_cmp_total (λ (p : Frequency). p.start_time) frequency_of nat_cmp-IsAntisymmetric read sorted apart moved up)
      ∙ ap (by_key nat_cmp (λ (p : Frequency). p.start_time)) whole
