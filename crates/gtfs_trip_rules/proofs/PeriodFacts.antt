-- The periods of the rows, and which of them an earlier one of the trip meets.
use Rattle.std.proofs.Common.{arith, ◌≡◌, ◌+◌, ◌-◌, ◌≤◌, ℕ, zero, suc, List, [], ◌∷◌, ◌++◌, length, true, false, Bool, drop, get_or, refl, sym, ap, ◌∙◌, Option, Some, None, inl, inr}
use Rattle.std.specs.Prelude.{◌&&◌, ◌||◌, ℤ, bytes_eq, nat_lt, filter, option_and_then, option_map, pos, codes}
use Prim.Native.String.{String as Literal}
use Rattle.std.specs.List.{list_any, range_with_len}
use Rattle.std.proofs.lemmas.Bool.{cases_Bool}
use Rattle.std.proofs.lemmas.Bool.Decides.{nat_tests}
use Rattle.std.proofs.lemmas.List.Folds.{list_any-append}
use Rattle.std.proofs.Math.Bool.{and-false as and_false, or-false}
use Rattle.gtfs_field.specs.Kinds.{time_of}
use Rattle.gtfs_field.proofs.ListFacts.{any_alike, any_silent as no_entry}
use Rattle.gtfs_table.specs.Tables.{Dataset}
use Rattle.gtfs_table.specs.declared.file.File.TheVariants as file
use Rattle.gtfs_schema.specs.Columns.{id, time}
use Rattle.gtfs_schema.specs.PeriodRules.{overlaps_earlier, share_second}
use Rattle.gtfs_trip_rules.specs.FrequencyPeriods.{Period, meets_one, met_among, period_in}
use Rattle.gtfs_schema.specs.ReadFields.{seconds_of, word_of}
use Rattle.gtfs_table.specs.Rows.{Row, is_row, numbers, records_in, rows, is_empty}
use Rattle.gtfs_table.proofs.RowFacts.{numbers_more, IsTurn}
use Rattle.gtfs_schema.specs.RowConditions.{text_in, word_in}
use Rattle.gtfs_schema.specs.FieldValues.{as_amount, if_both, if_there, is_word, readable}
use Rattle.gtfs_schema.proofs.ValueFacts.{counted_amount}

-- ---- the seconds of a time

time_amount : (t : List ℕ) → option_and_then as_amount (readable time t) ≡ option_map pos (seconds_of t)
time_amount [] = refl
time_amount (b ∷ bs) = let filled : is_empty (b ∷ bs) ≡ false = grind (arith, nat_tests) in rw filled (counted_amount (time_of (b ∷ bs)))

-- ---- the rows that were taken before one

-- none of the numbers from one on comes before it
none_past : (p test : ℕ → Bool) (a k n : ℕ) → n ≤ a → list_any (λ m. nat_lt m n && test m) (filter p (range_with_len a k)) ≡ false
none_past p test a zero n past = refl
none_past p test a (suc k) n past =
    let later : nat_lt a n ≡ false = grind (arith, nat_tests, past) in
    let rest = none_past p test (a + 1) k n (omega (arith, past)) in
    elim (cases_Bool (p a)) [
      | inl here ↦ rw (here, later, rest) refl
      | inr other ↦ rw other rest
    ]

-- of numbers in their order, those before one are those that were taken
taken_before : (p test : ℕ → Bool) (a k : ℕ) (taken : List ℕ) (n : ℕ) (left : List ℕ) → filter p (range_with_len a k) ≡ taken ++ n ∷ left
    → (a ≤ n) × (list_any (λ m. nat_lt m n && test m) (filter p (range_with_len a k)) ≡ list_any test taken)
taken_before p test a zero [] n left e = cc e
taken_before p test a zero (t ∷ taken) n left e = cc e
taken_before p test a (suc k) [] n left e = elim (cases_Bool (p a)) [
  | inl here ↦
      let same : a ≡ n = ap (λ l. get_or l 0 0) (rw here at e) in
      let own : nat_lt a n ≡ false = grind (arith, nat_tests, same) in
      let rest = none_past p test (a + 1) k n (omega (arith, same)) in
      (omega (arith, same), rw (here, own, rest) refl)
  | inr other ↦
      let later = taken_before p test (a + 1) k [] n left (rw other at e) in
      (omega (arith, later.0), rw other later.1)
]
taken_before p test a (suc k) (t ∷ taken) n left e = elim (cases_Bool (p a)) [
  | inl here ↦
      let same : a ≡ t = ap (λ l. get_or l 0 0) (rw here at e) in
      let later = taken_before p test (a + 1) k taken n left (ap (drop 1) (rw here at e)) in
      let below : nat_lt a n ≡ true = grind (arith, nat_tests, later.0) in
      (omega (arith, later.0), rw (here, below, later.1) (ap (λ m. test m || list_any test taken) same))
  | inr other ↦
      let later = taken_before p test (a + 1) k (t ∷ taken) n left (rw other at e) in
      (omega (arith, later.0), rw other later.1)
]

-- one row more
pub known_more : (d : Dataset) (taken : List Row) (n : ℕ) (r : List (List ℕ)) (trip : List ℕ) (start end : ℕ)
    → (met_among d (numbers taken) trip start end || meets_one (period_in d n) trip start end) ≡ met_among d (numbers (taken ++ (n, r) ∷ [])) trip start end
known_more d taken n r trip start end =
    ap (λ b. met_among d (numbers taken) trip start end || b) (sym (or-false (meets_one (period_in d n) trip start end)))
    ∙ sym (list_any-append (λ m. meets_one (period_in d m) trip start end) (numbers taken) (n ∷ []))
    ∙ ap (λ ns. met_among d ns trip start end) (sym (numbers_more taken n r))

-- ---- the rule

abbrev period : Option (List ℕ) → Option ℕ → Option ℕ → Option Period
period trip start end = option_and_then (λ t. option_and_then (λ s. option_map (λ e. (t, s, e)) end) start) trip

no_both : (a b : Option ℤ) → if_both a b (λ x y. false) ≡ false
no_both None b = refl
no_both (Some x) None = refl
no_both (Some x) (Some y) = refl

-- a row with a period, by its three values
meets_by : (before : Bool) (word : Option (List ℕ)) (start end : Option ℕ) (trip : List ℕ) (from to : ℕ)
    → ((before && is_word word trip) && if_both (option_map pos start) (option_map pos end) (λ x y. share_second x y (pos from) (pos to)))
    ≡ (before && meets_one (period word start end) trip from to)
meets_by false word start end trip from to = refl
meets_by true None start end trip from to = refl
meets_by true (Some t) None end trip from to = and_false (bytes_eq trip t)
meets_by true (Some t) (Some s) None trip from to = and_false (bytes_eq trip t)
meets_by true (Some t) (Some s) (Some e) trip from to = refl

module _ (before : ℕ → Bool) (word : ℕ → Option (List ℕ)) (start end : ℕ → Option ℕ) (ms : List ℕ) where
  abbrev meets : Option ℕ → Option ℕ → List ℕ → ℕ → Bool
  meets s e trip m = before m && is_word (word m) trip
      && if_both (option_map pos (start m)) (option_map pos (end m)) (λ x y. if_both (option_map pos s) (option_map pos e) (share_second x y))

  none_meets : (s e : Option ℕ) (trip : List ℕ) → ((m : ℕ) → if_both (option_map pos (start m)) (option_map pos (end m)) (λ x y. if_both (option_map pos s) (option_map pos e) (share_second x y)) ≡ false)
      → list_any (meets s e trip) ms ≡ false
  none_meets s e trip none = no_entry (meets s e trip) ms (λ m. ap (λ b. (before m && is_word (word m) trip) && b) (none m) ∙ and_false (before m && is_word (word m) trip))

  by_period : (trip : Option (List ℕ)) (s e : Option ℕ) → if_there trip (λ t. list_any (meets s e t) ms)
      ≡ if_there (period trip s e) (λ p. list_any (λ m. before m && meets_one (period (word m) (start m) (end m)) p.0 p.1 p.2) ms)
  by_period None s e = refl
  by_period (Some t) None e = none_meets None e t (λ m. no_both (option_map pos (start m)) (option_map pos (end m)))
  by_period (Some t) (Some s) None = none_meets (Some s) None t (λ m. no_both (option_map pos (start m)) (option_map pos (end m)))
  by_period (Some t) (Some s) (Some e) = any_alike (meets (Some s) (Some e) t) (λ m. before m && meets_one (period (word m) (start m) (end m)) t s e) ms
      (λ m. meets_by (before m) (word m) (start m) (end m) t s e)

pub there_alike : {X : Type 0} (o : Option X) (f g : X → Bool) → ((x : X) → f x ≡ g x) → if_there o f ≡ if_there o g
there_alike None f g same = refl
there_alike (Some x) f g same = same x

module _ (d : Dataset) (n : ℕ) where
  abbrev text_at : ℕ → Literal → List ℕ
  text_at m name = text_in d file.Frequencies m (codes name)

  rule_by_period : overlaps_earlier d n ≡ if_there (period_in d n) (λ p. list_any (λ m. nat_lt m n && meets_one (period_in d m) p.0 p.1 p.2) (rows d file.Frequencies))
  rule_by_period = (λ i. if_there (word_in d file.Frequencies n "trip_id") (λ trip. list_any (λ m. nat_lt m n && is_word (word_in d file.Frequencies m "trip_id") trip
      && if_both (time_amount (text_at m "start_time") i) (time_amount (text_at m "end_time") i)
      (λ x y. if_both (time_amount (text_at n "start_time") i) (time_amount (text_at n "end_time") i) (share_second x y))) (rows d file.Frequencies)))
      ∙ by_period (λ m. nat_lt m n) (λ m. word_of id (text_at m "trip_id")) (λ m. seconds_of (text_at m "start_time")) (λ m. seconds_of (text_at m "end_time")) (rows d file.Frequencies)
      (word_of id (text_at n "trip_id")) (seconds_of (text_at n "start_time")) (seconds_of (text_at n "end_time"))

-- at a turn of a loop over the rows
pub rule_asked : (d : Dataset) (taken : List Row) (n : ℕ) (r : List (List ℕ)) (left : List Row) → IsTurn d file.Frequencies taken n r left
    → if_there (period_in d n) (λ p. met_among d (numbers taken) p.0 p.1 p.2) ≡ overlaps_earlier d n
rule_asked d taken n r left t =
    let rs = records_in d file.Frequencies in
    there_alike (period_in d n) (λ p. met_among d (numbers taken) p.0 p.1 p.2)
    (λ p. list_any (λ m. nat_lt m n && meets_one (period_in d m) p.0 p.1 p.2) (rows d file.Frequencies))
    (λ p. sym (taken_before (is_row rs) (λ m. meets_one (period_in d m) p.0 p.1 p.2) 2 (length rs - 1) (numbers taken) n (numbers left) t.split).1)
    ∙ sym (rule_by_period d n)
