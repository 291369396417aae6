-- How many rows of stop_times.txt name a trip, counted by the numbers of trips.
use Rattle.std.proofs.Common.{◌≡◌, ◌≢◌, ◌+◌, ◌<◌, ◌≤◌, ◌∙◌, ◌++◌, ◌∷◌, [], ℕ, Bool, true, false, List, cond, filter, length, length-append, map, get_or, set, refl, reverse, sym, ap, arith, inl, inr, Bor, Option, Some, None, option_map}
use Rattle.std.specs.Prelude.{◌&&◌, ◌==◌, bytes_eq, codes, min, nat_lt}
use Rattle.std.specs.BTreeMap.{BTreeMap}
use Rattle.std.specs.List.{All, list_any}
use Rattle.std.specs.Option.{unwrap_or}
use Rattle.std.proofs.lemmas.Bool.{cases_Bool, eqb-true as same_number}
use Rattle.std.proofs.lemmas.Bool.Decides.{nat_tests}
use Rattle.std.proofs.lemmas.List.{get_or_default, get_or-set_other, get_or-set_same}
use Rattle.std.proofs.lemmas.List.Elements.{All-push, All-tail, filter-append}
use Rattle.std.proofs.lemmas.List.Sorted.{IsPermutation-reverse, list_any-IsPermutation}
use Rattle.gtfs_field.proofs.NumberFacts.{number_itself}
use Rattle.gtfs_table.specs.Tables.{Dataset}
use Rattle.gtfs_table.specs.declared.file.File.TheVariants as file
use Rattle.gtfs_schema.specs.declared.code.Code.TheVariants as code
use Rattle.gtfs_stop_times.specs.declared.stop_time.StopTime.{StopTime}
use Rattle.gtfs_schema.specs.Problems.{holds_in}
use Rattle.gtfs_table.specs.Rows.{is_row, records_in}
use Rattle.gtfs_schema.specs.RowConditions.{text_in}
use Rattle.gtfs_trip_rules.specs.TripCounts.{AreCounts, AreKept, count_of}
use Rattle.gtfs_trip_rules.specs.declared.trips.judge.Judge.{Judge}
use Rattle.gtfs_stop_times.specs.KeptTimes.{is_placed}
use Rattle.gtfs_trip_rules.specs.JudgedTrips.{Judges}
use Rattle.gtfs_trip_rules.specs.TripNotes.{note_of, times_noted, trip_notes_in}
use Rattle.gtfs_trip_rules.specs.TripNumbers.{AreNamed, AreNumbered, Keeps, name_at, number_of_trip}
use Rattle.gtfs_schema.specs.Columns.{id as id_kind}
use Rattle.gtfs_schema.specs.ReadFields.{word_of}
use Rattle.gtfs_schema.specs.FieldValues.{if_there}
use Rattle.gtfs_schema.proofs.BoolFacts.{and_parts, same_test}
use Rattle.gtfs_schema.proofs.SiteFacts.{text_is, text_itself}
use Rattle.gtfs_trip_rules.proofs.TripNumberFacts.{one_numbered, rows_stay}
use Rattle.gtfs_trip_rules.proofs.TripStopTimeFacts.{as_many, named_rows}

-- ---- what is kept, row by row

one_more : (n : ℕ) (rows : List StopTime) (row : StopTime) → length (filter (λ r. n == r.trip) (rows ++ row ∷ [])) ≡ length (filter (λ r. n == r.trip) rows) + cond (n == row.trip) 1 0
one_more n rows row =
    ap length (filter-append (λ (r : StopTime). n == r.trip) rows (row ∷ []))
    ∙ length-append (filter (λ r. n == r.trip) rows) (filter (λ r. n == r.trip) (row ∷ []))
    ∙ ap (λ m. length (filter (λ r. n == r.trip) rows) + m) (if_one (n == row.trip))
  where
    if_one : (b : Bool) → length (cond b (row ∷ []) []) ≡ cond b 1 0
    if_one true = refl
    if_one false = refl

none_pass : (p : StopTime → Bool) (rows : List StopTime) → length (filter p rows) ≡ 0 → list_any p rows ≡ false
none_pass p [] none = refl
none_pass p (r ∷ rows) none = elim (cases_Bool (p r)) [
  | inl has ↦ absurd (omega (arith, (rw has at none)))
  | inr other ↦ rw other (none_pass p rows (rw other at none))
]

module _ (counts : List ℕ) (rows : List StopTime) (counted : AreCounts counts rows) where
  counts_more : (row : StopTime) → row.trip < length counts → (count more : ℕ) → count ≡ get_or counts row.trip count → more ≡ min (count + 1) 2 → AreCounts (set counts row.trip more) (rows ++ row ∷ [])
  counts_more row inside count more was is_more n = elim (cases_Bool (n == row.trip)) [
    | inl here ↦
        let same : n ≡ row.trip = same_number n row.trip here in
        let before : count ≡ min (length (filter (λ r. n == r.trip) rows)) 2 =
        was ∙ get_or_default counts row.trip count 0 inside ∙ ap (λ m. get_or counts m 0) (sym same) ∙ counted n in
        let longer : length (filter (λ r. n == r.trip) (rows ++ row ∷ [])) ≡ length (filter (λ r. n == r.trip) rows) + 1 =
        one_more n rows row ∙ ap (λ b. length (filter (λ r. n == r.trip) rows) + cond b 1 0) here in
        let after : more ≡ min (length (filter (λ r. n == r.trip) (rows ++ row ∷ []))) 2 = omega (arith, is_more, before, longer) in
        ap (λ m. get_or (set counts row.trip more) m 0) same ∙ get_or-set_same counts row.trip more 0 inside ∙ after
    | inr other ↦
        get_or-set_other counts row.trip n more 0 (apart other)
        ∙ counted n
        ∙ ap (λ m. min m 2) (sym (add_none _)
        ∙ ap (λ b. length (filter (λ r. n == r.trip) rows) + cond b 1 0) (sym other)
        ∙ sym (one_more n rows row))
  ]
    where
      apart : (n == row.trip) ≡ false → n ≢ row.trip
      apart other same = let clash : true ≡ false = sym (number_itself n) ∙ ap (λ m. n == m) same ∙ other in cc

      add_none : (m : ℕ) → m + 0 ≡ m
      add_none m = omega arith

  -- a count of none
  pub none_named : (count n : ℕ) → n < length counts → count ≡ get_or counts n count → count ≡ 0 → list_any (λ r. n == r.trip) (reverse rows) ≡ false
  none_named count n inside is none =
      sym (list_any-IsPermutation (λ (r : StopTime). n == r.trip) rows (reverse rows) (IsPermutation-reverse rows))
      ∙ none_pass (λ r. n == r.trip) rows (omega (arith, none, is, get_or_default counts n count 0 inside, counted n))

  -- no count is greater than two
  pub count_fits : (count n : ℕ) → n < length counts → count ≡ get_or counts n count → count ≤ 2
  count_fits count n inside is = omega (arith, is, get_or_default counts n count 0 inside, counted n)

module _ (trips : List (List ℕ)) where
  -- after a trip was given its number
  pub still_kept : (old new : BTreeMap (Bor (List ℕ)) ℕ) (names more : List (Bor (List ℕ))) (counts wide : List ℕ) (are_sequenced : Bool) (judge : Judge) (rows : List StopTime) → AreKept trips old names counts are_sequenced judge rows
      → Keeps trips old new → AreNamed trips new more → ((n : ℕ) → get_or wide n 0 ≡ get_or counts n 0) → AreKept trips new more wide are_sequenced judge rows
  still_kept old new names more counts wide are_sequenced judge rows kept keeps named same = record {
    numbered = record { named = named; numbered = rows_stay trips old new names more rows kept.numbered.numbered keeps named };
    counted = λ n. same n ∙ kept.counted n;
    located = kept.located;
    judged = kept.judged;
  }

  -- one row more
  pub one_kept : (numbers : BTreeMap (Bor (List ℕ)) ℕ) (names : List (Bor (List ℕ))) (counts : List ℕ) (are_sequenced : Bool) (rows : List StopTime) (row : StopTime) (id : List ℕ) (count more : ℕ) (are : Bool) (old new : Judge)
      → are ≡ (are_sequenced && is_placed row.times) → Judges new (reverse (rows ++ row ∷ [])) → AreKept trips numbers names counts are_sequenced old rows → number_of_trip trips numbers id ≡ Some row.trip → row.trip < length counts → count ≡ get_or counts row.trip count → more ≡ min (count + 1) 2
      → AreKept trips numbers names (set counts row.trip more) are new (rows ++ row ∷ [])
  one_kept numbers names counts are_sequenced rows row id count more are old new both judged kept here inside was is_more = record {
    numbered = one_numbered trips numbers names rows row id kept.numbered.named kept.numbered.numbered here;
    counted = counts_more counts rows kept.counted row inside count more was is_more;
    located = λ all. let parts = and_parts are_sequenced (is_placed row.times) (sym both ∙ all) in All-push (λ (r : StopTime). is_placed r.times ≡ true) rows row (kept.located parts.0) parts.1;
    judged = judged;
  }

-- rows that all pass
pub all_pass : (p : StopTime → Bool) (rows : List StopTime) → All (λ r. p r ≡ true) rows → filter p rows ≡ rows
all_pass p [] each = refl
all_pass p (r ∷ rows) each =
    ap (λ b. cond b (r ∷ filter p rows) (filter p rows)) (each 0 r (omega arith)) ∙ ap (λ rs. r ∷ rs) (all_pass p rows (All-tail (λ r. p r ≡ true) r rows each))

-- ---- rows that name a trip

-- rows with a number
abbrev is_of : Option ℕ → StopTime → Bool
is_of None = λ r. false
is_of (Some n) = λ r. n == r.trip

none_of : (rows : List StopTime) → length (filter (is_of None) rows) ≡ 0
none_of [] = refl
none_of (r ∷ rows) = none_of rows

module _ (trips : List (List ℕ)) (numbers : BTreeMap (Bor (List ℕ)) ℕ) (names : List (Bor (List ℕ))) (trip : List ℕ) where
  abbrev name : ℕ → List ℕ
  name = name_at trips names

  named : (o : Option ℕ) (rows : List StopTime) → All (λ r. is_of o r ≡ bytes_eq trip (name r.trip)) rows → length (filter (is_of o) rows) ≡ times_noted (map (note_of name) rows) trip
  named o [] each = refl
  named o (r ∷ rows) each =
      ap (λ b. length (cond b (r ∷ filter (is_of o) rows) (filter (is_of o) rows))) (each 0 r (omega arith))
      ∙ as_many (bytes_eq trip (name r.trip)) r (filter (is_of o) rows) (note_of name r) (filter (λ n. bytes_eq trip n.trip_id) (map (note_of name) rows))
      (named o rows (All-tail (λ r. is_of o r ≡ bytes_eq trip (name r.trip)) r rows each))

  module _ (rows : List StopTime) (are : AreNumbered trips numbers names rows) where
    by_number : (o : Option ℕ) → number_of_trip trips numbers trip ≡ o → (r : StopTime) → number_of_trip trips numbers (name r.trip) ≡ Some r.trip → is_of o r ≡ bytes_eq trip (name r.trip)
    by_number None is r has = same_test false (bytes_eq trip (name r.trip)) (λ e. cc e)
        (λ e. let clash : None ≡ Some r.trip = sym is ∙ ap (number_of_trip trips numbers) (text_is trip (name r.trip) e) ∙ has in cc)
    by_number (Some n) is r has = same_test (n == r.trip) (bytes_eq trip (name r.trip))
        (λ e. ap (λ t. bytes_eq t (name r.trip)) (sym (are.named trip n is).1 ∙ ap name (same_number n r.trip e)) ∙ text_itself (name r.trip))
        (λ e. let one : n ≡ r.trip = ap (λ o. unwrap_or o 0) (sym is ∙ ap (number_of_trip trips numbers) (text_is trip (name r.trip) e) ∙ has) in ap (λ m. n == m) (sym one) ∙ number_itself n)

    pub trip_counted : (counts : List ℕ) → AreCounts counts rows → count_of trips numbers counts trip ≡ min (times_noted (map (note_of name) rows) trip) 2
    trip_counted counts counted = of_number (number_of_trip trips numbers trip) refl
        ∙ ap (λ m. min m 2) (named (number_of_trip trips numbers trip) rows (λ k d below. by_number (number_of_trip trips numbers trip) refl (get_or rows k d) (are.numbered k d below)))
      where
        of_number : (o : Option ℕ) → number_of_trip trips numbers trip ≡ o → unwrap_or (option_map (λ n. get_or counts n 0) o) 0 ≡ min (length (filter (is_of o) rows)) 2
        of_number None is = sym (ap (λ m. min m 2) (none_of rows))
        of_number (Some n) is = counted n

-- ---- trips that few rows name

-- of counts up to two, those below two are the same
pub few_of_two : (n : ℕ) → nat_lt (min n 2) 2 ≡ nat_lt n 2
few_of_two n = same_test (nat_lt (min n 2) 2) (nat_lt n 2) (λ e. grind (arith, nat_tests, e)) (λ e. grind (arith, nat_tests, e))

pub few_rows : (d : Dataset) (few : List ℕ → Bool) (text : ℕ → List ℕ) → ((n : ℕ) → text n ≡ text_in d file.Trips n (codes "trip_id"))
    → ((trip : List ℕ) → few trip ≡ nat_lt (times_noted (trip_notes_in d) trip) 2)
    → (n : ℕ) → holds_in code.W06 d file.Trips n (codes "trip_id") ≡ (is_row (records_in d file.Trips) n && if_there (word_of id_kind (text n)) few)
few_rows d few text same counted n =
    λ i. is_row (records_in d file.Trips) n && if_there (word_of id_kind (sym (same n) i)) (λ trip. (ap (λ m. nat_lt m 2) (sym (named_rows d trip)) ∙ sym (counted trip)) i)
