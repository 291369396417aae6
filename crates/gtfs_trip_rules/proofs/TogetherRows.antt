-- Rows that stand together by their trips, and in a trip by their sequences, are in order: by the index of the first row of each trip.
-- Where they fit too, their order breaks nothing.
use Rattle.std.proofs.Common.{◌≡◌, ◌∙◌, ◌+◌, ◌<◌, ◌≤◌, ℕ, zero, suc, Bool, Bor, true, false, List, [], ◌∷◌, ap, arith, drop, get_or, inl, inr, length, map, refl, reverse, subst, sym, take}
use Rattle.std.specs.Prelude.{◌&&◌, ◌||◌, ◌==◌, codes, if◌then◌else◌, nat_lt, not, pos}
use Rattle.std.specs.BTreeMap.{BTreeMap}
use Rattle.std.specs.Cmp.{nat_cmp_is, nat_cmp_total, tied_itself}
use Rattle.std.specs.List.{list_any}
use Rattle.std.specs.List.Sorted.{IsSorted}
use Rattle.std.specs.Ordering.{int_cmp, is_lt, nat_cmp, ordering_then}
use Rattle.std.specs.declared.cmp.Ordering.TheVariants.{Greater}
use Rattle.std.proofs.lemmas.Bool.{cases_Bool, eqb-true as same_number}
use Rattle.std.proofs.lemmas.Bool.Decides.{nat_tests}
use Rattle.std.proofs.Math.Bool.{and-false as and_none}
use Rattle.std.proofs.Math.Nat.{eq-or-lt_of_le}
use Rattle.std.proofs.lemmas.List.{drop_all, drop_more, take_all}
use Rattle.std.proofs.lemmas.List.Sorted.{IsPermutation-refl, IsPermutation-reverse, list_any-IsPermutation}
use Rattle.gtfs_field.proofs.NumberFacts.{int_cmp-pos, number_itself}
use Rattle.gtfs_field.specs.TextOrder.{text_cmp}
use Rattle.gtfs_table.specs.Tables.{Dataset}
use Rattle.gtfs_table.specs.declared.file.File.TheVariants as file
use Rattle.gtfs_schema.specs.declared.code.Code.TheVariants as code
use Rattle.gtfs_schema.specs.Problems.{Problem, lists_problem}
use Rattle.gtfs_schema.specs.steps.FoundProblems.{Reports, is_same}
use Rattle.gtfs_schema.proofs.BoolFacts.{and_parts}
use Rattle.gtfs_schema.proofs.SiteFacts.{problem_at}
use Rattle.gtfs_stop_times.specs.KeptLists.{no_note, no_row, noted_row}
use Rattle.gtfs_stop_times.specs.KeptStretches.{AreRising}
use Rattle.gtfs_stop_times.specs.KeptTimes.{is_placed, is_untimed}
use Rattle.gtfs_trip_rules.specs.StopTimePicks.{breaks_order}
use Rattle.gtfs_trip_rules.specs.TripCounts.{AreKept}
use Rattle.gtfs_trip_rules.specs.JudgedTrips.{all_fit, are_together, ends_timed, ends_trip, fits, goes_on, is_end_untimed, is_late, last_of, names_trip, repeats_last, stands_with, AddsOfRow}
use Rattle.gtfs_trip_rules.specs.TripNotes.{note_of, rows_of_notes, trip_notes_in}
use Rattle.gtfs_trip_rules.specs.TripNumbers.{name_at, AllNumbered}
use Rattle.gtfs_trip_rules.specs.TripOrder.{rows_before, InOrder}
use Rattle.gtfs_trip_rules.specs.TripStopTimes.{trip_stop_time, trip_stop_times_in}
use Rattle.gtfs_trip_rules.specs.declared.trips.judge.Judge.{Judge}
use Rattle.gtfs_stop_times.specs.declared.stop_time.StopTime.{StopTime}
use Rattle.gtfs_trip_rules.proofs.JudgedRows.{all_told, same_trips, test_here, told_more}
use Rattle.gtfs_trip_rules.proofs.SplitLists.{before_more}
use Rattle.gtfs_trip_rules.proofs.TripCountFacts.{all_pass}
use Rattle.gtfs_trip_rules.proofs.TripPlaced.{placed_numbered, placed_of}
use Rattle.gtfs_trip_rules.proofs.TripReports.{seen, seen_none}
use Rattle.gtfs_trip_rules.proofs.TripSorted.{lent_cmp, sorted_in_order, sorted_strictly}
use Rattle.gtfs_trip_rules.proofs.TripStopTimeFacts.{sequenced_rows}
use Rattle.gtfs_trip_rules.proofs.TripStopTimeOrder.{in_trip}

-- ---- the index of a trip's first row

abbrev first_at : ℕ → List StopTime → ℕ
first_at t [] = 0
first_at t (r ∷ rows) = if t == r.trip then 0 else suc (first_at t rows)

first_low : (t k : ℕ) (z : StopTime) (rows : List StopTime) → k < length rows → (t == (get_or rows k z).trip) ≡ true → first_at t rows ≤ k
first_low t k z [] below here = absurd (omega (arith, below))
first_low t zero z (r ∷ rows) below here = rw here (omega arith)
first_low t (suc k) z (r ∷ rows) below here = elim (cases_Bool (t == r.trip)) [
  | inl same ↦ rw same (omega arith)
  | inr other ↦ let later = first_low t k z rows (omega (arith, below)) here in rw other (omega (arith, later))
]

first_high : (t k : ℕ) (rows : List StopTime) → k ≤ length rows → list_any (λ b. t == b.trip) (take k rows) ≡ false → k ≤ first_at t rows
first_high t zero rows within none = omega arith
first_high t (suc k) [] within none = absurd (omega (arith, within))
first_high t (suc k) (r ∷ rows) within none = elim (cases_Bool (t == r.trip)) [
  | inl same ↦ cc (rw same at none)
  | inr other ↦ let later = first_high t k rows (omega (arith, within)) (rw other at none) in rw other (omega (arith, later))
]

-- ---- a row that stands with those before it

-- of the same trip, and then with a greater sequence, or named
one_of : (same rises named : Bool) → (same && rises || not (same || named)) ≡ true → same ≡ true → rises ≡ true
one_of true true named e is = refl
one_of true false named e is = e
one_of false rises named e is = cc is

none_of : (same rises named : Bool) → (same && rises || not (same || named)) ≡ true → same ≡ false → named ≡ false
none_of true rises named e is = cc is
none_of false rises true e is = sym e
none_of false rises false e is = refl

rises_from : (b : StopTime) (before : List StopTime) (r : StopTime) → stands_with (b ∷ before) r ≡ true → (r.trip == b.trip) ≡ true → b.stop_row.stop_sequence < r.stop_row.stop_sequence
rises_from b before r stands same =
    let above = one_of (r.trip == b.trip) (nat_lt b.stop_row.stop_sequence r.stop_row.stop_sequence) (names_trip before r) stands same in
    grind (arith, nat_tests, above)

not_true : (b : Bool) → not b ≡ true → b ≡ false
not_true true e = sym e
not_true false e = refl

goes : (g t u : Bool) → (g || (t && not u)) ≡ true → u ≡ true → g ≡ true
goes true t u e is = refl
goes false true u e is = sym (ap not is) ∙ e
goes false false u e is = e

no_repeat : (before : List StopTime) (r : StopTime) → stands_with before r ≡ true → repeats_last (last_of before) r ≡ false
no_repeat [] r stands = refl
no_repeat (b ∷ before) r stands = elim (cases_Bool (r.trip == b.trip)) [
  | inl same ↦ let above = rises_from b before r stands same in rw same (grind (arith, nat_tests, above))
  | inr other ↦ rw other refl
]

-- what comes after a row that is no last one without times of its trip
abbrev GoesWell : List StopTime → StopTime → List StopTime → Type 0
GoesWell before r [] = is_untimed r ≡ false
GoesWell before r (a ∷ after) = (stands_with (r ∷ before) a ≡ true) × (fits (last_of (r ∷ before)) a ≡ true)

no_last : (before : List StopTime) (r : StopTime) (after : List StopTime) → GoesWell before r after → is_untimed r ≡ true → ends_trip r after ≡ false
no_last before r [] timed untimed = sym untimed ∙ timed
no_last before r (a ∷ after) next untimed =
    let timed = (and_parts (not (is_late (last_of (r ∷ before)) a)) ((a.trip == r.trip) || (not (is_untimed r) && not (is_untimed a))) next.1).1 in
    let same : (a.trip == r.trip) ≡ true = goes (a.trip == r.trip) true (is_untimed r) (either (a.trip == r.trip) (is_untimed r) (is_untimed a) timed) untimed in
    let above = rises_from r before a next.0 same in
    let one : (r.trip == a.trip) ≡ true = ap (λ t. r.trip == t) (same_number a.trip r.trip same) ∙ number_itself r.trip in
    let other : (r.stop_row.stop_sequence == a.stop_row.stop_sequence) ≡ false = grind (arith, nat_tests, above) in
    rw (one, other) refl
  where
    either : (g u v : Bool) → (g || (not u && not v)) ≡ true → (g || (true && not u)) ≡ true
    either true u v e = refl
    either false true v e = e
    either false false v e = refl

not_end : (untimed inside repeats ends : Bool) → (untimed ≡ true → inside ≡ true) → (untimed ≡ true → ends ≡ false) → (untimed && (not inside || (not repeats && ends))) ≡ false
not_end false inside repeats ends a b = refl
not_end true inside repeats ends a b = rw (a refl, b refl) (and_none (not repeats))

no_end : (before : List StopTime) (r : StopTime) (after : List StopTime) → fits (last_of before) r ≡ true → GoesWell before r after → is_end_untimed (last_of before) r after ≡ false
no_end before r after fit well =
    not_end (is_untimed r) (goes_on (last_of before) r) (repeats_last (last_of before) r) (ends_trip r after)
    (goes (goes_on (last_of before) r) (ends_timed (last_of before)) (is_untimed r)
    (and_parts (not (is_late (last_of before) r)) (goes_on (last_of before) r || (ends_timed (last_of before) && not (is_untimed r))) fit).1) (no_last before r after well)

-- ---- rows that stand together

module _ (rows : List StopTime) (together : are_together (reverse rows) ≡ true) where
  stands_here : (i : ℕ) (z : StopTime) → i < length rows → stands_with (reverse (take i rows)) (get_or rows i z) ≡ true
  stands_here i z below = test_here stands_with rows z together i below

  -- a row and the one before it
  module _ (k : ℕ) (z : StopTime) (next : k + 1 < length rows) where
    abbrev b : StopTime
    b = get_or rows k z

    abbrev r : StopTime
    r = get_or rows (k + 1) z

    below : k < length rows
    below = omega (arith, next)

    stands : stands_with (b ∷ reverse (take k rows)) r ≡ true
    stands = ap (λ rs. stands_with rs r) (sym (before_more rows k z below)) ∙ stands_here (k + 1) z next

    -- in one trip the second does not come first
    less : (r.trip == b.trip) ≡ true → int_cmp (pos r.stop_row.stop_sequence) (pos b.stop_row.stop_sequence) ≡ Greater
    less same =
        int_cmp-pos r.stop_row.stop_sequence b.stop_row.stop_sequence
        ∙ sym (nat_cmp_is r.stop_row.stop_sequence b.stop_row.stop_sequence Greater (rises_from b (reverse (take k rows)) r stands same))

    first_here : (r.trip == b.trip) ≡ false → k + 1 ≤ first_at r.trip rows
    first_here other =
        first_high r.trip (k + 1) rows (omega (arith, next))
        (list_any-IsPermutation (λ b. r.trip == b.trip) (take (k + 1) rows) (reverse (take (k + 1) rows)) (IsPermutation-reverse (take (k + 1) rows))
        ∙ ap (λ rs. names_trip rs r) (before_more rows k z below)
        ∙ (λ i. other i || none_of (r.trip == b.trip) (nat_lt b.stop_row.stop_sequence r.stop_row.stop_sequence) (names_trip (reverse (take k rows)) r) stands other i))

  pub rising : AreRising rows
  rising k z next same =
      let trips : (get_or rows (k + 1) z).trip == (get_or rows k z).trip ≡ true = ap (λ t. (get_or rows (k + 1) z).trip == t) (sym same) ∙ number_itself (get_or rows (k + 1) z).trip in
      (λ i. is_lt (ordering_then (nat_cmp (same i) (get_or rows k z).trip) (ordering_then (less k z next trips i) (nat_cmp (get_or rows (k + 1) z).row (get_or rows k z).row))))
      ∙ ap (λ o. is_lt (ordering_then o Greater)) (tied_itself nat_cmp_total (get_or rows k z).trip)

  module _ (number : List ℕ → ℕ) (name : ℕ → List ℕ) (each : AllNumbered number name rows) where
    -- the number of a trip
    abbrev place : List ℕ → ℕ
    place id = first_at (number id) rows

    place_of : (k : ℕ) (z : StopTime) → k < length rows → place (name (get_or rows k z).trip) ≡ first_at (get_or rows k z).trip rows
    place_of k z within = ap (λ t. first_at t rows) (each k z within)

    sorted : IsSorted (lent_cmp place name) rows
    sorted k z low next = elim (cases_Bool ((r k z next).trip == (b k z next).trip)) [
      | inl same ↦
          ap is_lt (in_trip place (trip_stop_time name (r k z next)) (trip_stop_time name (b k z next)) (sym (same_trips number name (r k z next) (b k z next) (each (k + 1) z next) (each k z (below k z next))) ∙ same)
          ∙ ap (λ o. ordering_then o (nat_cmp (r k z next).row (b k z next).row)) (less k z next same))
      | inr other ↦
          let near : first_at (b k z next).trip rows ≤ k = first_low (b k z next).trip k z rows (below k z next) (number_itself (b k z next).trip) in
          let far = first_here k z next other in
          let trips : nat_cmp (place (name (r k z next).trip)) (place (name (b k z next).trip)) ≡ Greater =
          sym (nat_cmp_is (place (name (r k z next).trip)) (place (name (b k z next).trip)) Greater (omega (arith, far, near, place_of (k + 1) z next, place_of k z (below k z next)))) in
          ap (λ o. is_lt (ordering_then (ordering_then o (text_cmp (name (r k z next).trip) (name (b k z next).trip)))
          (ordering_then (int_cmp (pos (r k z next).stop_row.stop_sequence) (pos (b k z next).stop_row.stop_sequence)) (nat_cmp (r k z next).row (b k z next).row)))) trips
    ]

    pub in_order : (d : Dataset) → map (trip_stop_time name) rows ≡ trip_stop_times_in d → InOrder d (map (trip_stop_time name) rows)
    in_order d same =
        sorted_in_order place name d rows rows same (IsPermutation-refl rows) (sorted_strictly place name d rows rows same (IsPermutation-refl rows) sorted)

-- ---- rows that fit too

module _ (d : Dataset) (number : List ℕ → ℕ) (name : ℕ → List ℕ) (rows : List StopTime) (each : AllNumbered number name rows) (same : map (trip_stop_time name) rows ≡ trip_stop_times_in d)
    (together : are_together (reverse rows) ≡ true) (fit : all_fit (reverse rows) ≡ true) (timed : ends_timed (last_of (reverse rows)) ≡ true) where
  abbrev z : StopTime
  z = noted_row 0 no_row no_note

  abbrev so_far : ℕ → List StopTime
  so_far i = reverse (take i rows)

  fits_here : (i : ℕ) → i < length rows → fits (last_of (so_far i)) (get_or rows i z) ≡ true
  fits_here i below = test_here (λ before. fits (last_of before)) rows z fit i below

  goes_well : (i : ℕ) → i < length rows → GoesWell (so_far i) (get_or rows i z) (drop (i + 1) rows)
  goes_well i below = elim (eq-or-lt_of_le {n = i + 1} {m = length rows} (omega (arith, below))) [
    | inl last ↦
        let whole : get_or rows i z ∷ so_far i ≡ reverse rows = sym (before_more rows i z below) ∙ ap reverse (take_all (i + 1) rows (omega (arith, last))) in
        subst (GoesWell (so_far i) (get_or rows i z)) (sym (drop_all (i + 1) rows (omega (arith, last)))) (not_true (is_untimed (get_or rows i z)) (ap (λ rs. ends_timed (last_of rs)) whole ∙ timed))
    | inr later ↦
        subst (GoesWell (so_far i) (get_or rows i z)) (sym (drop_more rows (i + 1) z later))
        (stands rows together i z later, ap (λ rs. fits (last_of rs) (get_or rows (i + 1) z)) (sym (before_more rows i z below)) ∙ fits_here (i + 1) later)
  ]

  nothing : (l s t : Bool) → t ≡ false → l ≡ (l || (s && t))
  nothing true s t e = refl
  nothing false true t e = sym e
  nothing false false t e = refl

  adds_none : (r : StopTime) (twice at_end back : Bool) (ps : List Problem) → twice ≡ false → at_end ≡ false → back ≡ false → AddsOfRow r twice at_end back ps ps
  adds_none r twice at_end back ps one two three = record {
    first = ps;
    second = ps;
    repeated = λ p. nothing (lists_problem ps p) (is_same (problem_at code.E09 file.StopTimes (codes "stop_sequence") r.row) p) twice one;
    untimed = λ p. nothing (lists_problem ps p) (is_same (problem_at code.E15 file.StopTimes (codes "arrival_time") r.row) p) at_end two;
    late = λ p. nothing (lists_problem ps p) (is_same (problem_at code.E17 file.StopTimes (codes "arrival_time") r.row) p) back three;
  }

  none_so_far : (ps : List Problem) (i : ℕ) → i ≤ length rows → Reports d (seen (rows_before name rows i)) ps ps
  none_so_far ps zero within = seen_none d ps
  none_so_far ps (suc i) within =
      let below : i < length rows = omega (arith, within) in
      let last = last_of (so_far i) in
      let r = get_or rows i z in
      let late = (and_parts (not (is_late last r)) (goes_on last r || (ends_timed last && not (is_untimed r))) (fits_here i below)).0 in
      let next : i + 1 ≡ suc i = omega arith in
      subst (λ n. Reports d (seen (rows_before name rows n)) ps ps) next
      (told_more d number name rows each (in_order rows together number name each d same) i z below last refl ps ps ps (none_so_far ps i (omega (arith, within)))
      (adds_none r (repeats_last last r) (is_end_untimed last r (drop (i + 1) rows)) (is_late last r) ps
      (no_repeat (so_far i) r (stands_here rows together i z below)) (no_end (so_far i) r (drop (i + 1) rows) (fits_here i below) (goes_well i below)) (not_true (is_late last r) late)))

  none_reported : (ps : List Problem) → Reports d breaks_order ps ps
  none_reported ps = all_told d number name rows each (in_order rows together number name each d same) ps ps (none_so_far ps (length rows) (omega arith))

-- ---- rows as they were noted

pub noted_faultless : (trips : List (List ℕ)) (numbers : BTreeMap (Bor (List ℕ)) ℕ) (names : List (Bor (List ℕ))) (counts : List ℕ) (are_sequenced : Bool) (judge : Judge) (rows : List StopTime)
    → AreKept trips numbers names counts are_sequenced judge rows → are_sequenced ≡ true → ((judge.are_together && judge.all_fit) && ends_timed judge.last) ≡ true
    → (d : Dataset) → map (note_of (name_at trips names)) rows ≡ trip_notes_in d → (ps : List Problem) → Reports d breaks_order ps ps
noted_faultless trips numbers names counts are_sequenced judge rows kept sequenced all d notes =
    let timed = and_parts (judge.are_together && judge.all_fit) (ends_timed judge.last) all in
    let both = and_parts judge.are_together judge.all_fit timed.0 in
    let placed : rows ≡ placed_of rows = sym (all_pass (λ r. is_placed r.times) rows (kept.located sequenced)) in
    let are = placed_numbered rows rows placed trips numbers names kept.numbered in
    none_reported d are.number are.name rows are.numbered (are.same ∙ ap rows_of_notes notes ∙ sequenced_rows d) (kept.judged.together both.0) (sym kept.judged.fit ∙ both.1) (ap ends_timed (sym kept.judged.last) ∙ timed.1)
