-- Rows in order, judged one after the other: what is told of each is what the rules say of it.
use Rattle.std.proofs.Common.{◌≡◌, ◌∙◌, ◌+◌, ◌-◌, ◌<◌, ℕ, zero, suc, Bool, true, false, List, [], ◌∷◌, ◌++◌, Option, None, ap, arith, drop, get_or, length, map, option_map, refl, reverse, subst, sym, take}
use Rattle.std.specs.Prelude.{◌&&◌, ◌||◌, ◌==◌, bytes_eq, if◌then◌else◌, not, pos}
use Rattle.std.specs.Cmp.{signed_Decides}
use Rattle.std.specs.Ordering.{int_eq}
use Rattle.std.specs.Option.{option_or}
use Rattle.std.proofs.lemmas.Bool.{eq-eqb, eqb-true as same_number}
use Rattle.std.proofs.lemmas.List.{map-append, reverse-append, take_all}
use Rattle.std.proofs.lemmas.List.Elements.{All-drop, All-take}
use Rattle.std.proofs.lemmas.List.Sorted.{All-permutation, IsPermutation-reverse}
use Rattle.gtfs_table.specs.Tables.{Dataset}
use Rattle.gtfs_schema.specs.Problems.{Problem}
use Rattle.gtfs_schema.specs.steps.FoundProblems.{Reports}
use Rattle.gtfs_field.proofs.NumberFacts.{number_itself}
use Rattle.gtfs_schema.proofs.BoolFacts.{and_parts, same_test}
use Rattle.gtfs_schema.proofs.SiteFacts.{text_is, text_itself}
use Rattle.gtfs_stop_times.specs.KeptTimes.{departs, is_untimed}
use Rattle.gtfs_trip_rules.specs.StopTimePicks.{breaks_order}
use Rattle.gtfs_trip_rules.specs.JudgedTrips.{each_after, ends_trip, goes_on, is_end_untimed, is_late, last_of, left_of, repeats_last, AddsOfRow}
use Rattle.gtfs_trip_rules.specs.TripNumbers.{AllNumbered, IsNumbered}
use Rattle.gtfs_trip_rules.specs.TripOrder.{ends, follows, is_left_later, left_before, repeats, rows_before, same_trip, InOrder}
use Rattle.gtfs_trip_rules.specs.TripStopTimes.{TripStopTime, trip_stop_time}
use Rattle.gtfs_trip_rules.specs.declared.trips.judge.Last.{Last}
use Rattle.gtfs_stop_times.specs.declared.stop_time.StopTime.{StopTime}
use Rattle.gtfs_trip_rules.proofs.SplitLists.{before_more}
use Rattle.gtfs_trip_rules.proofs.TripReports.{before_end, map_or, rows_from_here, seen, seen_all, seen_more}

mapped_if : (c : Bool) (o : Option ℕ) → option_map pos (if c then o else None) ≡ (if c then option_map pos o else None)
mapped_if true o = refl
mapped_if false o = refl

same_integers : (a b : ℕ) → (a == b) ≡ int_eq (pos a) (pos b)
same_integers a b = same_test (a == b) (int_eq (pos a) (pos b))
    (λ e. (signed_Decides (pos a) (pos b)).1 (ap pos (same_number a b e)))
    (λ e. eq-eqb a b (cc ((signed_Decides (pos a) (pos b)).0 e)))

-- ---- by the ids of trips

module _ (number : List ℕ → ℕ) (name : ℕ → List ℕ) where
  abbrev row_of : StopTime → TripStopTime
  row_of = trip_stop_time name

  -- rows whose trips have one number are of one trip, and no others are
  pub same_trips : (a b : StopTime) → IsNumbered number name a → IsNumbered number name b → (a.trip == b.trip) ≡ same_trip (row_of a) (row_of b)
  same_trips a b first second = same_test (a.trip == b.trip) (bytes_eq (name a.trip) (name b.trip))
      (λ e. ap (λ n. bytes_eq (name a.trip) (name n)) (sym (same_number a.trip b.trip e)) ∙ text_itself (name a.trip))
      (λ e. ap (λ n. a.trip == n) (sym second ∙ ap number (sym (text_is (name a.trip) (name b.trip) e)) ∙ first) ∙ number_itself a.trip)

  first_of : (b : StopTime) (before : List StopTime) → AllNumbered number name (b ∷ before) → IsNumbered number name b
  first_of b before each = each 0 b (omega arith)

  rest_of : (b : StopTime) (before : List StopTime) → AllNumbered number name (b ∷ before) → AllNumbered number name before
  rest_of b before each k z below = each (suc k) z (omega (arith, below))

  follows_as : (before : List StopTime) (r : StopTime) → AllNumbered number name before → IsNumbered number name r → goes_on (last_of before) r ≡ follows (map row_of before) (row_of r)
  follows_as [] r each of_r = refl
  follows_as (b ∷ before) r each of_r = same_trips r b of_r (first_of b before each)

  repeats_as : (before : List StopTime) (r : StopTime) → AllNumbered number name before → IsNumbered number name r → repeats_last (last_of before) r ≡ repeats (map row_of before) (row_of r)
  repeats_as [] r each of_r = refl
  repeats_as (b ∷ before) r each of_r = λ i. same_trips r b of_r (first_of b before each) i && same_integers r.stop_row.stop_sequence b.stop_row.stop_sequence i

  left_as : (before : List StopTime) (r : StopTime) → AllNumbered number name before → IsNumbered number name r
      → option_map pos (left_of (last_of before) r) ≡ left_before (map row_of before) (row_of r)
  left_as [] r each of_r = refl
  left_as (b ∷ before) r each of_r =
      mapped_if (r.trip == b.trip) (option_or (departs b) (left_of (last_of before) b))
      ∙ (λ i. if same_trips r b of_r (first_of b before each) i
      then (map_or (departs b) (left_of (last_of before) b) ∙ ap (option_or (option_map pos (departs b))) (left_as before b (rest_of b before each) (first_of b before each))) i else None)

  -- a twin ends its trip where the row does
  twin_ends : (r a : StopTime) (after : List StopTime) → r.trip ≡ a.trip → r.stop_row.stop_sequence ≡ a.stop_row.stop_sequence → ends_trip r after ≡ ends_trip a after
  twin_ends r a [] trip sequence = refl
  twin_ends r a (b ∷ after) trip sequence =
      λ i. if (trip i == b.trip) && (sequence i == b.stop_row.stop_sequence) then twin_ends r a after trip sequence i else not (trip i == b.trip)

  ends_as : (r : StopTime) (after : List StopTime) → IsNumbered number name r → AllNumbered number name after → ends_trip r after ≡ ends (row_of r ∷ map row_of after)
  ends_as r [] of_r each = refl
  ends_as r (a ∷ after) of_r each =
      by_twin (r.trip == a.trip) (r.stop_row.stop_sequence == a.stop_row.stop_sequence) (ends_trip r after) (ends (row_of a ∷ map row_of after))
      (λ trip sequence. twin_ends r a after (same_number r.trip a.trip trip) (same_number r.stop_row.stop_sequence a.stop_row.stop_sequence sequence)
      ∙ ends_as a after (first_of a after each) (rest_of a after each))
      ∙ (λ i. not (same_trips r a of_r (first_of a after each) i) || (same_integers r.stop_row.stop_sequence a.stop_row.stop_sequence i && ends (row_of a ∷ map row_of after)))
    where
      by_twin : (t s e f : Bool) → (t ≡ true → s ≡ true → e ≡ f) → (if t && s then e else not t) ≡ (not t || (s && f))
      by_twin true true e f same = same refl refl
      by_twin true false e f same = refl
      by_twin false s e f same = refl

reversed_map : {X Y : Type 0} (f : X → Y) (xs : List X) → reverse (map f xs) ≡ map f (reverse xs)
reversed_map f [] = refl
reversed_map f (x ∷ xs) =
    reverse-append (f x ∷ []) (map f xs) ∙ ap (λ ys. ys ++ f x ∷ []) (reversed_map f xs)
    ∙ sym (map-append f (reverse xs) (x ∷ [])) ∙ ap (map f) (sym (reverse-append (x ∷ []) xs))

-- ---- all rows

module _ (test : List StopTime → StopTime → Bool) (rows : List StopTime) (z : StopTime) (pass : each_after test (reverse rows) ≡ true) where
  pass_so_far : (k i : ℕ) → i + k ≡ length rows → each_after test (reverse (take i rows)) ≡ true
  pass_so_far zero i all = subst (λ rs. each_after test (reverse rs) ≡ true) (sym (take_all i rows (omega (arith, all)))) pass
  pass_so_far (suc k) i all =
      (and_parts (each_after test (reverse (take i rows))) (test (reverse (take i rows)) (get_or rows i z))
      (ap (each_after test) (sym (before_more rows i z (omega (arith, all)))) ∙ pass_so_far k (i + 1) (omega (arith, all)))).0

  pub test_here : (i : ℕ) → i < length rows → test (reverse (take i rows)) (get_or rows i z) ≡ true
  test_here i below =
      (and_parts (each_after test (reverse (take i rows))) (test (reverse (take i rows)) (get_or rows i z))
      (ap (each_after test) (sym (before_more rows i z below)) ∙ pass_so_far (length rows - (i + 1)) (i + 1) (omega (arith, below)))).1

module _ (d : Dataset) (number : List ℕ → ℕ) (name : ℕ → List ℕ) (rows : List StopTime) (each : AllNumbered number name rows) (o : InOrder d (map (trip_stop_time name) rows)) where
  module _ (i : ℕ) (z : StopTime) (below : i < length rows) where
    abbrev here : StopTime
    here = get_or rows i z

    abbrev so_far : List StopTime
    so_far = reverse (take i rows)

    each_before : AllNumbered number name so_far
    each_before = All-permutation (IsNumbered number name) (take i rows) so_far (IsPermutation-reverse (take i rows)) (All-take (IsNumbered number name) i rows each)

    before_as : map (trip_stop_time name) so_far ≡ rows_before name rows i
    before_as = sym (reversed_map (trip_stop_time name) (take i rows))

    -- what is told of a row after those before it
    pub told_more : (last : Option Last) → last ≡ last_of so_far → (old mid new : List Problem) → Reports d (seen (rows_before name rows i)) old mid
        → AddsOfRow here (repeats_last last here) (is_end_untimed last here (drop (i + 1) rows)) (is_late last here) mid new → Reports d (seen (rows_before name rows (i + 1))) old new
    told_more last is old mid new before adds =
        let of_here : IsNumbered number name here = each i z below in
        let e = trip_stop_time name here in
        let after = ends_as number name here (drop (i + 1) rows) of_here (All-drop (IsNumbered number name) (i + 1) rows each) ∙ ap ends (sym (rows_from_here name rows i z below)) in
        let repeated : repeats_last last here ≡ repeats (rows_before name rows i) e =
        ap (λ l. repeats_last l here) is ∙ repeats_as number name so_far here each_before of_here ∙ ap (λ xs. repeats xs e) before_as in
        let follow : goes_on last here ≡ follows (rows_before name rows i) e =
        ap (λ l. goes_on l here) is ∙ follows_as number name so_far here each_before of_here ∙ ap (λ xs. follows xs e) before_as in
        let left : option_map pos (left_of last here) ≡ left_before (rows_before name rows i) e =
        ap (λ l. option_map pos (left_of l here)) is ∙ left_as number name so_far here each_before of_here ∙ ap (λ xs. left_before xs e) before_as in
        seen_more d name rows o i z below (repeats_last last here) (is_end_untimed last here (drop (i + 1) rows)) (is_late last here) repeated
        (λ j. is_untimed here && (not (follow j) || (not (repeated j) && after j))) (ap (λ l. is_left_later l e.arrival) left) old mid new before adds

  pub all_told : (old new : List Problem) → Reports d (seen (rows_before name rows (length rows))) old new → Reports d breaks_order old new
  all_told old new = seen_all d (rows_before name rows (length rows)) old new (before_end d name rows o (length rows) (omega arith))
