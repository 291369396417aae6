-- A written content has no time that goes back: E17.
use Rattle.std.proofs.Common.{◌≡◌, ◌+◌, ◌<◌, ℕ, List, length, get_or, map, true, false, Bool, Option, Some, None, refl, sym, ap, subst, ◌∙◌, arith, inl, inr}
use Rattle.std.specs.Prelude.{◌&&◌, ◌||◌, not, bytes_eq, filter, nat_lt, option_map, is_some, pos, int_lt}
use Rattle.std.specs.List.{Contains, list_all, list_any}
use Rattle.std.specs.Ordering.{nat_cmp, int_eq}
use Rattle.std.specs.declared.cmp.Ordering.TheVariants.{Less}
use Rattle.std.proofs.lemmas.Bool.{and_parts, and_left, and_right, or_cases, cases_Bool, not-true, both_ways, ltb-true}
use Rattle.gtfs_table.specs.declared.file.File.{File}
use Rattle.gtfs_table.specs.declared.file.File.TheVariants as file
use Rattle.gtfs_schema.specs.TripRules as rule
use Rattle.gtfs_schema.specs.FieldValues.{if_there, if_both}
use Rattle.gtfs_schema.proofs.SiteFacts.{text_is, text_itself}
use Rattle.gtfs_rows.specs.Content.{Content}
use Rattle.gtfs_rows.specs.RowCells.{stop_time_cells, stop_times_of}
use Rattle.gtfs_rows.specs.Rows.{StopRow}
use Rattle.gtfs_rows.specs.SoundContent.{IsSound, comes, leaves, is_sound_stop_row, keeps_time, is_end}
use Rattle.gtfs_rows.specs.WrittenContent.{written_beside}
use Rattle.gtfs_rows.proofs.Held.{held_at, held_pairs}
use Rattle.gtfs_rows.proofs.RangeLists.{none_filter_range}
use Rattle.gtfs_rows.proofs.TripCodes.{contained, there_number, none_kept, less_apart, IsStopTime, stop_time, arrives_at, departs_at, sequence_at, trip_at, keeps, kept_at, less_at}
use Rattle.gtfs_rows.proofs.Views.{rows_are, no_told}

module _ (others : List (List ℕ)) (c : Content) (sound : IsSound c) where
  -- the rows of one id are those of one trip
  same_rows : (q t : List ℕ) (r s : StopRow) (a : IsStopTime c q r) (b : IsStopTime c t s) → q ≡ t → (get_or c.trips a.index a.none).stop_rows ≡ (get_or c.trips b.index b.none).stop_rows
  same_rows q t r s a b same =
      sym (held_at (λ x. x.trip_id) (λ x. x.stop_rows) c.trips a.index a.none a.within sound.in_order.trips)
      ∙ ap (λ u. map (λ p. p.1) (filter (λ p. bytes_eq u p.0) (stop_times_of c))) (sym a.named ∙ same ∙ b.named)
      ∙ held_at (λ x. x.trip_id) (λ x. x.stop_rows) c.trips b.index b.none b.within sound.in_order.trips

  -- a trip leaves no earlier row after it comes to a later one
  in_time : (j k : ℕ) (d e : List ℕ × StopRow) → j < length (stop_times_of c) → k < length (stop_times_of c) → (get_or (stop_times_of c) j d).0 ≡ (get_or (stop_times_of c) k e).0
      → nat_lt (get_or (stop_times_of c) j d).1.stop_sequence (get_or (stop_times_of c) k e).1.stop_sequence ≡ true
      → if_both (comes (get_or (stop_times_of c) k e).1) (leaves (get_or (stop_times_of c) j d).1) nat_lt ≡ false
  in_time j k d e first second same less =
      let p = get_or (stop_times_of c) j d in
      let q = get_or (stop_times_of c) k e in
      let a = stop_time others c sound j d first in
      let b = stop_time others c sound k e second in
      let rs = (get_or c.trips a.index a.none).stop_rows in
      let keeps = (and_parts (is_sound_stop_row c p.1 && (is_some (leaves p.1) || not (is_end rs p.1))) (list_all (keeps_time p.1) rs) a.fine).1 in
      let own : Contains rs q.1 = subst (λ ys. Contains ys q.1) (sym (same_rows p.0 q.0 p.1 q.1 a b same)) b.own in
      elim (or_cases (not (nat_lt p.1.stop_sequence q.1.stop_sequence)) (not (if_both (comes q.1) (leaves p.1) nat_lt)) (contained (keeps_time p.1) rs q.1 keeps own)) [
        | inl never ↦ absurd (both_ways (nat_lt p.1.stop_sequence q.1.stop_sequence) (not-true (nat_lt p.1.stop_sequence q.1.stop_sequence) never) less)
        | inr kept ↦ not-true (if_both (comes q.1) (leaves p.1) nat_lt) kept
      ]

  -- two rows of one trip have different sequences
  different : (j k : ℕ) (d : List ℕ × StopRow) → j < k → k < length (stop_times_of c) → bytes_eq (get_or (stop_times_of c) j d).0 (get_or (stop_times_of c) k d).0 ≡ true
      → nat_cmp (get_or (stop_times_of c) j d).1.stop_sequence (get_or (stop_times_of c) k d).1.stop_sequence ≡ Less
  different j k d = held_pairs (λ t. t.trip_id) (λ t. t.stop_rows) (λ r s. nat_cmp r.stop_sequence s.stop_sequence ≡ Less) c.trips sound.in_order.trips sound.in_order.stop_rows j k d

  module _ (k : ℕ) (e : List ℕ × StopRow) (within : k < length (stop_times_of c)) (a : ℕ) (arrives : comes (get_or (stop_times_of c) k e).1 ≡ Some a) where
    abbrev bad : ℕ → Bool
    bad m = rule.is_timed_before (written_beside others c) (get_or (stop_times_of c) k e).0 (k + 2) m && if_there (rule.departure_in (written_beside others c) m) (int_lt (pos a))

    no_bad : (j : ℕ) → j < length (stop_times_of c) → keeps others c sound (get_or (stop_times_of c) k e).0 (j + 2) ≡ true → bad (j + 2) ≡ false
    no_bad j first kept =
        let q = get_or (stop_times_of c) k e in
        let p = get_or (stop_times_of c) j e in
        let named : q.0 ≡ p.0 = text_is q.0 p.0 (sym (kept_at others c sound q.0 j e first) ∙ kept) in
        let gone = if_there (rule.departure_in (written_beside others c) (j + 2)) (int_lt (pos a)) in
        let stands = rule.stands_before (written_beside others c) (j + 2) (k + 2) in
        let last = not (list_any (λ m. rule.stands_before (written_beside others c) (j + 2) m && rule.stands_before (written_beside others c) m (k + 2)) (rule.timed_rows (written_beside others c) q.0)) in
        elim (cases_Bool stands) [
          | inr no_one ↦ and_left (stands && last) gone (and_left stands last no_one)
          | inl before ↦ elim (or_cases (rule.is_less (written_beside others c) (j + 2) (k + 2)) (rule.is_earlier_equal (written_beside others c) (j + 2) (k + 2)) before) [
            | inl less ↦
                let kept_time = in_time j k e e first within (sym named) (sym (less_at others c sound j k e e first within) ∙ less) in
                let fine : if_there (leaves p.1) (nat_lt a) ≡ false = subst (λ o. if_both o (leaves p.1) nat_lt ≡ false) arrives kept_time in
                and_right (stands && last) gone (ap (λ o. if_there o (int_lt (pos a))) (departs_at others c sound j e first) ∙ there_number a (leaves p.1) fine)
            | inr equal ↦
                let parts = and_parts (nat_lt (j + 2) (k + 2)) (if_both (rule.sequence_in (written_beside others c) (j + 2)) (rule.sequence_in (written_beside others c) (k + 2)) int_eq) equal in
                let order = ltb-true (j + 2) (k + 2) parts.0 in
                let same : int_eq (pos p.1.stop_sequence) (pos q.1.stop_sequence) ≡ true = sym (λ i. if_both (sequence_at others c sound j e first i) (sequence_at others c sound k e within i) int_eq) ∙ parts.1 in
                absurd (less_apart p.1.stop_sequence q.1.stop_sequence (different j k e (omega (arith, order)) within (ap (bytes_eq p.0) named ∙ text_itself p.0)) same)
          ]
        ]

    none_bad : list_any bad (rule.timed_rows (written_beside others c) (get_or (stop_times_of c) k e).0) ≡ false
    none_bad =
        let q = (get_or (stop_times_of c) k e).0 in
        none_kept (λ m. is_some (rule.departure_in (written_beside others c) m)) bad (rule.rows_of_trip (written_beside others c) q)
        (ap (λ ns. list_any bad (filter (keeps others c sound q) ns)) (rows_are others c file.StopTimes (stop_times_of c) stop_time_cells refl (sound.cells file.StopTimes))
        ∙ none_filter_range (keeps others c sound q) bad 2 (length (stop_times_of c)) no_bad)

  no_goes_back : (k : ℕ) (e : List ℕ × StopRow) → k < length (stop_times_of c) → rule.goes_back (written_beside others c) (k + 2) ≡ false
  no_goes_back k e within =
      let p = get_or (stop_times_of c) k e in
      (λ i. if_both (trip_at others c sound k e within i) (arrives_at others c sound k e within i) (λ trip arrives.
      list_any (λ m. rule.is_timed_before (written_beside others c) trip (k + 2) m && if_there (rule.departure_in (written_beside others c) m) (int_lt arrives)) (rule.timed_rows (written_beside others c) trip)))
      ∙ by_arrival (comes p.1) refl
    where
      by_arrival : (o : Option ℕ) → comes (get_or (stop_times_of c) k e).1 ≡ o
          → if_there (option_map pos o) (λ arrives. list_any (λ m. rule.is_timed_before (written_beside others c) (get_or (stop_times_of c) k e).0 (k + 2) m && if_there (rule.departure_in (written_beside others c) m) (int_lt arrives)) (rule.timed_rows (written_beside others c) (get_or (stop_times_of c) k e).0)) ≡ false
      by_arrival None same = refl
      by_arrival (Some a) same = none_bad k e within a same

  pub no_time_goes_back : (y : File) (n : ℕ) (name : List ℕ) → rule.time_goes_back (written_beside others c) y n name ≡ false
  no_time_goes_back = no_told others c file.StopTimes (stop_times_of c) stop_time_cells refl (sound.cells file.StopTimes) "arrival_time" rule.goes_back no_goes_back
