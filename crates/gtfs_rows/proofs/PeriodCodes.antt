-- A written content has no problem of periods: E18 and E19.
use Rattle.std.proofs.Common.{◌≡◌, ◌+◌, ◌<◌, ℕ, List, length, get_or, map, true, false, Some, refl, sym, ap, subst, ◌∙◌, arith, inl, inr}
use Rattle.std.specs.Prelude.{◌==◌, ◌&&◌, not, bytes_eq, filter, nat_lt, pos, int_le}
use Rattle.std.specs.List.{Contains, list_all, list_any}
use Rattle.std.specs.Ordering.{nat_cmp}
use Rattle.std.specs.Cmp.{nat_cmp_total, tied_itself}
use Rattle.std.specs.declared.cmp.Ordering.TheVariants.{Less, Equal}
use Rattle.std.proofs.lemmas.Bool.{and_parts, and_left, and_right, or_cases, cases_Bool, not-true, ltb-true, lt-leb, eqb-true}
use Rattle.std.proofs.lemmas.List.Elements.{Contains-get_or}
use Rattle.gtfs_table.specs.declared.file.File.{File}
use Rattle.gtfs_table.specs.declared.file.File.TheVariants as file
use Rattle.gtfs_table.specs.Rows.{rows}
use Rattle.gtfs_schema.specs.PeriodRules as rule
use Rattle.gtfs_schema.specs.RowConditions.{word_in}
use Rattle.gtfs_schema.specs.FieldValues.{if_there, if_both, is_word}
use Rattle.gtfs_schema.proofs.EachFacts.{none_in_range}
use Rattle.gtfs_schema.proofs.SiteFacts.{text_is, text_itself}
use Rattle.gtfs_rows.specs.Content.{Content}
use Rattle.gtfs_rows.specs.RowCells.{frequency_cells, frequencies_of}
use Rattle.gtfs_rows.specs.Rows.{Frequency, Trip}
use Rattle.gtfs_rows.specs.SoundContent.{IsSound, are_apart, is_sound_period, is_sound_trip, is_sound_in, has_id}
use Rattle.gtfs_rows.specs.WrittenContent.{written_beside}
use Rattle.gtfs_rows.proofs.Held.{held_at, held_member, held_pairs}
use Rattle.gtfs_rows.proofs.TripCodes.{contained}
use Rattle.gtfs_rows.proofs.RowTexts.{all_at}
use Rattle.gtfs_rows.proofs.Views.{rows_are, word_at, amounts_at, no_told}

-- the trip of a period
pub record IsPeriod (c : Content) (q : List ℕ) (p : Frequency) : Type 0 where
  pub index : ℕ
  pub none : Trip
  pub within : index < length c.trips
  pub named : q ≡ (get_or c.trips index none).trip_id
  pub fine : is_sound_period (get_or c.trips index none).frequencies p ≡ true
  pub own : Contains (get_or c.trips index none).frequencies p

module _ (others : List (List ℕ)) (c : Content) (sound : IsSound c) where
  abbrev ps : List (List ℕ × Frequency)
  ps = frequencies_of c

  pub period : (k : ℕ) (e : List ℕ × Frequency) → k < length (frequencies_of c) → IsPeriod c (get_or (frequencies_of c) k e).0 (get_or (frequencies_of c) k e).1
  period k e within =
      let p = get_or (frequencies_of c) k e in
      let held = held_member (λ t. t.trip_id) (λ t. t.frequencies) c.trips p (Contains-get_or (frequencies_of c) k e within) in
      let t = get_or c.trips held.there.0 held.row in
      let same : t ≡ held.row = held.there.2 in
      let trip : is_sound_trip c t ≡ true = all_at (is_sound_trip c) c.trips held.there.0 held.row sound.trips held.there.1 in
      let last = and_parts (has_id (λ r. r.route_id) c.routes t.route_id && has_id (λ s. s.service_id) c.services t.service_id && list_all (is_sound_in c t.stop_rows) t.stop_rows) (list_all (is_sound_period t.frequencies) t.frequencies) trip in
      let own : Contains t.frequencies p.1 = subst (λ u. Contains u.frequencies p.1) (sym same) held.has_it in
      record {
        index = held.there.0;
        none = held.row;
        within = held.there.1;
        named = held.named ∙ ap (λ u. u.trip_id) (sym same);
        fine = contained (is_sound_period t.frequencies) t.frequencies p.1 last.1 own;
        own = own;
      }

  start_at : (k : ℕ) (e : List ℕ × Frequency) → k < length (frequencies_of c) → rule.period_start (written_beside others c) (k + 2) ≡ Some (pos (get_or (frequencies_of c) k e).1.start_time)
  start_at k e h = amounts_at others c file.Frequencies (frequencies_of c) frequency_cells refl (sound.cells file.Frequencies) k e h "start_time" refl (Some (get_or (frequencies_of c) k e).1.start_time) refl

  end_at : (k : ℕ) (e : List ℕ × Frequency) → k < length (frequencies_of c) → rule.period_end (written_beside others c) (k + 2) ≡ Some (pos (get_or (frequencies_of c) k e).1.end_time)
  end_at k e h = amounts_at others c file.Frequencies (frequencies_of c) frequency_cells refl (sound.cells file.Frequencies) k e h "end_time" refl (Some (get_or (frequencies_of c) k e).1.end_time) refl

  pub trip_at : (k : ℕ) (e : List ℕ × Frequency) → k < length (frequencies_of c) → word_in (written_beside others c) file.Frequencies (k + 2) "trip_id" ≡ Some (get_or (frequencies_of c) k e).0
  trip_at k e h = word_at others c file.Frequencies (frequencies_of c) frequency_cells refl (sound.cells file.Frequencies) k e h "trip_id" refl (Some (get_or (frequencies_of c) k e).0) refl

  -- ---- E18

  no_empty_period : (k : ℕ) (e : List ℕ × Frequency) → k < length (frequencies_of c) → rule.ends_at_start (written_beside others c) (k + 2) ≡ false
  no_empty_period k e h =
      let p = (get_or (frequencies_of c) k e).1 in
      let s = period k e h in
      let parts = and_parts (nat_lt p.start_time p.end_time) (list_all (are_apart p) (get_or c.trips s.index s.none).frequencies) s.fine in
      (λ i. if_both (end_at k e h i) (start_at k e h i) int_le) ∙ lt-leb p.end_time p.start_time (ltb-true p.start_time p.end_time parts.0)

  pub no_period_empty : (y : File) (n : ℕ) (name : List ℕ) → rule.period_empty (written_beside others c) y n name ≡ false
  no_period_empty = no_told others c file.Frequencies (frequencies_of c) frequency_cells refl (sound.cells file.Frequencies) "end_time" rule.ends_at_start no_empty_period

  -- ---- E19

  meets_at : (j k : ℕ) (e : List ℕ × Frequency) → j < length (frequencies_of c) → k < length (frequencies_of c) → j < k → (get_or (frequencies_of c) j e).0 ≡ (get_or (frequencies_of c) k e).0
      → rule.periods_meet (written_beside others c) (j + 2) (k + 2) ≡ false
  meets_at j k e first second order same =
      let p = get_or (frequencies_of c) j e in
      let q = get_or (frequencies_of c) k e in
      let a = period j e first in
      let b = period k e second in
      let list = (get_or c.trips a.index a.none).frequencies in
      let rows : (get_or c.trips a.index a.none).frequencies ≡ (get_or c.trips b.index b.none).frequencies =
      sym (held_at (λ x. x.trip_id) (λ x. x.frequencies) c.trips a.index a.none a.within sound.in_order.trips)
      ∙ ap (λ u. map (λ z. z.1) (filter (λ z. bytes_eq u z.0) (frequencies_of c))) (sym a.named ∙ same ∙ b.named)
      ∙ held_at (λ x. x.trip_id) (λ x. x.frequencies) c.trips b.index b.none b.within sound.in_order.trips in
      let own : Contains list q.1 = subst (λ ys. Contains ys q.1) (sym rows) b.own in
      let apart = contained (are_apart p.1) list q.1 (and_parts (nat_lt p.1.start_time p.1.end_time) (list_all (are_apart p.1) list) a.fine).1 own in
      let less : nat_cmp p.1.start_time q.1.start_time ≡ Less = held_pairs (λ t. t.trip_id) (λ t. t.frequencies) (λ r s. nat_cmp r.start_time s.start_time ≡ Less) c.trips sound.in_order.trips sound.in_order.frequencies j k e order second (ap (bytes_eq p.0) (sym same) ∙ text_itself p.0) in
      (λ i. if_both (start_at j e first i) (end_at j e first i) (λ start end. if_both (start_at k e second i) (end_at k e second i) (rule.share_second start end)))
      ∙ elim (or_cases (p.1.start_time == q.1.start_time) (not (rule.share_second (pos p.1.start_time) (pos p.1.end_time) (pos q.1.start_time) (pos q.1.end_time))) apart) [
        | inl equal ↦
            let is : p.1.start_time ≡ q.1.start_time = eqb-true p.1.start_time q.1.start_time equal in
            let tie : nat_cmp p.1.start_time q.1.start_time ≡ Equal = ap (nat_cmp p.1.start_time) (sym is) ∙ tied_itself nat_cmp_total p.1.start_time in
            let clash : Less ≡ Equal = sym less ∙ tie in
            absurd (differ clash)
        | inr none ↦ not-true (rule.share_second (pos p.1.start_time) (pos p.1.end_time) (pos q.1.start_time) (pos q.1.end_time)) none
      ]
    where
      differ : Less ≡ Equal → ⊥
      differ e = cc

  no_overlap : (k : ℕ) (e : List ℕ × Frequency) → k < length (frequencies_of c) → rule.overlaps_earlier (written_beside others c) (k + 2) ≡ false
  no_overlap k e h =
      let q = (get_or (frequencies_of c) k e).0 in
      let bad = λ (m : ℕ). nat_lt m (k + 2) && is_word (word_in (written_beside others c) file.Frequencies m "trip_id") q && rule.periods_meet (written_beside others c) m (k + 2) in
      ap (λ o. if_there o (λ trip. list_any (λ m. nat_lt m (k + 2) && is_word (word_in (written_beside others c) file.Frequencies m "trip_id") trip && rule.periods_meet (written_beside others c) m (k + 2)) (rows (written_beside others c) file.Frequencies))) (trip_at k e h)
      ∙ ap (list_any bad) (rows_are others c file.Frequencies (frequencies_of c) frequency_cells refl (sound.cells file.Frequencies))
      ∙ none_in_range bad 2 (length (frequencies_of c)) (λ j first. elim (cases_Bool (nat_lt (j + 2) (k + 2))) [
        | inr later ↦ and_left (nat_lt (j + 2) (k + 2) && is_word (word_in (written_beside others c) file.Frequencies (j + 2) "trip_id") q) (rule.periods_meet (written_beside others c) (j + 2) (k + 2)) (and_left (nat_lt (j + 2) (k + 2)) (is_word (word_in (written_beside others c) file.Frequencies (j + 2) "trip_id") q) later)
        | inl earlier ↦ elim (cases_Bool (is_word (word_in (written_beside others c) file.Frequencies (j + 2) "trip_id") q)) [
          | inr other ↦ and_left (nat_lt (j + 2) (k + 2) && is_word (word_in (written_beside others c) file.Frequencies (j + 2) "trip_id") q) (rule.periods_meet (written_beside others c) (j + 2) (k + 2)) (and_right (nat_lt (j + 2) (k + 2)) (is_word (word_in (written_beside others c) file.Frequencies (j + 2) "trip_id") q) other)
          | inl named ↦
              let p = (get_or (frequencies_of c) j e).0 in
              let order = ltb-true (j + 2) (k + 2) earlier in
              let same : q ≡ p = text_is q p (ap (λ o. is_word o q) (sym (trip_at j e first)) ∙ named) in
              and_right (nat_lt (j + 2) (k + 2) && is_word (word_in (written_beside others c) file.Frequencies (j + 2) "trip_id") q) (rule.periods_meet (written_beside others c) (j + 2) (k + 2)) (meets_at j k e first h (omega (arith, order)) (sym same))
        ]
      ])

  pub no_periods_overlap : (y : File) (n : ℕ) (name : List ℕ) → rule.periods_overlap (written_beside others c) y n name ≡ false
  no_periods_overlap = no_told others c file.Frequencies (frequencies_of c) frequency_cells refl (sound.cells file.Frequencies) "start_time" rule.overlaps_earlier no_overlap
