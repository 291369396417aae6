-- What the stop times and the frequencies of a trip are in sound parts.
use Rattle.std.proofs.Common.{◌≡◌, ◌-◌, ◌<◌, ◌≤◌, ◌∙◌, ℕ, List, [], ◌∷◌, length, map, get_or, true, false, Option, Some, None, sym, ap, subst, arith, inl, inr}
use Rattle.std.specs.Prelude.{◌==◌, ◌&&◌, ◌||◌, not, nat_lt, nat_le, AllPairs, IfSome, is_some, pos}
use Rattle.std.specs.List.{list_all, slice_get}
use Rattle.std.specs.Ordering.{nat_cmp, on}
use Rattle.std.specs.declared.cmp.Ordering.TheVariants.{Less}
use Rattle.std.proofs.lemmas.Bool.{and_parts, or_cases, or_left, or_right, cases_Bool, both_ways, not-true, ltb-true, ltb-false, lt-ltb, le-ltb, le-leb, eqb-true}
use Rattle.std.proofs.lemmas.List.{get_or-map, length-map}
use Rattle.std.proofs.lemmas.List.Folds.{list_all-map}
use Rattle.std.proofs.lemmas.Option.{get_or_from_slice_get, slice_get-get_or, slice_get_within}
use Rattle.gtfs_field.proofs.ListFacts.{pairs-from_map, some_of}
use Rattle.gtfs_schema.specs.PeriodRules.{share_second}
use Rattle.gtfs_schema.specs.FieldValues.{if_both}
use Rattle.gtfs_table.proofs.PartFacts.{all_in_part, length-parts}
use Rattle.gtfs_rows.specs.declared.frequency.Frequency.{Frequency}
use Rattle.gtfs_rows.specs.declared.parts.Parts.{Parts}
use Rattle.gtfs_stop_times.specs.declared.stop_row.StopRow.{StopRow}
use Rattle.gtfs_rows.specs.declared.trip.Trip.{Trip}
use Rattle.gtfs_rows.specs.TransferOrder.{Ascends}
use Rattle.gtfs_rows.specs.SoundContent.{comes, leaves, keeps_time, is_end, is_sound_in, is_sound_stop_row, is_sound_period, is_sound_trip, is_stop_of, are_apart, has_id}
use Rattle.gtfs_rows.specs.RowsInMemory.{IsSoundParts, content_of_parts, trip_of, stop_row_of, frequency_of, stop_time_names_rows, is_number_within}
use Rattle.gtfs_rows.proofs.RowTexts.{all_at}
use Rattle.gtfs_rows.specs.Trips.{AreStopTimes, ArePeriods, stop_rows_by_trip, frequencies_by_trip}
use Rattle.gtfs_rows.proofs.ListFacts.{all_of, all_from, less_is}
use Rattle.gtfs_rows.proofs.TripsAt.{content_trip}

-- ---- tests

-- a number that is there lies within its list
pub number_within : (count : ℕ) (o : Option ℕ) → is_number_within count o ≡ true → IfSome o (λ n. n < count)
number_within count None within = tt
number_within count (Some n) within = ltb-true n count within

-- of two times that are there the second is not before the first
ordered : (a b : Option ℕ) → not (if_both b a nat_lt) ≡ true → IfSome a (λ x. IfSome b (λ y. x ≤ y))
ordered None b never = tt
ordered (Some x) None never = tt
ordered (Some x) (Some y) never = ltb-false y x (not-true (nat_lt y x) never)

-- periods of which none shares a second with an earlier one
ends_before : (s e s' e' : ℕ) → s < s' → s' < e' → not (share_second (pos s) (pos e) (pos s') (pos e')) ≡ true → e ≤ s'
ends_before s e s' e' before filled apart =
    let later : nat_lt s' s ≡ false = le-ltb s' s (omega arith) in
    elim (cases_Bool (nat_lt e' e)) [
      | inl inside ↦
          let none : nat_lt s' e' ≡ false = not-true (nat_lt s' e') (rw (later, inside) at apart) in
          absurd (both_ways (nat_lt s' e') none (lt-ltb s' e' filled))
      | inr outside ↦ ltb-false s' e (not-true (nat_lt s' e) (rw (later, outside) at apart))
    ]

-- ---- a trip of the content

-- a number whose trip has these stop times and these frequencies
record IsTrip (p : Parts) (t : ℕ) (rs : List StopRow) (fs : List Frequency) : Type 0 where
  pub row : Trip
  pub there : slice_get (content_of_parts p).trips t ≡ Some (trip_of p row rs fs)

module _ (p : Parts) (sound : IsSoundParts p) where
  trip : (t : ℕ) (rs : List StopRow) (fs : List Frequency) → slice_get (stop_rows_by_trip p) t ≡ Some rs → slice_get (frequencies_by_trip p) t ≡ Some fs → IsTrip p t rs fs
  trip t rs fs at_rows at_periods =
      let within : t < length p.trips = omega (arith, slice_get_within (stop_rows_by_trip p) t rs at_rows, length-parts p.stop_times.starts p.stop_times.rows, sound.stop_rows.0) in
      let some = some_of p.trips t within in
      record { row = get_or p.trips t some; there = content_trip p t (get_or p.trips t some) rs fs (slice_get-get_or p.trips t some within) at_rows at_periods }

  module _ (t : ℕ) (rs : List StopRow) (fs : List Frequency) (row : Trip) (there : slice_get (content_of_parts p).trips t ≡ Some (trip_of p row rs fs)) where
    fine : (list_all (is_sound_in (content_of_parts p) (map (stop_row_of p) rs)) (map (stop_row_of p) rs) ≡ true)
        × (list_all (is_sound_period (map frequency_of fs)) (map frequency_of fs) ≡ true)
    fine =
        let c = content_of_parts p in
        let u = trip_of p row rs fs in
        let known = has_id (λ r. r.route_id) c.routes u.route_id && has_id (λ s. s.service_id) c.services u.service_id in
        let rows = list_all (is_sound_in c u.stop_rows) u.stop_rows in
        let last = and_parts (known && rows) (list_all (is_sound_period u.frequencies) u.frequencies) (all_of (is_sound_trip c) c.trips t u sound.content.trips there) in
        ((and_parts known rows last.0).1, last.1)

    in_order : Ascends (on (λ r. r.stop_sequence) nat_cmp) (map (stop_row_of p) rs) × Ascends (on (λ f. f.start_time) nat_cmp) (map frequency_of fs)
    in_order =
        let c = content_of_parts p in
        let u = trip_of p row rs fs in
        let is = get_or_from_slice_get c.trips t u u there in
        let within = slice_get_within c.trips t u there in (
          subst (λ v. Ascends (on (λ r. r.stop_sequence) nat_cmp) v.stop_rows) is (sound.content.in_order.stop_rows t u within),
          subst (λ v. Ascends (on (λ f. f.start_time) nat_cmp) v.frequencies) is (sound.content.in_order.frequencies t u within),
        )

    -- ---- stop times

    row_fine : (k : ℕ) (d : StopRow) → k < length rs → is_sound_in (content_of_parts p) (map (stop_row_of p) rs) (stop_row_of p (get_or rs k d)) ≡ true
    row_fine k d within =
        let q = is_sound_in (content_of_parts p) (map (stop_row_of p) rs) in
        ap q (sym (get_or-map (stop_row_of p) rs k d (stop_row_of p d) within))
        ∙ all_at q (map (stop_row_of p) rs) k (stop_row_of p d) fine.0 (omega (arith, length-map rs (stop_row_of p)))

    ascending : AllPairs (λ r s. r.stop_sequence < s.stop_sequence) rs
    ascending i j d before within =
        let less = pairs-from_map (stop_row_of p) (λ a b. nat_cmp a.stop_sequence b.stop_sequence ≡ Less) rs in_order.0 i j d before within in
        less_is (get_or rs i d).stop_sequence (get_or rs j d).stop_sequence less

    -- the parts of what holds of a row
    row_parts : (k : ℕ) (d : StopRow) → k < length rs
        → (is_sound_stop_row (content_of_parts p) (stop_row_of p (get_or rs k d)) ≡ true)
        × ((is_some (leaves (stop_row_of p (get_or rs k d))) || not (is_end (map (stop_row_of p) rs) (stop_row_of p (get_or rs k d)))) ≡ true)
        × (list_all (keeps_time (stop_row_of p (get_or rs k d))) (map (stop_row_of p) rs) ≡ true)
    row_parts k d within =
        let c = content_of_parts p in
        let all = map (stop_row_of p) rs in
        let r = stop_row_of p (get_or rs k d) in
        let outer = and_parts (is_sound_stop_row c r && (is_some (leaves r) || not (is_end all r))) (list_all (keeps_time r) all) (row_fine k d within) in
        let inner = and_parts (is_sound_stop_row c r) (is_some (leaves r) || not (is_end all r)) outer.0 in
        (inner.0, inner.1, outer.1)

    -- a row at an end of the trip has a time
    timed : (k : ℕ) (d : StopRow) → k < length rs → is_end (map (stop_row_of p) rs) (stop_row_of p (get_or rs k d)) ≡ true → is_some (leaves (stop_row_of p (get_or rs k d))) ≡ true
    timed k d within at_end =
        let r = stop_row_of p (get_or rs k d) in
        elim (or_cases (is_some (leaves r)) (not (is_end (map (stop_row_of p) rs) r)) (row_parts k d within).1) [
          | inl has ↦ has
          | inr inside ↦ absurd (both_ways (is_end (map (stop_row_of p) rs) r) (not-true (is_end (map (stop_row_of p) rs) r) inside) at_end)
        ]

    first : (d : StopRow) → 0 < length rs → is_some (leaves (stop_row_of p (get_or rs 0 d))) ≡ true
    first d filled =
        let r = stop_row_of p (get_or rs 0 d) in
        let each : (k : ℕ) → k < length rs → nat_le r.stop_sequence (get_or rs k d).stop_sequence ≡ true =
        λ k within. elim (cases_Bool (nat_lt 0 k)) [
          | inl later ↦ le-leb r.stop_sequence (get_or rs k d).stop_sequence (omega (arith, ascending 0 k d (ltb-true 0 k later) within))
          | inr same ↦ let start : k ≡ 0 = omega (arith, ltb-false 0 k same) in rw start (le-leb r.stop_sequence r.stop_sequence (omega arith))
        ] in
        let lowest = list_all-map (λ s. nat_le r.stop_sequence s.stop_sequence) (stop_row_of p) rs ∙ all_from (λ s. nat_le r.stop_sequence s.stop_sequence) rs d each in
        timed 0 d filled (or_left (list_all (λ s. nat_le r.stop_sequence s.stop_sequence) (map (stop_row_of p) rs))
        (list_all (λ s. nat_le s.stop_sequence r.stop_sequence) (map (stop_row_of p) rs)) lowest)

    last : (d : StopRow) → 0 < length rs → is_some (leaves (stop_row_of p (get_or rs (length rs - 1) d))) ≡ true
    last d filled =
        let n = length rs - 1 in
        let inside : n < length rs = omega arith in
        let r = stop_row_of p (get_or rs n d) in
        let each : (k : ℕ) → k < length rs → nat_le (get_or rs k d).stop_sequence r.stop_sequence ≡ true =
        λ k within. elim (cases_Bool (nat_lt k n)) [
          | inl earlier ↦ le-leb (get_or rs k d).stop_sequence r.stop_sequence (omega (arith, ascending k n d (ltb-true k n earlier) inside))
          | inr same ↦ let end : k ≡ n = omega (arith, ltb-false k n same) in rw end (le-leb r.stop_sequence r.stop_sequence (omega arith))
        ] in
        let highest = list_all-map (λ s. nat_le s.stop_sequence r.stop_sequence) (stop_row_of p) rs ∙ all_from (λ s. nat_le s.stop_sequence r.stop_sequence) rs d each in
        timed n d inside (or_right (list_all (λ s. nat_le r.stop_sequence s.stop_sequence) (map (stop_row_of p) rs))
        (list_all (λ s. nat_le s.stop_sequence r.stop_sequence) (map (stop_row_of p) rs)) highest)

    kept : (i j : ℕ) (d : StopRow) → i < j → j < length rs → IfSome (leaves (stop_row_of p (get_or rs i d))) (λ a. IfSome (comes (stop_row_of p (get_or rs j d))) (λ b. a ≤ b))
    kept i j d before within =
        let r = stop_row_of p (get_or rs i d) in
        let s = stop_row_of p (get_or rs j d) in
        let keeps : keeps_time r s ≡ true = ap (keeps_time r) (sym (get_or-map (stop_row_of p) rs j d (stop_row_of p d) within))
        ∙ all_at (keeps_time r) (map (stop_row_of p) rs) j (stop_row_of p d) (row_parts i d (omega arith)).2 (omega (arith, length-map rs (stop_row_of p))) in
        elim (or_cases (not (nat_lt r.stop_sequence s.stop_sequence)) (not (if_both (comes s) (leaves r) nat_lt)) keeps) [
          | inl never ↦ absurd (both_ways (nat_lt r.stop_sequence s.stop_sequence) (not-true (nat_lt r.stop_sequence s.stop_sequence) never) (lt-ltb r.stop_sequence s.stop_sequence (ascending i j d before within)))
          | inr time ↦ ordered (leaves r) (comes s) time
        ]

    stays : (k : ℕ) (d : StopRow) → k < length rs → IfSome (get_or rs k d).arrival_time (λ a. IfSome (get_or rs k d).departure_time (λ b. a ≤ b))
    stays k d within =
        let r = stop_row_of p (get_or rs k d) in
        let parts = and_parts (is_stop_of (content_of_parts p) (0 ∷ []) r.stop_id) (not (if_both r.departure_time r.arrival_time nat_lt)) (row_parts k d within).0 in
        ordered r.arrival_time r.departure_time parts.1

    -- ---- frequencies

    period : (k : ℕ) (d : Frequency) → k < length fs → is_sound_period (map frequency_of fs) (frequency_of (get_or fs k d)) ≡ true
    period k d within =
        let q = is_sound_period (map frequency_of fs) in
        ap q (sym (get_or-map frequency_of fs k d (frequency_of d) within))
        ∙ all_at q (map frequency_of fs) k (frequency_of d) fine.1 (omega (arith, length-map fs frequency_of))

    filled : (k : ℕ) (d : Frequency) → k < length fs → (get_or fs k d).start_time < (get_or fs k d).end_time
    filled k d within =
        let f = frequency_of (get_or fs k d) in
        ltb-true f.start_time f.end_time (and_parts (nat_lt f.start_time f.end_time) (list_all (are_apart f) (map frequency_of fs)) (period k d within)).0

    apart : (i j : ℕ) (d : Frequency) → i < j → j < length fs → (get_or fs i d).end_time ≤ (get_or fs j d).start_time
    apart i j d before within =
        let f = frequency_of (get_or fs i d) in
        let g = frequency_of (get_or fs j d) in
        let all = (and_parts (nat_lt f.start_time f.end_time) (list_all (are_apart f) (map frequency_of fs)) (period i d (omega arith))).1 in
        let two : are_apart f g ≡ true = ap (are_apart f) (sym (get_or-map frequency_of fs j d (frequency_of d) within))
        ∙ all_at (are_apart f) (map frequency_of fs) j (frequency_of d) all (omega (arith, length-map fs frequency_of)) in
        let later : f.start_time < g.start_time = less_is f.start_time g.start_time (pairs-from_map frequency_of (λ a b. nat_cmp a.start_time b.start_time ≡ Less) fs in_order.1 i j d before within) in
        elim (or_cases (f.start_time == g.start_time) (not (share_second (pos f.start_time) (pos f.end_time) (pos g.start_time) (pos g.end_time))) two) [
          | inl same ↦ absurd (omega (arith, later, eqb-true f.start_time g.start_time same))
          | inr clear ↦ ends_before f.start_time f.end_time g.start_time g.end_time later (filled j d within) clear
        ]

  -- ---- what callers cite

  pub stop_times : (t : ℕ) (rs : List StopRow) → slice_get (stop_rows_by_trip p) t ≡ Some rs → AreStopTimes p rs
  stop_times t rs at_rows =
      let within : t < length (frequencies_by_trip p) = omega (
        arith,
        slice_get_within (stop_rows_by_trip p) t rs at_rows,
        length-parts p.stop_times.starts p.stop_times.rows,
        sound.stop_rows.0,
        length-parts p.frequency_starts p.frequencies,
        sound.frequencies.0,
      ) in
      let fs = get_or (frequencies_by_trip p) t [] in
      let u = trip t rs fs at_rows (slice_get-get_or (frequencies_by_trip p) t [] within) in
      let named = all_in_part (stop_time_names_rows p) p.stop_times.starts p.stop_times.rows t rs sound.names_rows.stop_rows at_rows in
      let names = λ (k : ℕ) (d : StopRow) (h : k < length rs). and_parts (nat_lt (get_or rs k d).stop_id.0 (length p.stops)) (is_number_within (length p.headsigns) (get_or rs k d).stop_headsign)
      (all_at (stop_time_names_rows p) rs k d named h) in
      record {
        stops = λ k d h. ltb-true (get_or rs k d).stop_id.0 (length p.stops) (names k d h).0;
        headsigns = λ k d h. number_within (length p.headsigns) (get_or rs k d).stop_headsign (names k d h).1;
        ascend = ascending t rs fs u.row u.there;
        stay = stays t rs fs u.row u.there;
        run_on = kept t rs fs u.row u.there;
        first_timed = first t rs fs u.row u.there;
        last_timed = last t rs fs u.row u.there;
      }

  pub periods : (t : ℕ) (fs : List Frequency) → slice_get (frequencies_by_trip p) t ≡ Some fs → ArePeriods fs
  periods t fs at_periods =
      let within : t < length (stop_rows_by_trip p) = omega (
        arith,
        slice_get_within (frequencies_by_trip p) t fs at_periods,
        length-parts p.stop_times.starts p.stop_times.rows,
        sound.stop_rows.0,
        length-parts p.frequency_starts p.frequencies,
        sound.frequencies.0,
      ) in
      let rs = get_or (stop_rows_by_trip p) t [] in
      let u = trip t rs fs (slice_get-get_or (stop_rows_by_trip p) t [] within) at_periods in
      record { filled = filled t rs fs u.row u.there; apart = apart t rs fs u.row u.there }
