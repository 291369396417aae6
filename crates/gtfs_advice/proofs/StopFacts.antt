-- Stops of sound parts, by their numbers and by their ids.
use Rattle.std.proofs.Common.{◌≡◌, ◌∙◌, ◌+◌, ◌<◌, ◌≤◌, ◌++◌, ℕ, Bool, true, false, List, [], ◌∷◌, Option, Some, None, length, get_or, take, refl, sym, ap, subst, arith}
use Rattle.std.specs.Prelude.{◌==◌, ◌&&◌, ◌||◌, All, bytes_eq, cond, nat_eq, option_map}
use Rattle.std.specs.List.{list_all, list_any, slice_get}
use Rattle.std.specs.Option.{option_and_then, option_eq}
use Rattle.std.specs.declared.cmp.Ordering.TheVariants.{Less}
use Rattle.std.proofs.lemmas.Bool.{and_parts, lt-ltb}
use Rattle.std.proofs.lemmas.List.{length-map, take_all, take_more}
use Rattle.std.proofs.lemmas.List.Folds.{list_any-append}
use Rattle.std.proofs.lemmas.List.Elements.{All-head, All-tail}
use Rattle.std.proofs.lemmas.Option.{get_or_from_slice_get, slice_get_within}
use Rattle.gtfs_field.specs.TextOrder.{text_cmp}
use Rattle.gtfs_field.proofs.ListFacts.{any_alike, any_mapped, mapped_at}
use Rattle.gtfs_schema.specs.FieldValues.{if_there}
use Rattle.gtfs_table.proofs.PartFacts.{length-parts}
use Rattle.gtfs_rows.specs.declared.parts.Parts.{Parts}
use Rattle.gtfs_rows.specs.declared.stop.Stop.{Stop}
use Rattle.gtfs_stop_times.specs.declared.numbers.StopNo.{StopNo}
use Rattle.gtfs_stop_times.specs.declared.stop_row.StopRow.{StopRow}
use Rattle.gtfs_rows.specs.RowChoices.{location_code}
use Rattle.gtfs_rows.specs.NamedRows.{is_number_within, text_of_number}
use Rattle.gtfs_rows.specs.TransferOrder.{Ascends}
use Rattle.gtfs_rows.specs.Trips.{frequencies_by_trip, stop_rows_by_trip}
use Rattle.gtfs_rows.specs.RowsInMemory.{IsSoundParts, content_of_parts, names_stop, stop_ids, stop_of, stop_row_of}
use Rattle.gtfs_rows.proofs.RowTexts.{all_at}
use Rattle.gtfs_rows.proofs.SameElements.{pairs-map}
use Rattle.gtfs_rows.proofs.SoundOrder.{in_order}
use Rattle.gtfs_rows.proofs.TripFacts.{stop_times}
use Rattle.gtfs_advice.specs.declared.advice.Advice.{Advice}
use Rattle.gtfs_advice.specs.declared.advice.Subject.TheVariants as subject
use Rattle.gtfs_advice.specs.declared.code.Code.{Code}
use Rattle.gtfs_advice.specs.Advice.{Tells, advice_on, answers_of, row, said, stop_rules}
use Rattle.gtfs_advice.specs.NumberMarks.{AreMarks, station_of}
use Rattle.gtfs_advice.specs.Stops as advice
use Rattle.gtfs_advice.specs.Stops.{calls_at, is_far, is_far_from_parent, is_part_of}
use Rattle.gtfs_advice.proofs.Marking.{named, or-none}
use Rattle.gtfs_advice.proofs.Numbers.{found_id}
use Rattle.gtfs_advice.proofs.Telling.{told-more}
use Rattle.gtfs_advice.proofs.TripViews.{any_stop_times}

all-within : (n : ℕ) (rs : List StopRow) → All (λ r. r.stop_id.0 < n) rs → list_all (λ r. is_number_within n (Some r.stop_id.0)) rs ≡ true
all-within n [] all = refl
all-within n (r ∷ rs) all =
    let here = lt-ltb r.stop_id.0 n (All-head (λ r. r.stop_id.0 < n) r rs all) in
    let later = all-within n rs (All-tail (λ r. r.stop_id.0 < n) r rs all) in
    λ i. here i && later i

-- a station is named within the stops, since a parent is
station-within : (n : ℕ) (b : Bool) (o : Option ℕ) → is_number_within n o ≡ true → is_number_within n (cond b o None) ≡ true
station-within n true o e = e
station-within n false o e = refl

stations-within : (n : ℕ) (ss : List Stop) → list_all (λ s. is_number_within n (option_map (λ m. m.0) s.parent_station)) ss ≡ true → list_all (λ s. is_number_within n (station_of s)) ss ≡ true
stations-within n [] all = refl
stations-within n (s ∷ ss) all =
    let parts = and_parts (is_number_within n (option_map (λ m. m.0) s.parent_station)) (list_all (λ x. is_number_within n (option_map (λ m. m.0) x.parent_station)) ss) all in
    let here = station-within n (location_code s.location_type == 0) (option_map (λ m. m.0) s.parent_station) parts.0 in
    let later = stations-within n ss parts.1 in
    λ i. here i && later i

-- what a station says of its stop, by its id
station-id : (b : Bool) (o : Option ℕ) (f : ℕ → List ℕ) (t : List ℕ) → option_eq bytes_eq (option_map f (cond b o None)) (Some t) ≡ (b && option_eq bytes_eq (option_map f o) (Some t))
station-id true o f t = refl
station-id false o f t = refl

option-map_map : {A B C : Type 0} (f : A → B) (g : B → C) (o : Option A) → option_map g (option_map f o) ≡ option_map (λ x. g (f x)) o
option-map_map f g None = refl
option-map_map f g (Some x) = refl

module _ (p : Parts) (sound : IsSoundParts p) where
  ascend : Ascends text_cmp (stop_ids p)
  ascend = pairs-map (λ s. s.stop_id) (λ a b. text_cmp a b ≡ Less) p.stops (in_order p sound).stops

  count : length (stop_ids p) ≡ length p.stops
  count = length-map p.stops (λ s. s.stop_id)

  -- ---- marks

  pub called-within : (n : ℕ) (rs : List StopRow) → slice_get (stop_rows_by_trip p) n ≡ Some rs → All (λ r. r.stop_id.0 < length p.stops) rs
  called-within n rs at = (stop_times p sound n rs at).stops

  -- the stop of a number is called at exactly where a stop time names the number
  calls : (k : ℕ) → k < length p.stops → list_any (calls_at (text_of_number (stop_ids p) k)) (content_of_parts p).trips ≡ list_any (list_any (λ r. r.stop_id.0 == k)) (stop_rows_by_trip p)
  calls k within =
      let id = text_of_number (stop_ids p) k in
      any_stop_times p (calls_at id) (list_any (λ r. r.stop_id.0 == k)) p.trips (stop_rows_by_trip p) (frequencies_by_trip p)
      (λ n t rs f at. any_mapped (λ r. bytes_eq r.stop_id id) (stop_row_of p) rs
      ∙ sym (named (λ r. Some r.stop_id.0) (stop_ids p) ascend rs (all-within (length (stop_ids p)) rs (subst (λ m. All (λ r. r.stop_id.0 < m) rs) (sym count) (called-within n rs at))) k (omega (arith, count, within))))
      (length-parts p.stop_times.starts p.stop_times.rows ∙ sound.stop_rows.0) (length-parts p.frequency_starts p.frequencies ∙ sound.frequencies.0)

  part : (id : List ℕ) (s : Stop) → option_eq bytes_eq (option_map (text_of_number (stop_ids p)) (station_of s)) (Some id) ≡ is_part_of id (stop_of p s)
  part id s =
      station-id (location_code s.location_type == 0) (option_map (λ m. m.0) s.parent_station) (text_of_number (stop_ids p)) id
      ∙ ap (λ o. (location_code s.location_type == 0) && option_eq bytes_eq o (Some id)) (option-map_map (λ (m : StopNo). m.0) (text_of_number (stop_ids p)) s.parent_station)

  -- and to it belongs what has its number as its station
  stations : (k : ℕ) → k < length p.stops → list_any (is_part_of (text_of_number (stop_ids p) k)) (content_of_parts p).stops ≡ list_any (λ s. option_eq nat_eq (station_of s) (Some k)) p.stops
  stations k within =
      let id = text_of_number (stop_ids p) k in
      let known = subst (λ m. list_all (λ s. is_number_within m (option_map (λ o. o.0) s.parent_station)) p.stops ≡ true) (sym count) sound.names_rows.stops in
      any_mapped (is_part_of id) (stop_of p) p.stops ∙ sym (any_alike _ _ p.stops (part id))
      ∙ sym (named station_of (stop_ids p) ascend p.stops (stations-within (length (stop_ids p)) p.stops known) k (omega (arith, count, within)))

  abbrev pub AreCalled : List Bool → Type 0
  AreCalled marks = AreMarks (length p.stops) (λ k. list_any (list_any (λ r. r.stop_id.0 == k)) (stop_rows_by_trip p)) marks

  abbrev pub ArePeopled : List Bool → Type 0
  ArePeopled marks = AreMarks (length p.stops) (λ k. list_any (λ s. option_eq nat_eq (station_of s) (Some k)) p.stops) marks

  -- the marks of the trips before the n-th
  abbrev pub AreCalledSoFar : ℕ → List Bool → Type 0
  AreCalledSoFar n marks = AreMarks (length p.stops) (λ k. list_any (list_any (λ r. r.stop_id.0 == k)) (take n (stop_rows_by_trip p))) marks

  pub called-more : (n : ℕ) (rs : List StopRow) (before after : List Bool) → slice_get (stop_rows_by_trip p) n ≡ Some rs → AreCalledSoFar n before
      → AreMarks (length before) (λ k. get_or before k false || list_any (λ r. r.stop_id.0 == k) rs) after → AreCalledSoFar (n + 1) after
  called-more n rs before after at so_far one = record {
    count = one.count ∙ so_far.count;
    at = λ k within.
        let all = stop_rows_by_trip p in
        let list : take (n + 1) all ≡ take n all ++ rs ∷ [] = take_more all n rs (slice_get_within all n rs at) ∙ ap (λ y. take n all ++ y ∷ []) (get_or_from_slice_get all n rs rs at) in
        let names = list_any {X = StopRow} (λ r. r.stop_id.0 == k) in
        one.at k (omega (arith, so_far.count, within)) ∙ ap (λ b. b || names rs) (so_far.at k within)
        ∙ sym (ap (list_any names) list ∙ list_any-append names (take n all) (rs ∷ []) ∙ ap (λ b. list_any names (take n all) || b) (or-none (names rs)));
  }

  pub called-all : (n : ℕ) (marks : List Bool) → length p.trips ≤ n → AreCalledSoFar n marks → AreCalled marks
  called-all n marks all so_far =
      subst (λ rs. AreMarks (length p.stops) (λ k. list_any (list_any (λ r. r.stop_id.0 == k)) rs) marks)
      (take_all n (stop_rows_by_trip p) (omega (arith, all, length-parts p.stop_times.starts p.stop_times.rows, sound.stop_rows.0))) so_far

  -- ---- the parent

  pub far : (s : Stop) (n : StopNo) (parent : Stop) → s.parent_station ≡ Some n → slice_get p.stops n.0 ≡ Some parent → is_far (stop_of p s) (stop_of p parent) ≡ is_far_from_parent (content_of_parts p) (stop_of p s)
  far s n parent has at =
      let c = content_of_parts p in
      let id : text_of_number (stop_ids p) n.0 ≡ parent.stop_id = get_or_from_slice_get (stop_ids p) n.0 parent.stop_id _ (mapped_at (λ x. x.stop_id) p.stops n.0 parent at) in
      let found = found_id (λ x. x.stop_id) c.stops n.0 (stop_of p parent) sound.content.in_order.stops (mapped_at (stop_of p) p.stops n.0 parent at) in
      sym (ap (λ o. if_there (option_and_then (advice.stop_with_id c) (option_map (λ m. text_of_number (stop_ids p) m.0) o)) (is_far (stop_of p s))) has
      ∙ ap (λ t. if_there (advice.stop_with_id c t) (is_far (stop_of p s))) id ∙ ap (λ o. if_there o (is_far (stop_of p s))) found)

  -- ---- the advice on a stop

  module _ (n : ℕ) (s : Stop) (there : slice_get p.stops n ≡ Some s) where
    within : n < length p.stops
    within = slice_get_within p.stops n s there

    id : text_of_number (stop_ids p) n ≡ s.stop_id
    id = get_or_from_slice_get (stop_ids p) n s.stop_id _ (mapped_at (λ x. x.stop_id) p.stops n s there)

    pub names-parent : names_stop p s.parent_station ≡ true
    names-parent = ap (λ x. names_stop p x.parent_station) (sym (get_or_from_slice_get p.stops n s s there)) ∙ all_at (λ x. names_stop p x.parent_station) p.stops n s sound.names_rows.stops within

    pub told : (called peopled : List Bool) → AreCalled called → ArePeopled peopled → (answers : List (Code × Bool))
        → (let c = content_of_parts p in list_any (calls_at s.stop_id) c.trips ≡ get_or called n false → list_any (is_part_of s.stop_id) c.stops ≡ get_or peopled n false
        → answers ≡ answers_of (stop_rules c) (stop_of p s))
        → (old before after : List Advice) → after ≡ before ++ said (subject.Stop (record { 0 = n })) answers
        → let c = content_of_parts p in Tells p (advice_on (λ x. x.stop_id) (stop_rules c) (take n c.stops)) old before
        → Tells p (advice_on (λ x. x.stop_id) (stop_rules c) (take (n + 1) c.stops)) old after
    told called peopled are_called are_peopled answers right old before after behind so_far =
        let c = content_of_parts p in
        let call = ap (λ t. list_any (calls_at t) c.trips) (sym id) ∙ calls n within ∙ sym (are_called.at n within) in
        let station = ap (λ t. list_any (is_part_of t) c.stops) (sym id) ∙ stations n within ∙ sym (are_peopled.at n within) in
        told-more p (λ x. x.stop_id) (stop_rules c) c.stops n (stop_of p s) (subject.Stop (record { 0 = n })) answers old before after (mapped_at (stop_of p) p.stops n s there) (ap row id) within
        (right call station) behind so_far
