-- A written content has none of the problems of trips: E15, E16 and E17.
use Rattle.std.proofs.Common.{◌≡◌, ◌+◌, ◌<◌, ℕ, List, [], ◌∷◌, length, get_or, map, true, false, Bool, cond, Option, Some, None, refl, sym, ap, subst, ◌∙◌, inl, inr}
use Rattle.std.specs.Prelude.{◌==◌, ◌&&◌, ◌||◌, not, bytes_eq, codes, filter, if◌then◌else◌, nat_lt, nat_le, option_map, is_some, is_none, ℤ, pos, int_lt}
use Rattle.std.specs.List.{Contains, list_all, list_any}
use Rattle.std.specs.Option.{option_or}
use Rattle.std.specs.Ordering.{nat_cmp, int_eq}
use Rattle.std.specs.declared.cmp.Ordering.TheVariants.{Less, Equal, Greater}
use Rattle.std.proofs.lemmas.Bool.{and_parts, and_left, and_right, or_cases, or_from, or_left, or_right, or_parts, cases_Bool, not-true, not_from_true, lt-ltb, leb-false}
use Rattle.std.proofs.lemmas.List.Elements.{Contains-get_or}
use Rattle.std.proofs.Math.Bool.{and-true as and_yes}
use Rattle.gtfs_table.specs.Rows.{is_empty}
use Rattle.gtfs_table.specs.declared.file.File.{File}
use Rattle.gtfs_table.specs.declared.file.File.TheVariants as file
use Prim.Native.String.{String as Literal}
use Rattle.gtfs_field.proofs.ListFacts.{any_mapped}
use Rattle.gtfs_schema.specs.Columns.{columns_of, column_named}
use Rattle.gtfs_schema.specs.RowConditions.{word_in, amount_in, is_empty_in}
use Rattle.gtfs_schema.specs.TripRules.{leaves_early, departure_before_arrival}
use Rattle.gtfs_schema.specs.TripRules as rule
use Rattle.gtfs_schema.specs.FieldValues.{if_there, if_both, is_word}
use Rattle.gtfs_rows.specs.NamedCells.{cell_named}
use Rattle.gtfs_schema.proofs.EachFacts.{any_follows}
use Rattle.gtfs_rows.specs.Cells.{Cell}
use Rattle.gtfs_rows.specs.Content.{Content}
use Rattle.gtfs_rows.specs.RowCells.{stop_time_cells, stop_times_of, value_of_number}
use Rattle.gtfs_rows.specs.Rows.{StopRow, Trip}
use Rattle.gtfs_rows.specs.SoundContent.{IsSound, comes, leaves, is_sound_stop_row, is_stop_of, keeps_time, is_end, is_sound_in, is_sound_trip, has_id, is_sound_period}
use Rattle.gtfs_rows.specs.WrittenContent.{written_beside}
use Rattle.gtfs_rows.proofs.Held.{held_at, held_member}
use Rattle.gtfs_rows.proofs.RangeLists.{any_filter_range}
use Rattle.gtfs_rows.proofs.RowTexts.{all_at}
use Rattle.gtfs_rows.proofs.Views.{rows_are, value_at, word_at, amounts_at, empty_at, no_told}

-- ---- tests

pub both_numbers : (a b : Option ℕ) → if_both (option_map pos a) (option_map pos b) int_lt ≡ if_both a b nat_lt
both_numbers None b = refl
both_numbers (Some m) None = refl
both_numbers (Some m) (Some n) = refl

pub contained : {X : Type 0} (p : X → Bool) (xs : List X) (x : X) → list_all p xs ≡ true → Contains xs x → p x ≡ true
contained p xs x all at = ap p (sym at.2) ∙ all_at p xs at.0 x all at.1

pub or_numbers : (a b : Option ℕ) → option_or (option_map pos a) (option_map pos b) ≡ option_map pos (option_or a b)
or_numbers None b = refl
or_numbers (Some m) b = refl

pub there_number : (a : ℕ) (o : Option ℕ) → if_there o (nat_lt a) ≡ false → if_there (option_map pos o) (int_lt (pos a)) ≡ false
there_number a None h = refl
there_number a (Some b) h = h

clear_cell : (v : Cell) → (is_some v || is_none v) ≡ true
clear_cell None = refl
clear_cell (Some x) = refl

pub if_clear : (a b : Bool) (o : Option ℤ) → a ≡ true → b ≡ true → (if a && b then o else None) ≡ o
if_clear a b o p q = rw (p, q) refl

timed_cells : (a b : Option ℕ) → is_some (option_or b a) ≡ true → (is_none (option_map value_of_number a) && is_none (option_map value_of_number b)) ≡ false
timed_cells None None h = cc
timed_cells None (Some n) h = refl
timed_cells (Some m) b h = refl

pub none_kept : {X : Type 0} (p f : X → Bool) (xs : List X) → list_any f xs ≡ false → list_any f (filter p xs) ≡ false
none_kept p f [] h = refl
none_kept p f (x ∷ xs) h =
    let parts = or_parts (f x) (list_any f xs) h in
    elim (cases_Bool (p x)) [
      | inl here ↦ rw here (or_from (f x) (list_any f (filter p xs)) parts.0 (none_kept p f xs parts.1))
      | inr other ↦ rw other (none_kept p f xs parts.1)
    ]

-- not all is some not
some_not : {X : Type 0} (p q : X → Bool) (xs : List X) → ((x : X) → p x ≡ false → q x ≡ true) → list_all p xs ≡ false → list_any q xs ≡ true
some_not p q [] turn h = cc
some_not p q (x ∷ xs) turn h = elim (cases_Bool (p x)) [
  | inl here ↦ let rest : list_all p xs ≡ false = rw here at h in or_right (q x) (list_any q xs) (some_not p q xs turn rest)
  | inr other ↦ or_left (q x) (list_any q xs) (turn x other)
]

above : (a b : ℕ) → nat_le a b ≡ false → nat_lt b a ≡ true
above a b h = lt-ltb b a (leb-false a b h)

pub less_apart : (a b : ℕ) → nat_cmp a b ≡ Less → int_eq (pos a) (pos b) ≡ true → ⊥
less_apart a b less same = elim (cases_Bool (nat_lt a b)) [
  | inl below ↦ let never : false ≡ true = rw below at same in cc
  | inr above ↦ other (a == b) (rw above at less)
]
  where
    other : (t : Bool) → cond t Equal Greater ≡ Less → ⊥
    other true e = cc
    other false e = cc

-- the trip of a stop row
pub record IsStopTime (c : Content) (q : List ℕ) (r : StopRow) : Type 0 where
  pub index : ℕ
  pub none : Trip
  pub within : index < length c.trips
  pub named : q ≡ (get_or c.trips index none).trip_id
  pub fine : is_sound_in c (get_or c.trips index none).stop_rows r ≡ true
  pub own : Contains (get_or c.trips index none).stop_rows r

module _ (others : List (List ℕ)) (c : Content) (sound : IsSound c) where
  pub stop_time : (k : ℕ) (e : List ℕ × StopRow) → k < length (stop_times_of c) → IsStopTime c (get_or (stop_times_of c) k e).0 (get_or (stop_times_of c) k e).1
  stop_time k e within =
      let p = get_or (stop_times_of c) k e in
      let held = held_member (λ t. t.trip_id) (λ t. t.stop_rows) c.trips p (Contains-get_or (stop_times_of c) k e within) in
      let t = get_or c.trips held.there.0 held.row in
      let same : t ≡ held.row = held.there.2 in
      let trip : is_sound_trip c t ≡ true = all_at (is_sound_trip c) c.trips held.there.0 held.row sound.trips held.there.1 in
      let first = and_parts (has_id (λ r. r.route_id) c.routes t.route_id && has_id (λ s. s.service_id) c.services t.service_id && list_all (is_sound_in c t.stop_rows) t.stop_rows) (list_all (is_sound_period t.frequencies) t.frequencies) trip in
      let rows = and_parts (has_id (λ r. r.route_id) c.routes t.route_id && has_id (λ s. s.service_id) c.services t.service_id) (list_all (is_sound_in c t.stop_rows) t.stop_rows) first.0 in
      record {
        index = held.there.0;
        none = held.row;
        within = held.there.1;
        named = held.named ∙ ap (λ u. u.trip_id) (sym same);
        fine = contained (is_sound_in c t.stop_rows) t.stop_rows p.1 rows.1 (subst (λ u. Contains u.stop_rows p.1) (sym same) held.has_it);
        own = subst (λ u. Contains u.stop_rows p.1) (sym same) held.has_it;
      }

  -- ---- E16

  arrival_at : (k : ℕ) (e : List ℕ × StopRow) → k < length (stop_times_of c) → amount_in (written_beside others c) file.StopTimes (k + 2) "arrival_time" ≡ option_map pos ((get_or (stop_times_of c) k e).1.arrival_time)
  arrival_at k e within = amounts_at others c file.StopTimes (stop_times_of c) stop_time_cells refl (sound.cells file.StopTimes) k e within "arrival_time" refl ((get_or (stop_times_of c) k e).1.arrival_time) refl

  departure_at : (k : ℕ) (e : List ℕ × StopRow) → k < length (stop_times_of c) → amount_in (written_beside others c) file.StopTimes (k + 2) "departure_time" ≡ option_map pos ((get_or (stop_times_of c) k e).1.departure_time)
  departure_at k e within = amounts_at others c file.StopTimes (stop_times_of c) stop_time_cells refl (sound.cells file.StopTimes) k e within "departure_time" refl ((get_or (stop_times_of c) k e).1.departure_time) refl

  no_leaves_early : (k : ℕ) (e : List ℕ × StopRow) → k < length (stop_times_of c) → leaves_early (written_beside others c) (k + 2) ≡ false
  no_leaves_early k e within =
      let r = (get_or (stop_times_of c) k e).1 in
      let s = stop_time k e within in
      let rs = (get_or c.trips s.index s.none).stop_rows in
      let outer = and_parts (is_sound_stop_row c r && (is_some (leaves r) || not (is_end rs r))) (list_all (keeps_time r) rs) s.fine in
      let inner = and_parts (is_sound_stop_row c r) (is_some (leaves r) || not (is_end rs r)) outer.0 in
      let row = and_parts (is_stop_of c (0 ∷ []) r.stop_id) (not (if_both r.departure_time r.arrival_time nat_lt)) inner.0 in
      (λ i. if_both (departure_at k e within i) (arrival_at k e within i) int_lt)
      ∙ both_numbers r.departure_time r.arrival_time
      ∙ not-true (if_both r.departure_time r.arrival_time nat_lt) row.1

  pub no_departure_before_arrival : (y : File) (n : ℕ) (name : List ℕ) → departure_before_arrival (written_beside others c) y n name ≡ false
  no_departure_before_arrival = no_told others c file.StopTimes (stop_times_of c) stop_time_cells refl (sound.cells file.StopTimes) "departure_time" leaves_early no_leaves_early

  -- ---- what the rules of trips read of a row

  readable_at : (k : ℕ) (e : List ℕ × StopRow) → k < length (stop_times_of c) → (v : Cell) (column : Literal) → is_empty (codes column) ≡ false
      → cell_named (columns_of file.StopTimes) (stop_time_cells (get_or (stop_times_of c) k e)) (codes column) ≡ v → is_some (column_named file.StopTimes (codes column)) ≡ true
      → rule.is_clear (written_beside others c) (k + 2) column ≡ true
  readable_at k e within v column filled is kept =
      (λ i. is_some ((value_at others c file.StopTimes (stop_times_of c) stop_time_cells refl (sound.cells file.StopTimes) k e within (codes column) filled ∙ is) i)
      || empty_at others c file.StopTimes (stop_times_of c) stop_time_cells refl (sound.cells file.StopTimes) k e within column filled v is kept i)
      ∙ clear_cell v

  pub arrives_at : (k : ℕ) (e : List ℕ × StopRow) → k < length (stop_times_of c) → rule.arrival_in (written_beside others c) (k + 2) ≡ option_map pos (comes (get_or (stop_times_of c) k e).1)
  arrives_at k e within =
      let r = (get_or (stop_times_of c) k e).1 in
      if_clear _ _ _ (readable_at k e within (option_map value_of_number r.arrival_time) "arrival_time" refl refl refl) (readable_at k e within (option_map value_of_number r.departure_time) "departure_time" refl refl refl)
      ∙ (λ i. option_or (arrival_at k e within i) (departure_at k e within i))
      ∙ or_numbers r.arrival_time r.departure_time

  pub departs_at : (k : ℕ) (e : List ℕ × StopRow) → k < length (stop_times_of c) → rule.departure_in (written_beside others c) (k + 2) ≡ option_map pos (leaves (get_or (stop_times_of c) k e).1)
  departs_at k e within =
      let r = (get_or (stop_times_of c) k e).1 in
      if_clear _ _ _ (readable_at k e within (option_map value_of_number r.departure_time) "departure_time" refl refl refl) (readable_at k e within (option_map value_of_number r.arrival_time) "arrival_time" refl refl refl)
      ∙ (λ i. option_or (departure_at k e within i) (arrival_at k e within i))
      ∙ or_numbers r.departure_time r.arrival_time

  pub sequence_at : (k : ℕ) (e : List ℕ × StopRow) → k < length (stop_times_of c) → rule.sequence_in (written_beside others c) (k + 2) ≡ Some (pos (get_or (stop_times_of c) k e).1.stop_sequence)
  sequence_at k e within =
      amounts_at others c file.StopTimes (stop_times_of c) stop_time_cells refl (sound.cells file.StopTimes) k e within "stop_sequence" refl (Some (get_or (stop_times_of c) k e).1.stop_sequence) refl

  pub trip_at : (k : ℕ) (e : List ℕ × StopRow) → k < length (stop_times_of c) → word_in (written_beside others c) file.StopTimes (k + 2) "trip_id" ≡ Some (get_or (stop_times_of c) k e).0
  trip_at k e within = word_at others c file.StopTimes (stop_times_of c) stop_time_cells refl (sound.cells file.StopTimes) k e within "trip_id" refl (Some (get_or (stop_times_of c) k e).0) refl

  -- a row is one of a trip's
  abbrev pub keeps : List ℕ → ℕ → Bool
  keeps q m = rule.is_row_of (written_beside others c) q m && is_some (rule.sequence_in (written_beside others c) m)

  pub kept_at : (q : List ℕ) (k : ℕ) (e : List ℕ × StopRow) → k < length (stop_times_of c) → keeps q (k + 2) ≡ bytes_eq q (get_or (stop_times_of c) k e).0
  kept_at q k e within =
      (λ i. is_word (trip_at k e within i) q && is_some (sequence_at k e within i)) ∙ and_yes (bytes_eq q (get_or (stop_times_of c) k e).0)

  pub less_at : (j k : ℕ) (d e : List ℕ × StopRow) → j < length (stop_times_of c) → k < length (stop_times_of c)
      → rule.is_less (written_beside others c) (j + 2) (k + 2) ≡ nat_lt (get_or (stop_times_of c) j d).1.stop_sequence (get_or (stop_times_of c) k e).1.stop_sequence
  less_at j k d e first second = λ i. if_both (sequence_at j d first i) (sequence_at k e second i) int_lt

  -- a test of the rows of a trip
  any_of_trip : (f : ℕ → Bool) (F : StopRow → Bool) (k : ℕ) (e : List ℕ × StopRow) (within : k < length (stop_times_of c))
      → ((j : ℕ) (d : List ℕ × StopRow) → j < length (stop_times_of c) → f (j + 2) ≡ F (get_or (stop_times_of c) j d).1)
      → list_any f (rule.rows_of_trip (written_beside others c) (get_or (stop_times_of c) k e).0) ≡ list_any F (get_or c.trips (stop_time k e within).index (stop_time k e within).none).stop_rows
  any_of_trip f F k e within same =
      let q = (get_or (stop_times_of c) k e).0 in
      let s = stop_time k e within in
      ap (λ ns. list_any f (filter (keeps q) ns)) (rows_are others c file.StopTimes (stop_times_of c) stop_time_cells refl (sound.cells file.StopTimes))
      ∙ any_filter_range (keeps q) (λ p. bytes_eq q p.0) f (λ p. F p.1) 2 (stop_times_of c) (record { at = kept_at q }) (record { at = same })
      ∙ sym (any_mapped F (λ p. p.1) (filter (λ p. bytes_eq q p.0) (stop_times_of c)))
      ∙ ap (list_any F) (ap (λ t. map (λ p. p.1) (filter (λ p. bytes_eq t p.0) (stop_times_of c))) s.named ∙ held_at (λ t. t.trip_id) (λ t. t.stop_rows) c.trips s.index s.none s.within sound.in_order.trips)

  -- ---- E15

  no_end_untimed : (k : ℕ) (e : List ℕ × StopRow) → k < length (stop_times_of c) → rule.is_end_untimed (written_beside others c) (k + 2) ≡ false
  no_end_untimed k e within =
      let p = get_or (stop_times_of c) k e in
      let r = p.1 in
      let s = stop_time k e within in
      let rs = (get_or c.trips s.index s.none).stop_rows in
      let n = k + 2 in
      let arrival = is_empty_in (written_beside others c) file.StopTimes n "arrival_time" in
      let departure = is_empty_in (written_beside others c) file.StopTimes n "departure_time" in
      let some = is_some (rule.sequence_in (written_beside others c) n) in
      let end : Bool = if_there (word_in (written_beside others c) file.StopTimes n "trip_id") (λ trip. rule.is_first_row (written_beside others c) trip n || rule.is_last_row (written_beside others c) trip n) in
      let outer = and_parts (is_sound_stop_row c r && (is_some (leaves r) || not (is_end rs r))) (list_all (keeps_time r) rs) s.fine in
      let inner = and_parts (is_sound_stop_row c r) (is_some (leaves r) || not (is_end rs r)) outer.0 in
      elim (or_cases (is_some (leaves r)) (not (is_end rs r)) inner.1) [
        | inl timed ↦
            let none : (arrival && departure) ≡ false =
            (λ i. empty_at others c file.StopTimes (stop_times_of c) stop_time_cells refl (sound.cells file.StopTimes) k e within "arrival_time" refl (option_map value_of_number r.arrival_time) refl refl i
            && empty_at others c file.StopTimes (stop_times_of c) stop_time_cells refl (sound.cells file.StopTimes) k e within "departure_time" refl (option_map value_of_number r.departure_time) refl refl i)
            ∙ timed_cells r.arrival_time r.departure_time timed in
            and_left (arrival && departure && some) end (and_left (arrival && departure) some none)
        | inr inside ↦
            let ends = or_parts (list_all (λ t. nat_le r.stop_sequence t.stop_sequence) rs) (list_all (λ t. nat_le t.stop_sequence r.stop_sequence) rs) (not-true (is_end rs r) inside) in
            let before : list_any (λ m. rule.is_less (written_beside others c) m n) (rule.rows_of_trip (written_beside others c) p.0) ≡ true =
            any_of_trip (λ m. rule.is_less (written_beside others c) m n) (λ t. nat_lt t.stop_sequence r.stop_sequence) k e within (λ j d h. less_at j k d e h within)
            ∙ some_not (λ t. nat_le r.stop_sequence t.stop_sequence) (λ t. nat_lt t.stop_sequence r.stop_sequence) rs (λ t h. above r.stop_sequence t.stop_sequence h) ends.0 in
            let after : list_any (λ m. rule.is_less (written_beside others c) n m) (rule.rows_of_trip (written_beside others c) p.0) ≡ true =
            any_of_trip (λ m. rule.is_less (written_beside others c) n m) (λ t. nat_lt r.stop_sequence t.stop_sequence) k e within (λ j d h. less_at k j e d within h)
            ∙ some_not (λ t. nat_le t.stop_sequence r.stop_sequence) (λ t. nat_lt r.stop_sequence t.stop_sequence) rs (λ t h. above t.stop_sequence r.stop_sequence h) ends.1 in
            let first : rule.is_first_row (written_beside others c) p.0 n ≡ false =
            not_from_true (list_any (λ m. rule.stands_before (written_beside others c) m n) (rule.rows_of_trip (written_beside others c) p.0))
            (any_follows (λ m. rule.is_less (written_beside others c) m n) (λ m. rule.stands_before (written_beside others c) m n) (rule.rows_of_trip (written_beside others c) p.0) (λ m h. or_left (rule.is_less (written_beside others c) m n) (rule.is_earlier_equal (written_beside others c) m n) h) before) in
            let last : rule.is_last_row (written_beside others c) p.0 n ≡ false =
            not_from_true (list_any (λ m. rule.is_less (written_beside others c) n m || rule.is_earlier_equal (written_beside others c) m n) (rule.rows_of_trip (written_beside others c) p.0))
            (any_follows (λ m. rule.is_less (written_beside others c) n m) (λ m. rule.is_less (written_beside others c) n m || rule.is_earlier_equal (written_beside others c) m n) (rule.rows_of_trip (written_beside others c) p.0) (λ m h. or_left (rule.is_less (written_beside others c) n m) (rule.is_earlier_equal (written_beside others c) m n) h) after) in
            let none : end ≡ false = ap (λ o. if_there o (λ trip. rule.is_first_row (written_beside others c) trip n || rule.is_last_row (written_beside others c) trip n)) (trip_at k e within) ∙ or_from (rule.is_first_row (written_beside others c) p.0 n) (rule.is_last_row (written_beside others c) p.0 n) first last in
            and_right (arrival && departure && some) end none
      ]

  pub no_untimed_end : (y : File) (n : ℕ) (name : List ℕ) → rule.end_untimed (written_beside others c) y n name ≡ false
  no_untimed_end = no_told others c file.StopTimes (stop_times_of c) stop_time_cells refl (sound.cells file.StopTimes) "arrival_time" rule.is_end_untimed no_end_untimed
