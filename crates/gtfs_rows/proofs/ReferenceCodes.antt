-- What the references of a written content name: parts of E10 and E11.
use Rattle.std.proofs.Common.{◌≡◌, ◌+◌, ◌<◌, ℕ, List, [], ◌∷◌, length, get_or, map, true, false, Bool, cond, Option, Some, None, refl, sym, ap, ◌∙◌, inl, inr}
use Rattle.std.specs.Prelude.{◌==◌, nat_lt, if◌then◌else◌, ◌&&◌, ◌||◌, not, bytes_eq, codes, find, option_and_then, is_some, pos, unsigned_abs}
use Prim.Native.String.{String as Literal}
use Rattle.std.specs.List.{list_all, list_any}
use Rattle.std.specs.Ordering.{int_eq}
use Rattle.std.proofs.lemmas.Bool.{and_parts, not_from_true, eqb-true, eq-eqb, or_from, and_left, and_right, cases_Bool, both_ways, false_from_ne_true}
use Rattle.std.proofs.lemmas.Bool.Decides.{Decides-int_eq}
use Rattle.gtfs_field.proofs.ListFacts.{any_alike}
use Rattle.gtfs_table.specs.declared.file.File.{File}
use Rattle.gtfs_table.specs.declared.file.File.TheVariants as file
use Rattle.gtfs_table.specs.Rows.{is_empty}
use Rattle.gtfs_schema.specs.Columns.{columns_of}
use Rattle.gtfs_schema.specs.RowConditions.{text_in, word_in, choice_in, row_with}
use Rattle.gtfs_schema.specs.StopRules.{names_none_of, has_parent_of_other_type, wrong_kind_of_stop}
use Rattle.gtfs_schema.specs.FieldValues.{if_there, is_one_of}
use Rattle.gtfs_schema.proofs.BoolFacts.{same_test}
use Rattle.gtfs_rows.specs.Cells.{Cell, are_cells}
use Rattle.gtfs_rows.specs.Content.{Content}
use Rattle.gtfs_rows.specs.NamedCells.{text_named}
use Rattle.gtfs_rows.specs.RowCells.{cells_in, transfer_cells, stop_cells, stop_time_cells, stop_times_of, value_of_number}
use Rattle.gtfs_rows.specs.Rows.{Stop, StopRow, Transfer}
use Rattle.gtfs_rows.proofs.RowTexts.{all_at}
use Rattle.gtfs_rows.specs.SoundContent.{IsSound, has_name_and_position, has_right_parent, is_sound_stop, if_given, has_id, is_stop_of, is_sound_transfer, is_sound_stop_row, is_end, leaves, keeps_time}
use Rattle.gtfs_rows.specs.WrittenContent.{written_beside}
use Rattle.gtfs_rows.proofs.RangeLists.{find_range, some_range}
use Rattle.gtfs_rows.proofs.TripCodes.{stop_time}
use Rattle.gtfs_rows.proofs.Views.{rows_are, value_at, text_at', word_at, choice_from, no_told}

-- a file has the row of an id just where one of its rows has it
pub known_in : {X : Type 0} (others : List (List ℕ)) (c : Content) (x : File) (xs : List X) (cells : X → List Cell) (are : cells_in c x ≡ map cells xs) (sound : list_all (are_cells (columns_of x)) (cells_in c x) ≡ true)
    (column : Literal) → is_empty (codes column) ≡ false → (id : X → List ℕ) → ((r : X) → text_named (columns_of x) (cells r) (codes column) ≡ id r)
    → (t : List ℕ) → is_some (row_with (written_beside others c) x (codes column) t) ≡ has_id id xs t
known_in others c x xs cells are sound column filled id is t =
    ap (λ ns. is_some (find (λ m. bytes_eq (text_in (written_beside others c) x m (codes column)) t) ns)) (rows_are others c x xs cells are sound)
    ∙ some_range (λ m. bytes_eq (text_in (written_beside others c) x m (codes column)) t) (λ r. bytes_eq (id r) t) 2 xs
    (record { at = λ k e h. ap (λ u. bytes_eq u t) (text_at' others c x xs cells are sound k e h (codes column) filled ∙ is (get_or xs k e)) })

pub same_code : (w n : ℕ) → (w == n) ≡ int_eq (pos n) (pos w)
same_code w n = same_test (w == n) (int_eq (pos n) (pos w))
    (λ e. (Decides-int_eq (pos n) (pos w)).1 (ap pos (sym (eqb-true w n e))))
    (λ e. eq-eqb w n (ap unsigned_abs (sym ((Decides-int_eq (pos n) (pos w)).0 e))))

wanted_found : (types : List ℕ) (o : Option Stop) → if_there o (λ s. list_any (λ w. w == s.location_type) types) ≡ true
    → if_there (option_and_then (λ s. Some (pos s.location_type)) o) (λ t. not (is_one_of types t)) ≡ false
wanted_found types None h = refl
wanted_found types (Some s) h =
    not_from_true (is_one_of types (pos s.location_type)) (sym (any_alike (λ w. w == s.location_type) (λ w. int_eq (pos s.location_type) (pos w)) types (λ w. same_code w s.location_type)) ∙ h)

module _ (others : List (List ℕ)) (c : Content) (sound : IsSound c) where
  -- the type of the stop of an id
  type_of : (t : List ℕ) → option_and_then (λ m. choice_in (written_beside others c) file.Stops m "location_type") (row_with (written_beside others c) file.Stops (codes "stop_id") t)
      ≡ option_and_then (λ s. Some (pos s.location_type)) (find (λ s. bytes_eq s.stop_id t) c.stops)
  type_of t =
      ap (λ ns. option_and_then (λ m. choice_in (written_beside others c) file.Stops m "location_type") (find (λ m. bytes_eq (text_in (written_beside others c) file.Stops m (codes "stop_id")) t) ns)) (rows_are others c file.Stops c.stops stop_cells refl (sound.cells file.Stops))
      ∙ find_range (λ m. bytes_eq (text_in (written_beside others c) file.Stops m (codes "stop_id")) t) (λ s. bytes_eq s.stop_id t) (λ m. choice_in (written_beside others c) file.Stops m "location_type") (λ s. Some (pos s.location_type)) 2 c.stops
      (record { at = λ k e h. ap (λ u. bytes_eq u t) (text_at' others c file.Stops c.stops stop_cells refl (sound.cells file.Stops) k e h (codes "stop_id") refl) })
      (record { at = λ k e h. choice_from (written_beside others c) file.Stops (k + 2) "location_type" (value_of_number (get_or c.stops k e).location_type) (value_at others c file.Stops c.stops stop_cells refl (sound.cells file.Stops) k e h (codes "location_type") refl) })

  -- a reference to a stop of a wanted type
  pub names_wanted : (types : List ℕ) (x : File) (n : ℕ) (column : Literal) (t : List ℕ) → word_in (written_beside others c) x n column ≡ Some t → is_stop_of c types t ≡ true → names_none_of types x column (written_beside others c) n ≡ false
  names_wanted types x n column t there wanted =
      ap (λ o. if_there (option_and_then (λ m. choice_in (written_beside others c) file.Stops m "location_type") (option_and_then (row_with (written_beside others c) file.Stops (codes "stop_id")) o)) (λ u. not (is_one_of types u))) there
      ∙ ap (λ o. if_there o (λ u. not (is_one_of types u))) (type_of t)
      ∙ wanted_found types (find (λ s. bytes_eq s.stop_id t) c.stops) wanted

  -- no reference
  pub names_nothing : (types : List ℕ) (x : File) (n : ℕ) (column : Literal) → word_in (written_beside others c) x n column ≡ None → names_none_of types x column (written_beside others c) n ≡ false
  names_nothing types x n column none =
      ap (λ o. if_there (option_and_then (λ m. choice_in (written_beside others c) file.Stops m "location_type") (option_and_then (row_with (written_beside others c) file.Stops (codes "stop_id")) o)) (λ u. not (is_one_of types u))) none

  -- E11 of stop times
  no_other_stop : (k : ℕ) (e : List ℕ × StopRow) → k < length (stop_times_of c) → names_none_of (0 ∷ []) file.StopTimes "stop_id" (written_beside others c) (k + 2) ≡ false
  no_other_stop k e within =
      let r = (get_or (stop_times_of c) k e).1 in
      let s = stop_time others c sound k e within in
      let rs = (get_or c.trips s.index s.none).stop_rows in
      let outer = and_parts (is_sound_stop_row c r && (is_some (leaves r) || not (is_end rs r))) (list_all (keeps_time r) rs) s.fine in
      let inner = and_parts (is_sound_stop_row c r) (is_some (leaves r) || not (is_end rs r)) outer.0 in
      let row = and_parts (is_stop_of c (0 ∷ []) r.stop_id) _ inner.0 in
      names_wanted (0 ∷ []) file.StopTimes (k + 2) "stop_id" r.stop_id
      (word_at others c file.StopTimes (stop_times_of c) stop_time_cells refl (sound.cells file.StopTimes) k e within "stop_id" refl (Some r.stop_id) refl) row.0

  -- E10 of a stop: a stop of some type is a stop
  pub stop_known : (types : List ℕ) (t : List ℕ) → is_stop_of c types t ≡ true → is_some (row_with (written_beside others c) file.Stops (codes "stop_id") t) ≡ true
  stop_known types t wanted = known_in others c file.Stops c.stops stop_cells refl (sound.cells file.Stops) "stop_id" refl (λ s. s.stop_id) (λ s. refl) t ∙ there c.stops wanted
    where
      there : (ss : List Stop) → if_there (find (λ s. bytes_eq s.stop_id t) ss) (λ s. list_any (λ w. w == s.location_type) types) ≡ true → has_id (λ s. s.stop_id) ss t ≡ true
      there [] h = cc
      there (s ∷ ss) h = step (bytes_eq s.stop_id t) s ss h (there ss)
        where
          step : (b : Bool) (s : Stop) (ss : List Stop) → if_there (cond b (Some s) (find (λ s. bytes_eq s.stop_id t) ss)) (λ s. list_any (λ w. w == s.location_type) types) ≡ true
              → (if_there (find (λ s. bytes_eq s.stop_id t) ss) (λ s. list_any (λ w. w == s.location_type) types) ≡ true → has_id (λ s. s.stop_id) ss t ≡ true) → (b || has_id (λ s. s.stop_id) ss t) ≡ true
          step true s ss h rest = refl
          step false s ss h rest = rest h

-- ---- E11

module _ (others : List (List ℕ)) (c : Content) (sound : IsSound c) where
  end_named : (o : Option (List ℕ)) (n : ℕ) (column : Literal) → word_in (written_beside others c) file.Transfers n column ≡ o → if_given o (is_stop_of c (0 ∷ 1 ∷ [])) ≡ true → names_none_of (0 ∷ 1 ∷ []) file.Transfers column (written_beside others c) n ≡ false
  end_named None n column is fine = names_nothing others c sound (0 ∷ 1 ∷ []) file.Transfers n column is
  end_named (Some t) n column is fine = names_wanted others c sound (0 ∷ 1 ∷ []) file.Transfers n column t is fine

  ends : (k : ℕ) (e : Transfer) → k < length c.transfers
      → (if_given (get_or c.transfers k e).from_stop_id (is_stop_of c (0 ∷ 1 ∷ [])) ≡ true) × (if_given (get_or c.transfers k e).to_stop_id (is_stop_of c (0 ∷ 1 ∷ [])) ≡ true)
  ends k e h =
      let a = and_parts _ _ (all_at (is_sound_transfer c) c.transfers k e sound.transfers h) in
      let b = and_parts _ _ a.0 in let d = and_parts _ _ b.0 in let f = and_parts _ _ d.0 in let g = and_parts _ _ f.0 in
      and_parts _ _ g.0

  from_end : (k : ℕ) (e : Transfer) → k < length c.transfers → names_none_of (0 ∷ 1 ∷ []) file.Transfers "from_stop_id" (written_beside others c) (k + 2) ≡ false
  from_end k e h = end_named (get_or c.transfers k e).from_stop_id (k + 2) "from_stop_id" (word_at others c file.Transfers c.transfers transfer_cells refl (sound.cells file.Transfers) k e h "from_stop_id" refl (get_or c.transfers k e).from_stop_id refl) (ends k e h).0

  to_end : (k : ℕ) (e : Transfer) → k < length c.transfers → names_none_of (0 ∷ 1 ∷ []) file.Transfers "to_stop_id" (written_beside others c) (k + 2) ≡ false
  to_end k e h = end_named (get_or c.transfers k e).to_stop_id (k + 2) "to_stop_id" (word_at others c file.Transfers c.transfers transfer_cells refl (sound.cells file.Transfers) k e h "to_stop_id" refl (get_or c.transfers k e).to_stop_id refl) (ends k e h).1

  -- the parent of a stop
  other_type : (n : ℕ) → (n == 4) ≡ false → is_one_of (4 ∷ []) (pos n) ≡ false
  other_type n apart = or_from (int_eq (pos n) (pos 4)) false (false_from_ne_true (int_eq (pos n) (pos 4)) (λ e.
      both_ways (n == 4) apart (eq-eqb n 4 (ap unsigned_abs ((Decides-int_eq (pos n) (pos 4)).0 e))))) refl

  parent_of : (type n : ℕ) (o : Option (List ℕ)) → word_in (written_beside others c) file.Stops n "parent_station" ≡ o → has_right_parent c type o ≡ true
      → ((is_one_of (0 ∷ 2 ∷ 3 ∷ []) (pos type) && names_none_of (1 ∷ []) file.Stops "parent_station" (written_beside others c) n)
      || (is_one_of (4 ∷ []) (pos type) && names_none_of (0 ∷ []) file.Stops "parent_station" (written_beside others c) n)) ≡ false
  parent_of type n None is fine =
      or_from _ _ (and_right (is_one_of (0 ∷ 2 ∷ 3 ∷ []) (pos type)) _ (names_nothing others c sound (1 ∷ []) file.Stops n "parent_station" is))
      (and_right (is_one_of (4 ∷ []) (pos type)) _ (names_nothing others c sound (0 ∷ []) file.Stops n "parent_station" is))
  parent_of type n (Some t) is fine =
      let right = (and_parts (not (type == 1)) (is_stop_of c ((if type == 4 then 0 else 1) ∷ []) t) fine).1 in
      elim (cases_Bool (type == 4)) [
        | inl area ↦
            let own : is_stop_of c (0 ∷ []) t ≡ true = rw area at right in
            let four : type ≡ 4 = eqb-true type 4 area in
            or_from _ _ (and_left (is_one_of (0 ∷ 2 ∷ 3 ∷ []) (pos type)) _ (ap (λ m. is_one_of (0 ∷ 2 ∷ 3 ∷ []) (pos m)) four))
            (and_right (is_one_of (4 ∷ []) (pos type)) _ (names_wanted others c sound (0 ∷ []) file.Stops n "parent_station" t is own))
        | inr no_area ↦
            let own : is_stop_of c (1 ∷ []) t ≡ true = rw no_area at right in
            or_from _ _ (and_right (is_one_of (0 ∷ 2 ∷ 3 ∷ []) (pos type)) _ (names_wanted others c sound (1 ∷ []) file.Stops n "parent_station" t is own))
            (and_left (is_one_of (4 ∷ []) (pos type)) _ (other_type type no_area))
      ]

  parent_type : (k : ℕ) (e : Stop) → k < length c.stops → has_parent_of_other_type (written_beside others c) (k + 2) ≡ false
  parent_type k e h =
      let s = get_or c.stops k e in
      let type : choice_in (written_beside others c) file.Stops (k + 2) "location_type" ≡ Some (pos s.location_type) =
      choice_from (written_beside others c) file.Stops (k + 2) "location_type" (value_of_number s.location_type) (value_at others c file.Stops c.stops stop_cells refl (sound.cells file.Stops) k e h (codes "location_type") refl) in
      let fine = (and_parts (nat_lt 2 s.location_type || has_name_and_position s) (has_right_parent c s.location_type s.parent_station) (all_at (is_sound_stop c) c.stops k e sound.stops h)).1 in
      ap (λ o. if_there o (λ own. (is_one_of (0 ∷ 2 ∷ 3 ∷ []) own && names_none_of (1 ∷ []) file.Stops "parent_station" (written_beside others c) (k + 2)) || (is_one_of (4 ∷ []) own && names_none_of (0 ∷ []) file.Stops "parent_station" (written_beside others c) (k + 2)))) type
      ∙ parent_of s.location_type (k + 2) s.parent_station (word_at others c file.Stops c.stops stop_cells refl (sound.cells file.Stops) k e h "parent_station" refl s.parent_station refl) fine

  pub no_wrong_kind : (y : File) (n : ℕ) (name : List ℕ) → wrong_kind_of_stop (written_beside others c) y n name ≡ false
  no_wrong_kind y n name =
      or_from _ _ (no_told others c file.StopTimes (stop_times_of c) stop_time_cells refl (sound.cells file.StopTimes) "stop_id" (names_none_of (0 ∷ []) file.StopTimes "stop_id") (no_other_stop others c sound) y n name)
      (or_from _ _ (no_told others c file.Stops c.stops stop_cells refl (sound.cells file.Stops) "parent_station" has_parent_of_other_type parent_type y n name)
      (or_from _ _ (no_told others c file.Transfers c.transfers transfer_cells refl (sound.cells file.Transfers) "from_stop_id" (names_none_of (0 ∷ 1 ∷ []) file.Transfers "from_stop_id") from_end y n name)
      (or_from _ _ (no_told others c file.Transfers c.transfers transfer_cells refl (sound.cells file.Transfers) "to_stop_id" (names_none_of (0 ∷ 1 ∷ []) file.Transfers "to_stop_id") to_end y n name) refl)))
