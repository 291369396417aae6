-- The stops of a dataset that passes: E11 and E12.
use Rattle.std.proofs.Common.{◌≡◌, ◌≤◌, ◌∙◌, ℕ, zero, suc, List, [], ◌∷◌, true, false, Bool, Option, Some, None, refl, sym, ap, inl, inr, arith}
use Rattle.std.specs.Prelude.{◌&&◌, ◌||◌, not, nat_lt, nat_le, codes, is_some, pos}
use Prim.Native.String.{String as Literal}
use Rattle.std.specs.Cmp.Lexicographic.{nat_list_cmp_total}
use Rattle.std.specs.List.{list_all}
use Rattle.std.proofs.lemmas.Bool.{and_parts, and_from, or_left, or_right, or_cases, or_parts, cases_Bool, le-leb, leb-true, ltb-false, true≢false}
use Rattle.gtfs_field.specs.declared.coord.Axis.TheVariants.{Latitude, Longitude}
use Rattle.gtfs_field.specs.Kinds.{is_in_ranges}
use Rattle.gtfs_field.specs.TextOrder.{text_cmp}
use Rattle.gtfs_table.specs.Rows.{is_row, records_in, rows}
use Rattle.gtfs_table.specs.Tables.{Dataset}
use Rattle.gtfs_table.specs.declared.file.File.{File}
use Rattle.gtfs_table.specs.declared.file.File.TheVariants as file
use Rattle.gtfs_schema.specs.declared.code.Code.TheVariants as code
use Rattle.gtfs_schema.specs.Columns.{id, text, coordinate, up_to}
use Rattle.gtfs_schema.specs.PresenceRules.{is_of_type, lacks_name_or_position, has_wrong_parent}
use Rattle.gtfs_schema.specs.Problems.{Passes}
use Rattle.gtfs_schema.specs.RowConditions.{text_in, value_in, word_in, amount_in, choice_in, is_readable_in, is_empty_in, row_with}
use Rattle.gtfs_schema.specs.StopRules.{names_none_of, has_parent_of_other_type}
use Rattle.gtfs_schema.specs.FieldValues.{if_there, is_count_between, is_one_of}
use Rattle.gtfs_rows.specs.Cells.{is_of_kind, is_between as lies_between}
use Rattle.gtfs_rows.specs.Content.{Content}
use Rattle.gtfs_rows.specs.ContentRead.{number_at, stop_in, content_of}
use Rattle.gtfs_rows.specs.RowCells.{value_of_number}
use Rattle.gtfs_rows.specs.SoundContent.{is_stop_of, has_name_and_position, has_right_parent, is_sound_stop}
use Rattle.gtfs_rows.proofs.ContentRows.{row_of, all_made}
use Rattle.gtfs_rows.proofs.PassedAgencies.{filled_some}
use Rattle.gtfs_rows.proofs.PassedCells.{digit_cut}
use Rattle.gtfs_rows.proofs.PassedReferences.{after, after_one, one_known, no_error, none_unknown, stop_of_type}
use Rattle.gtfs_rows.proofs.KindOptions.{value_of_word}
use Rattle.gtfs_rows.proofs.PassedValues.{choice_is, defaulting_number, optional_id, there_if_filled, word_if_filled, amount_if_filled}

-- ---- tests

pub turned : (a b : Bool) → a ≡ not b → b ≡ not a
turned a true e = ap not (sym e)
turned a false e = ap not (sym e)

pub few_types : (m n : ℕ) → is_of_kind (up_to m) (value_of_number n) ≡ true → n ≤ m
few_types m n fits =
    let inside = (and_parts (lies_between (pos 0) (pos 2_147_483_647) (pos n)) (is_in_ranges ((0, m) ∷ []) n) fits).1 in
    elim (or_cases (nat_le 0 n && nat_le n m) false inside) [
      | inl within ↦ leb-true n m (and_parts (nat_le 0 n) (nat_le n m) within).1
      | inr never ↦ absurd (true≢false (sym never))
    ]

-- what a parent's type has to be, by the type of the stop
module _ (c : Content) (other station : Bool) where
  -- the parent is a station, or a stop, where the row is not told otherwise
  pub record IsParent (p : List ℕ) : Type 0 where
    pub of_station : station ≡ false → is_stop_of c (1 ∷ []) p ≡ true
    pub of_stop : other ≡ false → is_stop_of c (0 ∷ []) p ≡ true

  right_parent : (type : ℕ) (o : Option (List ℕ)) → type ≤ 4
      → ((is_count_between 1 1 (pos type) && is_some o) || (is_count_between 2 4 (pos type) && not (is_some o))) ≡ false
      → ((is_one_of (0 ∷ 2 ∷ 3 ∷ []) (pos type) && station) || (is_one_of (4 ∷ []) (pos type) && other)) ≡ false
      → ((p : List ℕ) → o ≡ Some p → IsParent p) → has_right_parent c type o ≡ true
  right_parent zero None few presence kind parent = refl
  right_parent (suc zero) None few presence kind parent = refl
  right_parent (suc (suc zero)) None few presence kind parent = absurd (true≢false presence)
  right_parent (suc (suc (suc zero))) None few presence kind parent = absurd (true≢false presence)
  right_parent (suc (suc (suc (suc zero)))) None few presence kind parent = absurd (true≢false presence)
  right_parent (suc (suc (suc (suc (suc n))))) None few presence kind parent = absurd (omega (arith, few))
  right_parent zero (Some p) few presence kind parent = (parent p refl).of_station (or_parts station false kind).0
  right_parent (suc zero) (Some p) few presence kind parent = absurd (true≢false presence)
  right_parent (suc (suc zero)) (Some p) few presence kind parent = (parent p refl).of_station (or_parts station false kind).0
  right_parent (suc (suc (suc zero))) (Some p) few presence kind parent = (parent p refl).of_station (or_parts station false kind).0
  right_parent (suc (suc (suc (suc zero)))) (Some p) few presence kind parent = (parent p refl).of_stop kind
  right_parent (suc (suc (suc (suc (suc n))))) (Some p) few presence kind parent = absurd (omega (arith, few))

module _ (d : Dataset) (passes : Passes d) where
  -- a stop that a column names is there
  pub named_stop : (types : List ℕ) (x : File) (n : ℕ) (name : Literal) (t : List ℕ) → word_in d x n name ≡ Some t → text_in d x n (codes name) ≡ t
      → is_some (row_with d file.Stops (codes "stop_id") (text_in d x n (codes name))) ≡ true
      → names_none_of types x name d n ≡ false → is_stop_of (content_of d) types t ≡ true
  named_stop types x n name t there same known wanted =
      stop_of_type d passes types x n name t there (ap (λ u. is_some (row_with d file.Stops (codes "stop_id") u)) (sym same) ∙ known) wanted

  module _ (n : ℕ) (row : is_row (records_in d file.Stops) n ≡ true) where
    abbrev type : ℕ
    type = number_at d file.Stops n "location_type"

    type_is : choice_in d file.Stops n "location_type" ≡ Some (pos (number_at d file.Stops n "location_type"))
    type_is = choice_is d passes file.Stops n row "location_type" (up_to 4) "0" refl digit_cut refl

    few : number_at d file.Stops n "location_type" ≤ 4
    few = few_types 4 type (defaulting_number d passes file.Stops n row "location_type" (up_to 4) "0" refl digit_cut refl)

    -- ---- the parent

    parent_filled : is_some (word_in d file.Stops n "parent_station") ≡ not (is_empty_in d file.Stops n "parent_station")
    parent_filled = word_if_filled d passes file.Stops n row "parent_station" id refl refl

    presence : ((is_count_between 1 1 (pos (number_at d file.Stops n "location_type")) && is_some (word_in d file.Stops n "parent_station"))
        || (is_count_between 2 4 (pos (number_at d file.Stops n "location_type")) && not (is_some (word_in d file.Stops n "parent_station")))) ≡ false
    presence =
        let readable : is_readable_in d file.Stops n "parent_station" ≡ is_some (word_in d file.Stops n "parent_station") = there_if_filled d passes file.Stops n row "parent_station" id refl ∙ sym parent_filled in
        let empty = turned (is_some (word_in d file.Stops n "parent_station")) (is_empty_in d file.Stops n "parent_station") parent_filled in
        let told : has_wrong_parent d n ≡ false = after_one (is_row (records_in d file.Stops) n) (has_wrong_parent d n) row (no_error d passes code.E12 file.Stops n (codes "parent_station") refl) in
        sym (λ i. (if_there (type_is i) (is_count_between 1 1) && readable i) || (if_there (type_is i) (is_count_between 2 4) && empty i)) ∙ told

    kind : ((is_one_of (0 ∷ 2 ∷ 3 ∷ []) (pos (number_at d file.Stops n "location_type")) && names_none_of (1 ∷ []) file.Stops "parent_station" d n)
        || (is_one_of (4 ∷ []) (pos (number_at d file.Stops n "location_type")) && names_none_of (0 ∷ []) file.Stops "parent_station" d n)) ≡ false
    kind =
        let told : has_parent_of_other_type d n ≡ false = after_one (is_row (records_in d file.Stops) n) (has_parent_of_other_type d n) row (no_error d passes code.E11 file.Stops n (codes "parent_station") refl) in
        sym (λ i. if_there (type_is i) (λ own. (is_one_of (0 ∷ 2 ∷ 3 ∷ []) own && names_none_of (1 ∷ []) file.Stops "parent_station" d n) || (is_one_of (4 ∷ []) own && names_none_of (0 ∷ []) file.Stops "parent_station" d n))) ∙ told

    parent : (p : List ℕ) → word_in d file.Stops n "parent_station" ≡ Some p → IsParent (content_of d) (names_none_of (0 ∷ []) file.Stops "parent_station" d n) (names_none_of (1 ∷ []) file.Stops "parent_station" d n) p
    parent p there =
        let same = optional_id d passes file.Stops n row "parent_station" refl p there in
        let known = one_known (is_some (row_with d file.Stops (codes "stop_id") (text_in d file.Stops n (codes "parent_station")))) (none_unknown d passes file.Stops n (codes "parent_station") row (value_of_word (value_in d file.Stops n (codes "parent_station")) p there)) in
        record {
          of_station = named_stop (1 ∷ []) file.Stops n "parent_station" p there same known;
          of_stop = named_stop (0 ∷ []) file.Stops n "parent_station" p there same known;
        }

    -- ---- the name and the position

    of_low_type : nat_lt 2 (number_at d file.Stops n "location_type") ≡ false → is_of_type 0 2 d n ≡ true
    of_low_type low = ap (λ o. if_there o (is_count_between 0 2)) type_is ∙ and_from (nat_le 0 type) (nat_le type 2) (le-leb 0 type (omega arith)) (le-leb type 2 (let h = ltb-false 2 type low in omega (arith, h)))

    both_there : nat_lt 2 (number_at d file.Stops n "location_type") ≡ false → has_name_and_position (stop_in d n) ≡ true
    both_there low =
        let none_name = after (is_of_type 0 2 d n) (is_empty_in d file.Stops n "stop_name") (of_low_type low) (after_one (is_row (records_in d file.Stops) n) (lacks_name_or_position "stop_name" d n) row (no_error d passes code.E12 file.Stops n (codes "stop_name") refl)) in
        let none_lat = after (is_of_type 0 2 d n) (is_empty_in d file.Stops n "stop_lat") (of_low_type low) (after_one (is_row (records_in d file.Stops) n) (lacks_name_or_position "stop_lat" d n) row (no_error d passes code.E12 file.Stops n (codes "stop_lat") refl)) in
        let none_lon = after (is_of_type 0 2 d n) (is_empty_in d file.Stops n "stop_lon") (of_low_type low) (after_one (is_row (records_in d file.Stops) n) (lacks_name_or_position "stop_lon" d n) row (no_error d passes code.E12 file.Stops n (codes "stop_lon") refl)) in
        and_from _ _
        (and_from _ _
        (filled_some (is_some (word_in d file.Stops n "stop_name")) _ (word_if_filled d passes file.Stops n row "stop_name" text refl refl) none_name)
        (filled_some (is_some (amount_in d file.Stops n "stop_lat")) _ (amount_if_filled d passes file.Stops n row "stop_lat" (coordinate Latitude) refl refl) none_lat))
        (filled_some (is_some (amount_in d file.Stops n "stop_lon")) _ (amount_if_filled d passes file.Stops n row "stop_lon" (coordinate Longitude) refl refl) none_lon)

    stop_sound : is_sound_stop (content_of d) (stop_in d n) ≡ true
    stop_sound =
        and_from (nat_lt 2 type || has_name_and_position (stop_in d n)) _
        (elim (cases_Bool (nat_lt 2 type)) [
          | inl high ↦ or_left (nat_lt 2 type) (has_name_and_position (stop_in d n)) high
          | inr low ↦ or_right (nat_lt 2 type) (has_name_and_position (stop_in d n)) (both_there low)
        ])
        (right_parent (content_of d) (names_none_of (0 ∷ []) file.Stops "parent_station" d n) (names_none_of (1 ∷ []) file.Stops "parent_station" d n) type (word_in d file.Stops n "parent_station") few presence kind parent)

  pub stops_sound : list_all (is_sound_stop (content_of d)) (content_of d).stops ≡ true
  stops_sound = all_made text_cmp nat_list_cmp_total (λ s. s.stop_id) (stop_in d) (rows d file.Stops) (is_sound_stop (content_of d)) (λ n at. stop_sound n (row_of d file.Stops n at))
