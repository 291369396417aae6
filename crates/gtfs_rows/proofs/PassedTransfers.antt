-- The transfers of a dataset that passes: E10, E11 and E12.
use Rattle.std.proofs.Common.{◌≡◌, ◌≤◌, ◌∙◌, ℕ, zero, suc, List, [], ◌∷◌, true, false, Bool, Option, Some, None, refl, sym, ap, arith}
use Rattle.std.specs.Prelude.{◌==◌, ◌&&◌, ◌||◌, not, nat_le, codes, is_some, pos}
use Prim.Native.String.{String as Literal}
use Rattle.std.specs.List.{list_all}
use Rattle.std.proofs.lemmas.Bool.{and_from, not-false as not_false, or_left}
use Rattle.gtfs_table.specs.Rows.{is_row, records_in, rows}
use Rattle.gtfs_table.specs.Tables.{Dataset}
use Rattle.gtfs_table.specs.declared.file.File.TheVariants as file
use Rattle.gtfs_schema.specs.declared.code.Code.TheVariants as code
use Rattle.gtfs_schema.specs.Columns.{id, column_named, optional, up_to}
use Rattle.gtfs_schema.specs.PresenceRules.{lacks_end}
use Rattle.gtfs_schema.specs.Problems.{Passes}
use Rattle.gtfs_schema.specs.RowConditions.{text_in, value_in, word_in, is_empty_in, row_with}
use Rattle.gtfs_schema.specs.StopRules.{names_none_of}
use Rattle.gtfs_schema.specs.FieldValues.{if_there, is_count_between}
use Rattle.gtfs_rows.specs.TransferOrder.{transfer_key, transfer_key_cmp}
use Rattle.gtfs_rows.specs.ContentRead.{number_at, transfer_in, content_of}
use Rattle.gtfs_rows.specs.SoundContent.{has_id, if_given, is_stop_of, has_ends, is_sound_transfer}
use Rattle.gtfs_rows.proofs.ContentAgain.{transfer_total}
use Rattle.gtfs_rows.proofs.ContentRows.{row_of, all_made}
use Rattle.gtfs_rows.proofs.PassedCells.{digit_cut}
use Rattle.gtfs_rows.proofs.PassedReferences.{after_one, one_known, no_error, none_unknown, route_known, trip_known}
use Rattle.gtfs_rows.proofs.PassedStops.{few_types, named_stop, turned}
use Rattle.gtfs_rows.proofs.KindOptions.{value_of_word}
use Rattle.gtfs_rows.proofs.PassedValues.{choice_is, defaulting_number, optional_id, word_if_filled}

-- ---- ends by the type of a transfer

both_there : (a b : Bool) → not a ≡ false → not b ≡ false → (a && b) ≡ true
both_there a b p q = and_from a b (not_false a p) (not_false b q)

right_ends : (type : ℕ) (from_stop to_stop from_trip to_trip : Bool) → type ≤ 5
    → (is_count_between 1 3 (pos type) && not from_stop) ≡ false → (is_count_between 1 3 (pos type) && not to_stop) ≡ false
    → (is_count_between 4 5 (pos type) && not from_trip) ≡ false → (is_count_between 4 5 (pos type) && not to_trip) ≡ false
    → ((type == 0) || (nat_le type 3 && from_stop && to_stop) || (nat_le 4 type && from_trip && to_trip)) ≡ true
right_ends zero a b e f few p q r s = refl
right_ends (suc zero) a b e f few p q r s = or_left (a && b) false (both_there a b p q)
right_ends (suc (suc zero)) a b e f few p q r s = or_left (a && b) false (both_there a b p q)
right_ends (suc (suc (suc zero))) a b e f few p q r s = or_left (a && b) false (both_there a b p q)
right_ends (suc (suc (suc (suc zero)))) a b e f few p q r s = both_there e f r s
right_ends (suc (suc (suc (suc (suc zero))))) a b e f few p q r s = both_there e f r s
right_ends (suc (suc (suc (suc (suc (suc n)))))) a b e f few p q r s = absurd (omega (arith, few))

given_from : (o : Option (List ℕ)) (p : List ℕ → Bool) → ((t : List ℕ) → o ≡ Some t → p t ≡ true) → if_given o p ≡ true
given_from None p each = refl
given_from (Some t) p each = each t refl

module _ (d : Dataset) (passes : Passes d) (n : ℕ) (row : is_row (records_in d file.Transfers) n ≡ true) where
  -- a value that is there, and the field that it stands in
  module _ (name : Literal) (kept : column_named file.Transfers (codes name) ≡ Some (optional name id)) (t : List ℕ) (there : word_in d file.Transfers n name ≡ Some t) where
    field_is : text_in d file.Transfers n (codes name) ≡ t
    field_is = optional_id d passes file.Transfers n row name kept t there

    value_is : is_some (value_in d file.Transfers n (codes name)) ≡ true
    value_is = value_of_word (value_in d file.Transfers n (codes name)) t there

  ends_at : (name : Literal) (low high : ℕ) → column_named file.Transfers (codes name) ≡ Some (optional name id) → lacks_end low high name d n ≡ false
      → (is_count_between low high (pos (number_at d file.Transfers n "transfer_type")) && not (is_some (word_in d file.Transfers n name))) ≡ false
  ends_at name low high kept told =
      let type = choice_is d passes file.Transfers n row "transfer_type" (up_to 5) "0" refl digit_cut refl in
      let empty = turned (is_some (word_in d file.Transfers n name)) (is_empty_in d file.Transfers n name) (word_if_filled d passes file.Transfers n row name id kept refl) in
      sym (λ i. if_there (type i) (is_count_between low high) && empty i) ∙ told

  ends_there : has_ends (transfer_in d n) ≡ true
  ends_there =
      right_ends (number_at d file.Transfers n "transfer_type") _ _ _ _
      (few_types 5 (number_at d file.Transfers n "transfer_type") (defaulting_number d passes file.Transfers n row "transfer_type" (up_to 5) "0" refl digit_cut refl))
      (ends_at "from_stop_id" 1 3 refl (after_one _ (lacks_end 1 3 "from_stop_id" d n) row (no_error d passes code.E12 file.Transfers n (codes "from_stop_id") refl)))
      (ends_at "to_stop_id" 1 3 refl (after_one _ (lacks_end 1 3 "to_stop_id" d n) row (no_error d passes code.E12 file.Transfers n (codes "to_stop_id") refl)))
      (ends_at "from_trip_id" 4 5 refl (after_one _ (lacks_end 4 5 "from_trip_id" d n) row (no_error d passes code.E12 file.Transfers n (codes "from_trip_id") refl)))
      (ends_at "to_trip_id" 4 5 refl (after_one _ (lacks_end 4 5 "to_trip_id" d n) row (no_error d passes code.E12 file.Transfers n (codes "to_trip_id") refl)))

  from_stop : if_given (word_in d file.Transfers n "from_stop_id") (is_stop_of (content_of d) (0 ∷ 1 ∷ [])) ≡ true
  from_stop = given_from (word_in d file.Transfers n "from_stop_id") (is_stop_of (content_of d) (0 ∷ 1 ∷ [])) (λ t there.
      named_stop d passes (0 ∷ 1 ∷ []) file.Transfers n "from_stop_id" t there (field_is "from_stop_id" refl t there)
      (one_known (is_some (row_with d file.Stops (codes "stop_id") (text_in d file.Transfers n (codes "from_stop_id")))) (none_unknown d passes file.Transfers n (codes "from_stop_id") row (value_is "from_stop_id" refl t there)))
      (after_one (is_row (records_in d file.Transfers) n) (names_none_of (0 ∷ 1 ∷ []) file.Transfers "from_stop_id" d n) row (no_error d passes code.E11 file.Transfers n (codes "from_stop_id") refl)))

  to_stop : if_given (word_in d file.Transfers n "to_stop_id") (is_stop_of (content_of d) (0 ∷ 1 ∷ [])) ≡ true
  to_stop = given_from (word_in d file.Transfers n "to_stop_id") (is_stop_of (content_of d) (0 ∷ 1 ∷ [])) (λ t there.
      named_stop d passes (0 ∷ 1 ∷ []) file.Transfers n "to_stop_id" t there (field_is "to_stop_id" refl t there)
      (one_known (is_some (row_with d file.Stops (codes "stop_id") (text_in d file.Transfers n (codes "to_stop_id")))) (none_unknown d passes file.Transfers n (codes "to_stop_id") row (value_is "to_stop_id" refl t there)))
      (after_one (is_row (records_in d file.Transfers) n) (names_none_of (0 ∷ 1 ∷ []) file.Transfers "to_stop_id" d n) row (no_error d passes code.E11 file.Transfers n (codes "to_stop_id") refl)))

  from_route : if_given (word_in d file.Transfers n "from_route_id") (has_id (λ r. r.route_id) (content_of d).routes) ≡ true
  from_route = given_from (word_in d file.Transfers n "from_route_id") (has_id (λ r. r.route_id) (content_of d).routes) (λ t there.
      route_known d passes t (ap (λ u. is_some (row_with d file.Routes (codes "route_id") u)) (sym (field_is "from_route_id" refl t there))
      ∙ one_known (is_some (row_with d file.Routes (codes "route_id") (text_in d file.Transfers n (codes "from_route_id")))) (none_unknown d passes file.Transfers n (codes "from_route_id") row (value_is "from_route_id" refl t there))))

  to_route : if_given (word_in d file.Transfers n "to_route_id") (has_id (λ r. r.route_id) (content_of d).routes) ≡ true
  to_route = given_from (word_in d file.Transfers n "to_route_id") (has_id (λ r. r.route_id) (content_of d).routes) (λ t there.
      route_known d passes t (ap (λ u. is_some (row_with d file.Routes (codes "route_id") u)) (sym (field_is "to_route_id" refl t there))
      ∙ one_known (is_some (row_with d file.Routes (codes "route_id") (text_in d file.Transfers n (codes "to_route_id")))) (none_unknown d passes file.Transfers n (codes "to_route_id") row (value_is "to_route_id" refl t there))))

  from_trip : if_given (word_in d file.Transfers n "from_trip_id") (has_id (λ r. r.trip_id) (content_of d).trips) ≡ true
  from_trip = given_from (word_in d file.Transfers n "from_trip_id") (has_id (λ r. r.trip_id) (content_of d).trips) (λ t there.
      trip_known d passes t (ap (λ u. is_some (row_with d file.Trips (codes "trip_id") u)) (sym (field_is "from_trip_id" refl t there))
      ∙ one_known (is_some (row_with d file.Trips (codes "trip_id") (text_in d file.Transfers n (codes "from_trip_id")))) (none_unknown d passes file.Transfers n (codes "from_trip_id") row (value_is "from_trip_id" refl t there))))

  to_trip : if_given (word_in d file.Transfers n "to_trip_id") (has_id (λ r. r.trip_id) (content_of d).trips) ≡ true
  to_trip = given_from (word_in d file.Transfers n "to_trip_id") (has_id (λ r. r.trip_id) (content_of d).trips) (λ t there.
      trip_known d passes t (ap (λ u. is_some (row_with d file.Trips (codes "trip_id") u)) (sym (field_is "to_trip_id" refl t there))
      ∙ one_known (is_some (row_with d file.Trips (codes "trip_id") (text_in d file.Transfers n (codes "to_trip_id")))) (none_unknown d passes file.Transfers n (codes "to_trip_id") row (value_is "to_trip_id" refl t there))))

  transfer_sound : is_sound_transfer (content_of d) (transfer_in d n) ≡ true
  transfer_sound =
      and_from _ _ (and_from _ _ (and_from _ _ (and_from _ _ (and_from _ _ (and_from _ _ from_stop to_stop) from_route) to_route) from_trip) to_trip) ends_there

pub transfers_sound : (d : Dataset) (passes : Passes d) → list_all (is_sound_transfer (content_of d)) (content_of d).transfers ≡ true
transfers_sound d passes = all_made transfer_key_cmp transfer_total transfer_key (transfer_in d) (rows d file.Transfers) (is_sound_transfer (content_of d)) (λ n at. transfer_sound d passes n (row_of d file.Transfers n at))
