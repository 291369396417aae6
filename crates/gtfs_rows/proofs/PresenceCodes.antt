-- A written content lacks no value that others ask for, and has none that they forbid: E12.
use Rattle.std.proofs.Common.{◌≡◌, ◌+◌, ◌<◌, ℕ, List, length, get_or, true, false, Bool, Option, Some, None, refl, ap, ◌∙◌, arith, inl, inr}
use Rattle.std.specs.Prelude.{◌==◌, ◌&&◌, ◌||◌, not, codes, nat_lt, nat_le, option_map, is_none, is_some, pos, int_le}
use Prim.Native.String.{String as Literal}
use Rattle.std.proofs.lemmas.Bool.{and_parts, and_left, and_right, or_cases, or_from, cases_Bool, not-true, leb-true, ltb-true, lt-leb, eqb-true, eq-eqb, both_ways}
use Rattle.std.proofs.lemmas.List.FromFn.{length-range_with_len}
use Rattle.gtfs_field.proofs.TestFacts.{and_fails as unless}
use Rattle.gtfs_table.specs.declared.file.File.{File}
use Rattle.gtfs_table.specs.declared.file.File.TheVariants as file
use Rattle.gtfs_table.specs.Rows.{is_empty}
use Rattle.gtfs_schema.specs.PresenceRules.{has_many_agencies, has_wrong_parent, is_choice, lacks_agency, lacks_end, lacks_name, lacks_name_or_position, value_missing_or_forbidden}
use Rattle.gtfs_schema.specs.RowConditions.{is_empty_in, is_readable_in}
use Rattle.gtfs_schema.specs.FieldValues.{Value, word, amount, if_there}
use Rattle.gtfs_rows.specs.Content.{Content}
use Rattle.gtfs_rows.specs.RowCells.{agency_cells, route_cells, stop_cells, transfer_cells, id_cell, value_of_number}
use Rattle.gtfs_rows.specs.Rows.{Agency, Route, Stop, Transfer}
use Rattle.gtfs_rows.specs.SoundContent.{IsSound, has_ends, has_id, has_name_and_position, has_right_parent, is_sound_agency, is_sound_route, is_sound_stop, is_sound_transfer}
use Rattle.gtfs_rows.specs.WrittenContent.{written_beside}
use Rattle.gtfs_rows.proofs.ContentAgain.{only_agency}
use Rattle.gtfs_rows.proofs.RowTexts.{all_at}
use Rattle.gtfs_rows.proofs.Views.{choice_from, empty_at, no_told, rows_are, value_at}

-- ---- tests

not_none : {X : Type 0} (o : Option X) (f : X → Value) → is_some o ≡ true → is_none (option_map f o) ≡ false
not_none None f h = cc
not_none (Some x) f h = refl

id_there : (t : List ℕ) → is_empty t ≡ false → is_none (id_cell t) ≡ false
id_there t filled = rw filled refl

abbrev within : ℕ → ℕ → ℕ → Bool
within low high n = nat_le low n && nat_le n high

above : (low high n : ℕ) → high < n → within low high n ≡ false
above low high n h = and_right (nat_le low n) (nat_le n high) (lt-leb n high h)

below : (low high n : ℕ) → n < low → within low high n ≡ false
below low high n h = and_left (nat_le low n) (nat_le n high) (lt-leb low n h)

not_one : (n : ℕ) → (n == 1) ≡ false → within 1 1 n ≡ false
not_one n other = elim (cases_Bool (nat_le 1 n)) [
  | inr less ↦ and_left (nat_le 1 n) (nat_le n 1) less
  | inl some ↦ elim (cases_Bool (nat_le n 1)) [
    | inr more ↦ and_right (nat_le 1 n) (nat_le n 1) more
    | inl few ↦
        let a = leb-true 1 n some in
        let b = leb-true n 1 few in
        absurd (both_ways (n == 1) other (eq-eqb n 1 (omega (arith, a, b))))
  ]
]

-- ---- rules over plain values

no_agency_missing : (count : ℕ) (t : List ℕ) → (is_empty t ≡ true → count ≡ 1) → (nat_lt 1 count && is_none (id_cell t)) ≡ false
no_agency_missing count t only = elim (cases_Bool (is_empty t)) [
  | inl empty ↦ and_left (nat_lt 1 count) (is_none (id_cell t)) (ap (nat_lt 1) (only empty))
  | inr filled ↦ and_right (nat_lt 1 count) (is_none (id_cell t)) (id_there t filled)
]

right_parent : (c : Content) (type : ℕ) (o : Option (List ℕ)) → has_right_parent c type o ≡ true
    → ((within 1 1 type && is_some (option_map word o)) || (within 2 4 type && is_none (option_map word o))) ≡ false
right_parent c type None h =
    or_from (within 1 1 type && false) (within 2 4 type && true) (and_right (within 1 1 type) false refl)
    (and_left (within 2 4 type) true (below 2 4 type (ltb-true type 2 h)))
right_parent c type (Some p) h =
    let other = not-true (type == 1) (and_parts (not (type == 1)) _ h).0 in
    or_from (within 1 1 type && true) (within 2 4 type && false) (and_left (within 1 1 type) true (not_one type other))
    (and_right (within 2 4 type) false refl)

-- a transfer between stops names both
record HasStops (t : Transfer) : Type 0 where
  from : is_some t.from_stop_id ≡ true
  to : is_some t.to_stop_id ≡ true

record HasTrips (t : Transfer) : Type 0 where
  from : is_some t.from_trip_id ≡ true
  to : is_some t.to_trip_id ≡ true

clash : {A : Type 0} (b : Bool) → b ≡ true → b ≡ false → A
clash b here other = absurd (both_ways b other here)

has_stops : (t : Transfer) → has_ends t ≡ true → within 1 3 t.transfer_type ≡ true → HasStops t
has_stops t h low = elim (or_cases ((t.transfer_type == 0) || (nat_le t.transfer_type 3 && is_some t.from_stop_id && is_some t.to_stop_id)) _ h) [
  | inr trips ↦
      let type = and_parts (nat_le 4 t.transfer_type) (is_some t.from_trip_id) (and_parts (nat_le 4 t.transfer_type && is_some t.from_trip_id) (is_some t.to_trip_id) trips).0 in
      let four = leb-true 4 t.transfer_type type.0 in
      clash (within 1 3 t.transfer_type) low (above 1 3 t.transfer_type (omega (arith, four)))
  | inl first ↦ elim (or_cases (t.transfer_type == 0) (nat_le t.transfer_type 3 && is_some t.from_stop_id && is_some t.to_stop_id) first) [
    | inl zero ↦
        let none = eqb-true t.transfer_type 0 zero in
        clash (within 1 3 t.transfer_type) low (below 1 3 t.transfer_type (omega (arith, none)))
    | inr stops ↦
        let to = and_parts (nat_le t.transfer_type 3 && is_some t.from_stop_id) (is_some t.to_stop_id) stops in
        let from = and_parts (nat_le t.transfer_type 3) (is_some t.from_stop_id) to.0 in
        record { from = from.1; to = to.1 }
  ]
]

has_trips : (t : Transfer) → has_ends t ≡ true → within 4 5 t.transfer_type ≡ true → HasTrips t
has_trips t h high = elim (or_cases ((t.transfer_type == 0) || (nat_le t.transfer_type 3 && is_some t.from_stop_id && is_some t.to_stop_id)) _ h) [
  | inr trips ↦
      let to = and_parts (nat_le 4 t.transfer_type && is_some t.from_trip_id) (is_some t.to_trip_id) trips in
      let from = and_parts (nat_le 4 t.transfer_type) (is_some t.from_trip_id) to.0 in
      record { from = from.1; to = to.1 }
  | inl first ↦ elim (or_cases (t.transfer_type == 0) (nat_le t.transfer_type 3 && is_some t.from_stop_id && is_some t.to_stop_id) first) [
    | inl zero ↦
        let none = eqb-true t.transfer_type 0 zero in
        clash (within 4 5 t.transfer_type) high (below 4 5 t.transfer_type (omega (arith, none)))
    | inr stops ↦
        let type = and_parts (nat_le t.transfer_type 3) (is_some t.from_stop_id) (and_parts (nat_le t.transfer_type 3 && is_some t.from_stop_id) (is_some t.to_stop_id) stops).0 in
        let three = leb-true t.transfer_type 3 type.0 in
        clash (within 4 5 t.transfer_type) high (below 4 5 t.transfer_type (omega (arith, three)))
  ]
]

-- ---- rows

module _ (others : List (List ℕ)) (c : Content) (sound : IsSound c) where
  many_is : has_many_agencies (written_beside others c) ≡ nat_lt 1 (length c.agencies)
  many_is = ap (λ ns. nat_lt 1 (length ns)) (rows_are others c file.Agency c.agencies agency_cells refl (sound.cells file.Agency))
      ∙ ap (nat_lt 1) (length-range_with_len 2 (length c.agencies))

  agency_has_id : (k : ℕ) (e : Agency) → k < length c.agencies → lacks_agency file.Agency (written_beside others c) (k + 2) ≡ false
  agency_has_id k e h =
      let a = get_or c.agencies k e in
      let fine = (and_parts (not (is_empty a.agency_id) || (length c.agencies == 1)) _ (all_at (is_sound_agency c) c.agencies k e sound.agencies h)).0 in
      (λ i. many_is i && empty_at others c file.Agency c.agencies agency_cells refl (sound.cells file.Agency) k e h "agency_id" refl (id_cell a.agency_id) refl refl i)
      ∙ no_agency_missing (length c.agencies) a.agency_id (λ empty. elim (or_cases (not (is_empty a.agency_id)) (length c.agencies == 1) fine) [
        | inl filled ↦ clash (is_empty a.agency_id) empty (not-true (is_empty a.agency_id) filled)
        | inr one ↦ eqb-true (length c.agencies) 1 one
      ])

  route_has_agency : (k : ℕ) (e : Route) → k < length c.routes → lacks_agency file.Routes (written_beside others c) (k + 2) ≡ false
  route_has_agency k e h =
      let r = get_or c.routes k e in
      let known = (and_parts (has_id (λ a. a.agency_id) c.agencies r.agency_id) _ (all_at (is_sound_route c) c.routes k e sound.routes h)).0 in
      (λ i. many_is i && empty_at others c file.Routes c.routes route_cells refl (sound.cells file.Routes) k e h "agency_id" refl (id_cell r.agency_id) refl refl i)
      ∙ no_agency_missing (length c.agencies) r.agency_id (only_agency others c sound c.agencies r.agency_id sound.agencies known)

  route_has_name : (k : ℕ) (e : Route) → k < length c.routes → lacks_name (written_beside others c) (k + 2) ≡ false
  route_has_name k e h =
      let r = get_or c.routes k e in
      let named = (and_parts (has_id (λ a. a.agency_id) c.agencies r.agency_id) (is_some r.route_short_name || is_some r.route_long_name) (all_at (is_sound_route c) c.routes k e sound.routes h)).1 in
      let short = is_none (option_map word r.route_short_name) in
      let long = is_none (option_map word r.route_long_name) in
      (λ i. empty_at others c file.Routes c.routes route_cells refl (sound.cells file.Routes) k e h "route_short_name" refl (option_map word r.route_short_name) refl refl i
      && empty_at others c file.Routes c.routes route_cells refl (sound.cells file.Routes) k e h "route_long_name" refl (option_map word r.route_long_name) refl refl i)
      ∙ elim (or_cases (is_some r.route_short_name) (is_some r.route_long_name) named) [
        | inl there ↦ and_left short long (not_none r.route_short_name word there)
        | inr there ↦ and_right short long (not_none r.route_long_name word there)
      ]

  -- ---- stops

  module _ (k : ℕ) (e : Stop) (h : k < length c.stops) where
    type_at : (low high : ℕ) → is_choice low high file.Stops "location_type" (written_beside others c) (k + 2) ≡ within low high (get_or c.stops k e).location_type
    type_at low high = ap (λ o. if_there o (λ choice. int_le (pos low) choice && int_le choice (pos high)))
        (choice_from (written_beside others c) file.Stops (k + 2) "location_type" (value_of_number (get_or c.stops k e).location_type) (value_at others c file.Stops c.stops stop_cells refl (sound.cells file.Stops) k e h (codes "location_type") refl))

    stop_fine : ((nat_lt 2 (get_or c.stops k e).location_type || has_name_and_position (get_or c.stops k e)) ≡ true) × (has_right_parent c (get_or c.stops k e).location_type (get_or c.stops k e).parent_station ≡ true)
    stop_fine = and_parts _ _ (all_at (is_sound_stop c) c.stops k e sound.stops h)

    -- a column of a name and a position
    column_there : (column : Literal) (missing : Bool) → is_empty_in (written_beside others c) file.Stops (k + 2) column ≡ missing → (has_name_and_position (get_or c.stops k e) ≡ true → missing ≡ false)
        → lacks_name_or_position column (written_beside others c) (k + 2) ≡ false
    column_there column missing is filled =
        (λ i. type_at 0 2 i && is i)
        ∙ elim (or_cases (nat_lt 2 (get_or c.stops k e).location_type) (has_name_and_position (get_or c.stops k e)) stop_fine.0) [
          | inl inner ↦ and_left (within 0 2 (get_or c.stops k e).location_type) missing (above 0 2 (get_or c.stops k e).location_type (ltb-true 2 (get_or c.stops k e).location_type inner))
          | inr both ↦ and_right (within 0 2 (get_or c.stops k e).location_type) missing (filled both)
        ]

    columns_of_both : has_name_and_position (get_or c.stops k e) ≡ true
        → (is_some (get_or c.stops k e).stop_name ≡ true) × (is_some (get_or c.stops k e).stop_lat ≡ true) × (is_some (get_or c.stops k e).stop_lon ≡ true)
    columns_of_both both =
        let s = get_or c.stops k e in
        let last = and_parts (is_some s.stop_name && is_some s.stop_lat) (is_some s.stop_lon) both in
        let first = and_parts (is_some s.stop_name) (is_some s.stop_lat) last.0 in
        (first.0, first.1, last.1)

  stop_has_name : (k : ℕ) (e : Stop) → k < length c.stops → lacks_name_or_position "stop_name" (written_beside others c) (k + 2) ≡ false
  stop_has_name k e h =
      let s = get_or c.stops k e in
      column_there k e h "stop_name" (is_none (option_map word s.stop_name)) (empty_at others c file.Stops c.stops stop_cells refl (sound.cells file.Stops) k e h "stop_name" refl (option_map word s.stop_name) refl refl)
      (λ both. not_none s.stop_name word (columns_of_both k e h both).0)

  stop_has_latitude : (k : ℕ) (e : Stop) → k < length c.stops → lacks_name_or_position "stop_lat" (written_beside others c) (k + 2) ≡ false
  stop_has_latitude k e h =
      let s = get_or c.stops k e in
      column_there k e h "stop_lat" (is_none (option_map amount s.stop_lat)) (empty_at others c file.Stops c.stops stop_cells refl (sound.cells file.Stops) k e h "stop_lat" refl (option_map amount s.stop_lat) refl refl)
      (λ both. not_none s.stop_lat amount (columns_of_both k e h both).1)

  stop_has_longitude : (k : ℕ) (e : Stop) → k < length c.stops → lacks_name_or_position "stop_lon" (written_beside others c) (k + 2) ≡ false
  stop_has_longitude k e h =
      let s = get_or c.stops k e in
      column_there k e h "stop_lon" (is_none (option_map amount s.stop_lon)) (empty_at others c file.Stops c.stops stop_cells refl (sound.cells file.Stops) k e h "stop_lon" refl (option_map amount s.stop_lon) refl refl)
      (λ both. not_none s.stop_lon amount (columns_of_both k e h both).2)

  stop_has_parent : (k : ℕ) (e : Stop) → k < length c.stops → has_wrong_parent (written_beside others c) (k + 2) ≡ false
  stop_has_parent k e h =
      let s = get_or c.stops k e in
      let readable : is_readable_in (written_beside others c) file.Stops (k + 2) "parent_station" ≡ is_some (option_map word s.parent_station) =
      ap is_some (value_at others c file.Stops c.stops stop_cells refl (sound.cells file.Stops) k e h (codes "parent_station") refl) in
      (λ i. (type_at k e h 1 1 i && readable i)
      || (type_at k e h 2 4 i && empty_at others c file.Stops c.stops stop_cells refl (sound.cells file.Stops) k e h "parent_station" refl (option_map word s.parent_station) refl refl i))
      ∙ right_parent c s.location_type s.parent_station (stop_fine k e h).1

  -- ---- transfers

  module _ (k : ℕ) (e : Transfer) (h : k < length c.transfers) where
    ends : has_ends (get_or c.transfers k e) ≡ true
    ends = (and_parts _ (has_ends (get_or c.transfers k e)) (all_at (is_sound_transfer c) c.transfers k e sound.transfers h)).1

    end_there : (low high : ℕ) (column : Literal) (missing : Bool) → is_empty_in (written_beside others c) file.Transfers (k + 2) column ≡ missing
        → (within low high (get_or c.transfers k e).transfer_type ≡ true → missing ≡ false) → lacks_end low high column (written_beside others c) (k + 2) ≡ false
    end_there low high column missing is there =
        let type = (get_or c.transfers k e).transfer_type in
        let choice : is_choice low high file.Transfers "transfer_type" (written_beside others c) (k + 2) ≡ within low high type =
        ap (λ o. if_there o (λ choice. int_le (pos low) choice && int_le choice (pos high)))
        (choice_from (written_beside others c) file.Transfers (k + 2) "transfer_type" (value_of_number type) (value_at others c file.Transfers c.transfers transfer_cells refl (sound.cells file.Transfers) k e h (codes "transfer_type") refl)) in
        (λ i. choice i && is i) ∙ unless (within low high type) missing there

  from_stop_there : (k : ℕ) (e : Transfer) → k < length c.transfers → lacks_end 1 3 "from_stop_id" (written_beside others c) (k + 2) ≡ false
  from_stop_there k e h =
      let t = get_or c.transfers k e in
      end_there k e h 1 3 "from_stop_id" (is_none (option_map word t.from_stop_id)) (empty_at others c file.Transfers c.transfers transfer_cells refl (sound.cells file.Transfers) k e h "from_stop_id" refl (option_map word t.from_stop_id) refl refl)
      (λ low. not_none t.from_stop_id word (has_stops t (ends k e h) low).from)

  to_stop_there : (k : ℕ) (e : Transfer) → k < length c.transfers → lacks_end 1 3 "to_stop_id" (written_beside others c) (k + 2) ≡ false
  to_stop_there k e h =
      let t = get_or c.transfers k e in
      end_there k e h 1 3 "to_stop_id" (is_none (option_map word t.to_stop_id)) (empty_at others c file.Transfers c.transfers transfer_cells refl (sound.cells file.Transfers) k e h "to_stop_id" refl (option_map word t.to_stop_id) refl refl)
      (λ low. not_none t.to_stop_id word (has_stops t (ends k e h) low).to)

  from_trip_there : (k : ℕ) (e : Transfer) → k < length c.transfers → lacks_end 4 5 "from_trip_id" (written_beside others c) (k + 2) ≡ false
  from_trip_there k e h =
      let t = get_or c.transfers k e in
      end_there k e h 4 5 "from_trip_id" (is_none (option_map word t.from_trip_id)) (empty_at others c file.Transfers c.transfers transfer_cells refl (sound.cells file.Transfers) k e h "from_trip_id" refl (option_map word t.from_trip_id) refl refl)
      (λ high. not_none t.from_trip_id word (has_trips t (ends k e h) high).from)

  to_trip_there : (k : ℕ) (e : Transfer) → k < length c.transfers → lacks_end 4 5 "to_trip_id" (written_beside others c) (k + 2) ≡ false
  to_trip_there k e h =
      let t = get_or c.transfers k e in
      end_there k e h 4 5 "to_trip_id" (is_none (option_map word t.to_trip_id)) (empty_at others c file.Transfers c.transfers transfer_cells refl (sound.cells file.Transfers) k e h "to_trip_id" refl (option_map word t.to_trip_id) refl refl)
      (λ high. not_none t.to_trip_id word (has_trips t (ends k e h) high).to)

  pub no_value_missing : (y : File) (n : ℕ) (name : List ℕ) → value_missing_or_forbidden (written_beside others c) y n name ≡ false
  no_value_missing y n name =
      or_from _ _ (no_told others c file.Agency c.agencies agency_cells refl (sound.cells file.Agency) "agency_id" (lacks_agency file.Agency) agency_has_id y n name)
      (or_from _ _ (no_told others c file.Stops c.stops stop_cells refl (sound.cells file.Stops) "stop_name" (lacks_name_or_position "stop_name") stop_has_name y n name)
      (or_from _ _ (no_told others c file.Stops c.stops stop_cells refl (sound.cells file.Stops) "stop_lat" (lacks_name_or_position "stop_lat") stop_has_latitude y n name)
      (or_from _ _ (no_told others c file.Stops c.stops stop_cells refl (sound.cells file.Stops) "stop_lon" (lacks_name_or_position "stop_lon") stop_has_longitude y n name)
      (or_from _ _ (no_told others c file.Stops c.stops stop_cells refl (sound.cells file.Stops) "parent_station" has_wrong_parent stop_has_parent y n name)
      (or_from _ _ (no_told others c file.Routes c.routes route_cells refl (sound.cells file.Routes) "route_short_name" lacks_name route_has_name y n name)
      (or_from _ _ (no_told others c file.Routes c.routes route_cells refl (sound.cells file.Routes) "agency_id" (lacks_agency file.Routes) route_has_agency y n name)
      (or_from _ _ (no_told others c file.Transfers c.transfers transfer_cells refl (sound.cells file.Transfers) "from_stop_id" (lacks_end 1 3 "from_stop_id") from_stop_there y n name)
      (or_from _ _ (no_told others c file.Transfers c.transfers transfer_cells refl (sound.cells file.Transfers) "to_stop_id" (lacks_end 1 3 "to_stop_id") to_stop_there y n name)
      (or_from _ _ (no_told others c file.Transfers c.transfers transfer_cells refl (sound.cells file.Transfers) "from_trip_id" (lacks_end 4 5 "from_trip_id") from_trip_there y n name)
      (or_from _ _ (no_told others c file.Transfers c.transfers transfer_cells refl (sound.cells file.Transfers) "to_trip_id" (lacks_end 4 5 "to_trip_id") to_trip_there y n name) refl))))))))))
