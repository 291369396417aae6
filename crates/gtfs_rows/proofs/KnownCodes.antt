-- Every reference of a written content names a row: E10.
use Rattle.std.proofs.Common.{◌≡◌, ◌<◌, ℕ, List, [], ◌∷◌, length, get_or, map, true, false, Bool, Option, Some, None, refl, sym, ap, ◌∙◌, inl, inr}
use Rattle.std.specs.Prelude.{◌==◌, ◌&&◌, ◌||◌, not, bytes_eq, codes, if◌then◌else◌, option_map, is_some}
use Prim.Native.String.{String as Literal}
use Rattle.std.specs.List.{Contains, list_all}
use Rattle.std.proofs.lemmas.Bool.{and_parts, and_left, and_right, or_cases, or_from, or_left, or_right, cases_Bool}
use Rattle.std.proofs.lemmas.List.Elements.{Contains-append_cases}
use Rattle.std.proofs.lemmas.List.Folds.{list_any_at as any_at}
use Rattle.gtfs_table.specs.declared.file.File.{File}
use Rattle.gtfs_table.specs.declared.file.File.TheVariants as file
use Rattle.gtfs_table.specs.Rows.{is_row, records_in, is_empty}
use Rattle.gtfs_table.proofs.BlankFacts.{no_text}
use Rattle.gtfs_schema.specs.Columns.{columns_of, id}
use Rattle.gtfs_schema.specs.KeyRules.{is_known, unknown_reference}
use Rattle.gtfs_schema.specs.References.{stop_targets, route_targets, trip_targets}
use Rattle.gtfs_schema.specs.RowConditions.{is_file, text_in, value_in, row_with}
use Rattle.gtfs_schema.specs.FieldValues.{word}
use Rattle.gtfs_schema.proofs.SiteFacts.{text_itself}
use Rattle.gtfs_rows.specs.Cells.{cell_text}
use Rattle.gtfs_rows.specs.Content.{Content}
use Rattle.gtfs_rows.specs.NamedCells.{cell_named, text_named}
use Rattle.gtfs_rows.specs.RowCells.{agency_cells, stop_cells, route_cells, trip_cells, stop_time_cells, week_cells, exception_cells, frequency_cells, transfer_cells, id_cell, stop_times_of, weeks_of, exceptions_of, frequencies_of}
use Rattle.gtfs_rows.specs.Rows.{Stop, Route, StopRow, Trip, Transfer}
use Rattle.gtfs_rows.specs.SoundContent.{IsSound, has_ends, has_id, has_name_and_position, has_right_parent, if_given, is_end, is_sound_in, is_sound_period, is_sound_route, is_sound_service, is_sound_stop, is_sound_stop_row, is_sound_transfer, is_sound_trip, is_stop_of, keeps_time, leaves}
use Rattle.gtfs_rows.specs.WrittenContent.{written_beside}
use Rattle.gtfs_rows.proofs.PeriodCodes.{period}
use Rattle.gtfs_rows.proofs.ReferenceCodes.{known_in}
use Rattle.gtfs_rows.proofs.RowTexts.{all_at}
use Rattle.gtfs_rows.proofs.SameElements.{contains-first, contains-from_map, contains-later}
use Rattle.gtfs_rows.proofs.ServicesAgain.{in_file}
use Rattle.gtfs_rows.proofs.TripCodes.{contained, stop_time}
use Rattle.gtfs_rows.proofs.UnknownCodes.{reference_ok, stop_is_known, route_is_known, trip_is_known}
use Rattle.gtfs_rows.proofs.KeyedRows.{any_from as any_contained}

-- ---- lists and values that may be missing

-- the row that has an id
has_row : {X : Type 0} (id' : X → List ℕ) (xs : List X) (t : List ℕ) → has_id id' xs t ≡ true → (x : X) × (Contains xs x × (bytes_eq (id' x) t ≡ true))
has_row id' [] t h = cc
has_row id' (x ∷ xs) t h = elim (or_cases (bytes_eq (id' x) t) (has_id id' xs t) h) [
  | inl here ↦ (x, (contains-first x x xs refl, here))
  | inr later ↦ let rest = has_row id' xs t later in (rest.0, (contains-later rest.0 x xs rest.1.0, rest.1.1))
]

given_more : {X : Type 0} (o : Option X) (p q : X → Bool) → ((x : X) → p x ≡ true → q x ≡ true) → if_given o p ≡ true → if_given o q ≡ true
given_more None p q more h = refl
given_more (Some x) p q more h = more x h

-- ---- ids that may be empty

abbrev given : List ℕ → Option (List ℕ)
given t = if is_empty t then None else Some t

id_given : (t : List ℕ) → id_cell t ≡ option_map word (given t)
id_given t = elim (cases_Bool (is_empty t)) [
  | inl empty ↦ rw empty refl
  | inr filled ↦ rw filled refl
]

pub id_text : (t : List ℕ) → cell_text id (id_cell t) ≡ t
id_text t = elim (cases_Bool (is_empty t)) [
  | inl empty ↦ rw empty (sym (no_text t empty))
  | inr filled ↦ rw filled refl
]

given_known : (p : List ℕ → Bool) (t : List ℕ) → p t ≡ true → if_given (given t) p ≡ true
given_known p t h = elim (cases_Bool (is_empty t)) [
  | inl empty ↦ rw empty refl
  | inr filled ↦ rw filled h
]

module _ (others : List (List ℕ)) (c : Content) (sound : IsSound c) where
  -- ---- what is known

  agency_is_known : (t : List ℕ) → has_id (λ a. a.agency_id) c.agencies t ≡ true → is_known (written_beside others c) ((file.Agency, codes "agency_id") ∷ []) t ≡ true
  agency_is_known t h =
      or_left _ false (known_in others c file.Agency c.agencies agency_cells refl (sound.cells file.Agency) "agency_id" refl (λ a. a.agency_id) (λ a. id_text a.agency_id) t ∙ h)

  -- an id that a held element names
  held_id : {Y : Type 0} (ps : List (List ℕ × Y)) (t q : List ℕ) → Contains (map (λ p. p.0) ps) q → bytes_eq q t ≡ true → has_id (λ p. p.0) ps t ≡ true
  held_id ps t q at same =
      let from = contains-from_map (λ p. p.0) ps q at in
      any_contained (λ p. bytes_eq p.0 t) ps from.0 from.1.0 (ap (λ u. bytes_eq u t) from.1.1 ∙ same)

  service_is_known : (t : List ℕ) → has_id (λ s. s.service_id) c.services t ≡ true
      → is_known (written_beside others c) ((file.Calendar, codes "service_id") ∷ (file.CalendarDates, codes "service_id") ∷ []) t ≡ true
  service_is_known t h =
      let row = has_row (λ s. s.service_id) c.services t h in
      let s = row.0 in
      let week = is_some (row_with (written_beside others c) file.Calendar (codes "service_id") t) in
      let day = is_some (row_with (written_beside others c) file.CalendarDates (codes "service_id") t) in
      elim (Contains-append_cases (map (λ p. p.0) (weeks_of c)) (map (λ p. p.0) (exceptions_of c)) s.service_id (in_file others c sound s row.1.0 (contained is_sound_service c.services s sound.services row.1.0))) [
        | inl at ↦ or_left week (day || false)
            (known_in others c file.Calendar (weeks_of c) week_cells refl (sound.cells file.Calendar) "service_id" refl (λ p. p.0) (λ p. refl) t ∙ held_id (weeks_of c) t s.service_id at row.1.1)
        | inr at ↦ or_right week (day || false) (or_left day false
            (known_in others c file.CalendarDates (exceptions_of c) exception_cells refl (sound.cells file.CalendarDates) "service_id" refl (λ p. p.0) (λ p. refl) t ∙ held_id (exceptions_of c) t s.service_id at row.1.1))
      ]

  -- the trip of a held row
  trip_known : (q : List ℕ) (k : ℕ) (d : Trip) → k < length c.trips → q ≡ (get_or c.trips k d).trip_id → is_known (written_beside others c) trip_targets q ≡ true
  trip_known q k d within named =
      trip_is_known others c sound q (any_at (λ t. bytes_eq t.trip_id q) c.trips k d within (ap (λ u. bytes_eq u q) (sym named) ∙ text_itself q))

  -- ---- what the rows name

  parent_known : (k : ℕ) (e : Stop) → k < length c.stops → if_given (get_or c.stops k e).parent_station (is_known (written_beside others c) stop_targets) ≡ true
  parent_known k e h =
      let s = get_or c.stops k e in
      of_parent s.location_type s.parent_station (and_parts (_ || has_name_and_position s) (has_right_parent c s.location_type s.parent_station) (all_at (is_sound_stop c) c.stops k e sound.stops h)).1
    where
      of_parent : (type : ℕ) (o : Option (List ℕ)) → has_right_parent c type o ≡ true → if_given o (is_known (written_beside others c) stop_targets) ≡ true
      of_parent type None fine = refl
      of_parent type (Some p) fine = stop_is_known others c sound ((if type == 4 then 0 else 1) ∷ []) p (and_parts (not (type == 1)) (is_stop_of c ((if type == 4 then 0 else 1) ∷ []) p) fine).1

  platform_known : (k : ℕ) (e : List ℕ × StopRow) → k < length (stop_times_of c) → is_known (written_beside others c) stop_targets (get_or (stop_times_of c) k e).1.stop_id ≡ true
  platform_known k e h =
      let r = (get_or (stop_times_of c) k e).1 in
      let s = stop_time others c sound k e h in
      let rs = (get_or c.trips s.index s.none).stop_rows in
      let outer = and_parts (is_sound_stop_row c r && (is_some (leaves r) || not (is_end rs r))) (list_all (keeps_time r) rs) s.fine in
      let inner = and_parts (is_sound_stop_row c r) (is_some (leaves r) || not (is_end rs r)) outer.0 in
      stop_is_known others c sound (0 ∷ []) r.stop_id (and_parts (is_stop_of c (0 ∷ []) r.stop_id) _ inner.0).0

  agency_known : (k : ℕ) (e : Route) → k < length c.routes → if_given (given (get_or c.routes k e).agency_id) (is_known (written_beside others c) ((file.Agency, codes "agency_id") ∷ [])) ≡ true
  agency_known k e h =
      let r = get_or c.routes k e in
      given_known (is_known (written_beside others c) ((file.Agency, codes "agency_id") ∷ [])) r.agency_id
      (agency_is_known r.agency_id (and_parts (has_id (λ a. a.agency_id) c.agencies r.agency_id) _ (all_at (is_sound_route c) c.routes k e sound.routes h)).0)

  -- the route and the service of a trip
  trip_ends : (k : ℕ) (e : Trip) → k < length c.trips
      → (has_id (λ r. r.route_id) c.routes (get_or c.trips k e).route_id ≡ true) × (has_id (λ s. s.service_id) c.services (get_or c.trips k e).service_id ≡ true)
  trip_ends k e h =
      let t = get_or c.trips k e in
      let a = and_parts (has_id (λ r. r.route_id) c.routes t.route_id && has_id (λ s. s.service_id) c.services t.service_id && list_all (is_sound_in c t.stop_rows) t.stop_rows)
      (list_all (is_sound_period t.frequencies) t.frequencies) (all_at (is_sound_trip c) c.trips k e sound.trips h) in
      let b = and_parts (has_id (λ r. r.route_id) c.routes t.route_id && has_id (λ s. s.service_id) c.services t.service_id) (list_all (is_sound_in c t.stop_rows) t.stop_rows) a.0 in
      and_parts (has_id (λ r. r.route_id) c.routes t.route_id) (has_id (λ s. s.service_id) c.services t.service_id) b.0

  -- what a transfer names
  record Names (t : Transfer) : Type 0 where
    from_stop : if_given t.from_stop_id (is_known (written_beside others c) stop_targets) ≡ true
    to_stop : if_given t.to_stop_id (is_known (written_beside others c) stop_targets) ≡ true
    from_route : if_given t.from_route_id (is_known (written_beside others c) route_targets) ≡ true
    to_route : if_given t.to_route_id (is_known (written_beside others c) route_targets) ≡ true
    from_trip : if_given t.from_trip_id (is_known (written_beside others c) trip_targets) ≡ true
    to_trip : if_given t.to_trip_id (is_known (written_beside others c) trip_targets) ≡ true

  transfer_names : (k : ℕ) (e : Transfer) → k < length c.transfers → Names (get_or c.transfers k e)
  transfer_names k e h =
      let t = get_or c.transfers k e in
      let a = and_parts _ (has_ends t) (all_at (is_sound_transfer c) c.transfers k e sound.transfers h) in
      let b = and_parts _ (if_given t.to_trip_id (has_id (λ r. r.trip_id) c.trips)) a.0 in
      let d = and_parts _ (if_given t.from_trip_id (has_id (λ r. r.trip_id) c.trips)) b.0 in
      let f = and_parts _ (if_given t.to_route_id (has_id (λ r. r.route_id) c.routes)) d.0 in
      let g = and_parts _ (if_given t.from_route_id (has_id (λ r. r.route_id) c.routes)) f.0 in
      let i = and_parts (if_given t.from_stop_id (is_stop_of c (0 ∷ 1 ∷ []))) (if_given t.to_stop_id (is_stop_of c (0 ∷ 1 ∷ []))) g.0 in
      record {
        from_stop = given_more t.from_stop_id (is_stop_of c (0 ∷ 1 ∷ [])) (is_known (written_beside others c) stop_targets) (stop_is_known others c sound (0 ∷ 1 ∷ [])) i.0;
        to_stop = given_more t.to_stop_id (is_stop_of c (0 ∷ 1 ∷ [])) (is_known (written_beside others c) stop_targets) (stop_is_known others c sound (0 ∷ 1 ∷ [])) i.1;
        from_route = given_more t.from_route_id (has_id (λ r. r.route_id) c.routes) (is_known (written_beside others c) route_targets) (route_is_known others c sound) g.1;
        to_route = given_more t.to_route_id (has_id (λ r. r.route_id) c.routes) (is_known (written_beside others c) route_targets) (route_is_known others c sound) f.1;
        from_trip = given_more t.from_trip_id (has_id (λ r. r.trip_id) c.trips) (is_known (written_beside others c) trip_targets) (trip_is_known others c sound) d.1;
        to_trip = given_more t.to_trip_id (has_id (λ r. r.trip_id) c.trips) (is_known (written_beside others c) trip_targets) (trip_is_known others c sound) b.1;
      }

  -- ---- the thirteen references

  module _ (column : Literal) (filled : is_empty (codes column) ≡ false) (targets : List (File × List ℕ)) where
    transfer_name : (of : Transfer → Option (List ℕ)) → ((t : Transfer) → cell_named (columns_of file.Transfers) (transfer_cells t) (codes column) ≡ option_map word (of t))
        → ((t : Transfer) → text_named (columns_of file.Transfers) (transfer_cells t) (codes column) ≡ cell_text id (option_map word (of t)))
        → ((k : ℕ) (e : Transfer) → k < length c.transfers → if_given (of (get_or c.transfers k e)) (is_known (written_beside others c) targets) ≡ true)
        → (x : File) (n : ℕ) (name : List ℕ) → (is_row (records_in (written_beside others c) x) n && is_some (value_in (written_beside others c) x n name)) ≡ true
        → (is_file file.Transfers x && bytes_eq (codes column) name && not (is_known (written_beside others c) targets (text_in (written_beside others c) x n name))) ≡ false
    transfer_name of cell as_text known = reference_ok others c file.Transfers c.transfers transfer_cells refl (sound.cells file.Transfers) column filled targets of cell as_text known

  pub no_reference_unknown : (x : File) (n : ℕ) (name : List ℕ) → unknown_reference (written_beside others c) x n name ≡ false
  no_reference_unknown x n name =
      let there = is_row (records_in (written_beside others c) x) n && is_some (value_in (written_beside others c) x n name) in
      elim (cases_Bool there) [
        | inr none ↦ and_left there _ none
        | inl some ↦ and_right there _
            (or_from _ _ (reference_ok others c file.Stops c.stops stop_cells refl (sound.cells file.Stops) "parent_station" refl stop_targets (λ s. s.parent_station) (λ s. refl) (λ s. refl) parent_known x n name some)
            (or_from _ _ (reference_ok others c file.StopTimes (stop_times_of c) stop_time_cells refl (sound.cells file.StopTimes) "stop_id" refl stop_targets (λ p. Some p.1.stop_id) (λ p. refl) (λ p. refl) platform_known x n name some)
            (or_from _ _ (transfer_name "from_stop_id" refl stop_targets (λ t. t.from_stop_id) (λ t. refl) (λ t. refl) (λ k e h. (transfer_names k e h).from_stop) x n name some)
            (or_from _ _ (transfer_name "to_stop_id" refl stop_targets (λ t. t.to_stop_id) (λ t. refl) (λ t. refl) (λ k e h. (transfer_names k e h).to_stop) x n name some)
            (or_from _ _ (reference_ok others c file.Routes c.routes route_cells refl (sound.cells file.Routes) "agency_id" refl ((file.Agency, codes "agency_id") ∷ []) (λ r. given r.agency_id) (λ r. id_given r.agency_id)
            (λ r. ap (cell_text id) (id_given r.agency_id)) agency_known x n name some)
            (or_from _ _ (reference_ok others c file.Trips c.trips trip_cells refl (sound.cells file.Trips) "route_id" refl route_targets (λ t. Some t.route_id) (λ t. refl) (λ t. refl)
            (λ k e h. route_is_known others c sound (get_or c.trips k e).route_id (trip_ends k e h).0) x n name some)
            (or_from _ _ (transfer_name "from_route_id" refl route_targets (λ t. t.from_route_id) (λ t. refl) (λ t. refl) (λ k e h. (transfer_names k e h).from_route) x n name some)
            (or_from _ _ (transfer_name "to_route_id" refl route_targets (λ t. t.to_route_id) (λ t. refl) (λ t. refl) (λ k e h. (transfer_names k e h).to_route) x n name some)
            (or_from _ _ (reference_ok others c file.Trips c.trips trip_cells refl (sound.cells file.Trips) "service_id" refl ((file.Calendar, codes "service_id") ∷ (file.CalendarDates, codes "service_id") ∷ []) (λ t. Some t.service_id) (λ t. refl) (λ t. refl)
            (λ k e h. service_is_known (get_or c.trips k e).service_id (trip_ends k e h).1) x n name some)
            (or_from _ _ (reference_ok others c file.StopTimes (stop_times_of c) stop_time_cells refl (sound.cells file.StopTimes) "trip_id" refl trip_targets (λ p. Some p.0) (λ p. refl) (λ p. refl)
            (λ k e h. let s = stop_time others c sound k e h in trip_known (get_or (stop_times_of c) k e).0 s.index s.none s.within s.named) x n name some)
            (or_from _ _ (reference_ok others c file.Frequencies (frequencies_of c) frequency_cells refl (sound.cells file.Frequencies) "trip_id" refl trip_targets (λ p. Some p.0) (λ p. refl) (λ p. refl)
            (λ k e h. let s = period others c sound k e h in trip_known (get_or (frequencies_of c) k e).0 s.index s.none s.within s.named) x n name some)
            (or_from _ _ (transfer_name "from_trip_id" refl trip_targets (λ t. t.from_trip_id) (λ t. refl) (λ t. refl) (λ k e h. (transfer_names k e h).from_trip) x n name some)
            (or_from _ _ (transfer_name "to_trip_id" refl trip_targets (λ t. t.to_trip_id) (λ t. refl) (λ t. refl) (λ k e h. (transfer_names k e h).to_trip) x n name some) refl)))))))))))))
      ]
