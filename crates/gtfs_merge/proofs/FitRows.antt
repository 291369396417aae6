-- Cells of a sound feed's rows stay inside their columns under names that fit.
use Rattle.std.proofs.Common.{◌≡◌, ℕ, Bool, true, List, [], ◌∷◌, Some, None, Option, refl, sym, ap, ◌∙◌, subst, inl, inr, map, option_map, is_some, unwrap_or, true≢false}
use Rattle.std.specs.Prelude.{flat_map}
use Rattle.std.specs.List.{list_all}
use Rattle.std.proofs.lemmas.Bool.{and_parts, and_from}
use Rattle.std.proofs.lemmas.List.Concat.{flat_map-cons}
use Rattle.gtfs_table.specs.declared.file.File.TheVariants as file
use Prim.Native.String.{String as Literal}
use Rattle.gtfs_schema.specs.Columns.{columns_of, id, optional}
use Rattle.gtfs_schema.specs.FieldValues.{word}
use Rattle.gtfs_rows.specs.Cells.{are_cells, is_cell}
use Rattle.gtfs_rows.specs.Content.{Content}
use Rattle.gtfs_rows.specs.RowCells.{agency_cells, stop_cells, route_cells, trip_cells, stop_time_cells, week_cells, exception_cells, frequency_cells, transfer_cells, week_list, stop_times_of, weeks_of, exceptions_of, frequencies_of}
use Rattle.gtfs_rows.specs.Rows.{Agency, Stop, Route, ServiceRow, Trip, Transfer}
use Rattle.gtfs_rows.specs.SoundContent.{IsSound, has_id as has_row, if_given, is_stop_of, is_sound_route, is_sound_trip, is_sound_transfer}
use Rattle.gtfs_rows.proofs.Members.{In, In-append, In-left, In-map, In-right, cells-at, held-In, list_all-In, list_all-from}
use Rattle.gtfs_merge.specs.Merged.{agency_with, service_with, transfer_with}
use Rattle.gtfs_merge.specs.Renaming.{Names, lists_id, ids, renaming, stop_with, route_with, stop_row_with, trip_with}
use Rattle.gtfs_merge.specs.declared.kind.Kind.{Kind}
use Rattle.gtfs_merge.specs.declared.kind.Kind.TheVariants as kind
use Rattle.gtfs_merge.proofs.MergedRows.{has_own, has_found}
use Rattle.gtfs_merge.proofs.Carried.{trip_id_of, service_id_of}
use Rattle.gtfs_merge.proofs.Stops.{stop_id_of, HasPlaces}
use Rattle.gtfs_merge.proofs.Premises.{row-id, of_type-found, sound-places}
use Rattle.gtfs_merge.proofs.FitCells.{fit-cells, stays}
use Rattle.gtfs_merge.proofs.Fitting.{Fits}
use Rattle.gtfs_merge.proofs.MergedNames.{cell-clean}

-- ---- what rows hold

In-flat : {X Y : Type 0} (f : X → List Y) (xs : List X) (y : Y) → In y (flat_map f xs) → (x : X) × In x xs × In y (f x)
In-flat f [] y i = elim i [ ]
In-flat {X = X} {Y = Y} f (x ∷ xs) y i =
    elim (In-append (f x) (flat_map f xs) y (subst (λ l. In y l) (flat_map-cons f x xs) i)) as (λ w. (z : X) × In z (x ∷ xs) × In y (f z)) [
      | inl j ↦ (x, inl refl, j)
      | inr j ↦ let r = In-flat f xs y j in (r.0, inr r.1, r.2)
    ]

flat-In : {X Y : Type 0} (f : X → List Y) (xs : List X) (x : X) (y : Y) → In x xs → In y (f x) → In y (flat_map f xs)
flat-In f [] x y i j = elim i [ ]
flat-In f (z ∷ zs) x y (inl e) j = subst (λ l. In y l) (sym (flat_map-cons f z zs)) (In-left (f z) (flat_map f zs) y (subst (λ v. In y (f v)) (sym e) j))
flat-In f (z ∷ zs) x y (inr i) j = subst (λ l. In y l) (sym (flat_map-cons f z zs)) (In-right (f z) (flat_map f zs) y (flat-In f zs x y i j))

-- cells of rows that are each rows of one list or of the other
-- ---- cells of one feed's rows under names that fit

module _ (m f : Content) (n : Names) (fits : Fits m f n) (sound : IsSound f) where
  abbrev places : HasPlaces f
  places = sound-places f sound

  pub fit-agency_cells : (x : Agency) → In x f.agencies → are_cells (columns_of file.Agency) (agency_cells (agency_with n.agency x)) ≡ true
  fit-agency_cells x i = fit-cells (columns_of file.Agency) (agency_cells x) (agency_cells (agency_with n.agency x))
      (λ e. cell-clean "agency_id" (n.agency x.agency_id) (fits.clean x.agency_id (has_own (λ a. a.agency_id) f.agencies x i)), (stays, (stays, (stays, (stays, (stays, (stays, (stays, stays))))))))
      (cells-at (columns_of file.Agency) agency_cells f.agencies (sound.cells file.Agency) x i)

  -- an id that may be missing names a row
  abbrev IsNamed : Kind → Option (List ℕ) → Type 0
  IsNamed k o = (x : List ℕ) → o ≡ Some x → lists_id (ids k f) x ≡ true

  fit-option : (name : Literal) (k : Kind) (o : Option (List ℕ)) → IsNamed k o → is_cell (optional name id) (option_map word o) ≡ true
      → is_cell (optional name id) (option_map word (option_map (renaming n k) o)) ≡ true
  fit-option name k None h e = refl
  fit-option name k (Some x) h e = fits.filled k x (h x refl) e

  pub fit-stop_cells : (s : Stop) → In s f.stops → are_cells (columns_of file.Stops) (stop_cells (stop_with n.stop s)) ≡ true
  fit-stop_cells s i = fit-cells (columns_of file.Stops) (stop_cells s) (stop_cells (stop_with n.stop s))
      (fits.filled kind.Stop s.stop_id (has_own stop_id_of f.stops s i), (stays, (stays, (stays, (stays, (stays, (stays, (stays, (stays, (fit-option "parent_station" kind.Stop s.parent_station (places.parents_named s i), (stays, (stays, stays))))))))))))
      (cells-at (columns_of file.Stops) stop_cells f.stops (sound.cells file.Stops) s i)

  pub fit-route_cells : (r : Route) → In r f.routes → are_cells (columns_of file.Routes) (route_cells (route_with n.route n.agency r)) ≡ true
  fit-route_cells r i =
      let p = and_parts (has_row (λ a. a.agency_id) f.agencies r.agency_id) _ (list_all-In (is_sound_route f) f.routes sound.routes r i) in
      fit-cells (columns_of file.Routes) (route_cells r) (route_cells (route_with n.route n.agency r))
      (fits.filled kind.Route r.route_id (has_own (λ r. r.route_id) f.routes r i), ((λ e. cell-clean "agency_id" (n.agency r.agency_id) (fits.clean r.agency_id (row-id (λ a. a.agency_id) f.agencies r.agency_id ∙ p.0))), (stays, (stays, (stays, (stays, (stays, (stays, (stays, (stays, stays))))))))))
      (cells-at (columns_of file.Routes) route_cells f.routes (sound.cells file.Routes) r i)

  -- ---- trips

  abbrev pub renamed_trip : Trip → Trip
  renamed_trip t = trip_with n.trip n.route n.service n.stop t

  trip-names : (t : Trip) → In t f.trips → (lists_id (ids kind.Route f) t.route_id ≡ true) × (lists_id (ids kind.Service f) t.service_id ≡ true)
  trip-names t i =
      let p = and_parts _ _ (list_all-In (is_sound_trip f) f.trips sound.trips t i) in
      let q = and_parts _ _ p.0 in
      let r = and_parts (has_row (λ r. r.route_id) f.routes t.route_id) (has_row (λ s. s.service_id) f.services t.service_id) q.0 in
      (row-id (λ r. r.route_id) f.routes t.route_id ∙ r.0, row-id (λ s. s.service_id) f.services t.service_id ∙ r.1)

  pub fit-trip_cells : (t : Trip) → In t f.trips → are_cells (columns_of file.Trips) (trip_cells (renamed_trip t)) ≡ true
  fit-trip_cells t i =
      let names = trip-names t i in
      fit-cells (columns_of file.Trips) (trip_cells t) (trip_cells (renamed_trip t))
      (fits.filled kind.Route t.route_id names.0, (fits.filled kind.Service t.service_id names.1, (fits.filled kind.Trip t.trip_id (has_own trip_id_of f.trips t i), (stays, (stays, (stays, (stays, (stays, stays))))))))
      (cells-at (columns_of file.Trips) trip_cells f.trips (sound.cells file.Trips) t i)

  abbrev pub time_cells_fit : Trip → Bool
  time_cells_fit t = list_all (λ r. are_cells (columns_of file.StopTimes) (stop_time_cells (t.trip_id, r))) t.stop_rows

  pub fit-time_cells : (t : Trip) → In t f.trips → time_cells_fit (renamed_trip t) ≡ true
  fit-time_cells t i = list_all-from _ (map (stop_row_with n.stop) t.stop_rows) (λ y j.
      let r = In-map (stop_row_with n.stop) t.stop_rows y j in
      ap (λ v. are_cells (columns_of file.StopTimes) (stop_time_cells (n.trip t.trip_id, v))) (sym r.2)
      ∙ fit-cells (columns_of file.StopTimes) (stop_time_cells (t.trip_id, r.0)) (stop_time_cells (n.trip t.trip_id, stop_row_with n.stop r.0))
      (fits.filled kind.Trip t.trip_id (has_own trip_id_of f.trips t i), (stays, (stays, (fits.filled kind.Stop r.0.stop_id (places.rows_named t i r.0 r.1), (stays, (stays, (stays, (stays, (stays, stays)))))))))
      (cells-at (columns_of file.StopTimes) stop_time_cells (stop_times_of f) (sound.cells file.StopTimes) (t.trip_id, r.0) (held-In (λ t. t.trip_id) (λ t. t.stop_rows) f.trips t r.0 i r.1)))

  abbrev pub frequency_cells_fit : Trip → Bool
  frequency_cells_fit t = list_all (λ p. are_cells (columns_of file.Frequencies) (frequency_cells (t.trip_id, p))) t.frequencies

  pub fit-frequency_cells : (t : Trip) → In t f.trips → frequency_cells_fit (renamed_trip t) ≡ true
  fit-frequency_cells t i = list_all-from _ t.frequencies (λ p j.
      let e = cells-at (columns_of file.Frequencies) frequency_cells (frequencies_of f) (sound.cells file.Frequencies) (t.trip_id, p) (held-In (λ t. t.trip_id) (λ t. t.frequencies) f.trips t p i j) in
      let q = and_parts _ _ e in
      and_from _ _ (fits.filled kind.Trip t.trip_id (has_own trip_id_of f.trips t i) q.0) q.1)

  -- ---- services

  abbrev pub week_cells_fit : ServiceRow → Bool
  week_cells_fit s = list_all (λ w. are_cells (columns_of file.Calendar) (week_cells (s.service_id, w))) (week_list s.service.week)

  pub fit-week_cells : (s : ServiceRow) → In s f.services → week_cells_fit (service_with n.service s) ≡ true
  fit-week_cells s i = list_all-from _ (week_list s.service.week) (λ w j.
      let e = cells-at (columns_of file.Calendar) week_cells (weeks_of f) (sound.cells file.Calendar) (s.service_id, w) (held-In (λ s. s.service_id) (λ s. week_list s.service.week) f.services s w i j) in
      let q = and_parts _ _ e in
      and_from _ _ (fits.filled kind.Service s.service_id (has_own service_id_of f.services s i) q.0) q.1)

  abbrev pub exception_cells_fit : ServiceRow → Bool
  exception_cells_fit s = list_all (λ x. are_cells (columns_of file.CalendarDates) (exception_cells (s.service_id, x))) s.service.exceptions

  pub fit-exception_cells : (s : ServiceRow) → In s f.services → exception_cells_fit (service_with n.service s) ≡ true
  fit-exception_cells s i = list_all-from _ s.service.exceptions (λ x j.
      let e = cells-at (columns_of file.CalendarDates) exception_cells (exceptions_of f) (sound.cells file.CalendarDates) (s.service_id, x) (held-In (λ s. s.service_id) (λ s. s.service.exceptions) f.services s x i j) in
      let q = and_parts _ _ e in
      and_from _ _ (fits.filled kind.Service s.service_id (has_own service_id_of f.services s i) q.0) q.1)

  -- ---- transfers

  named-place : (o : Option (List ℕ)) → if_given o (is_stop_of f (0 ∷ 1 ∷ [])) ≡ true → IsNamed kind.Stop o
  named-place None e x is = absurd (true≢false (sym (ap is_some is)))
  named-place (Some y) e x is =
      let w = of_type-found f (0 ∷ 1 ∷ []) y e in
      subst (λ v. lists_id (ids kind.Stop f) v ≡ true) (ap (λ o. unwrap_or o []) is) (has_found stop_id_of f.stops y w.0 w.1)

  named-row : {X : Type 0} (k : Kind) (own : X → List ℕ) (rows : List X) → map own rows ≡ ids k f → (o : Option (List ℕ)) → if_given o (has_row own rows) ≡ true → IsNamed k o
  named-row k own rows here None e x is = absurd (true≢false (sym (ap is_some is)))
  named-row k own rows here (Some y) e x is =
      subst (λ v. lists_id (ids k f) v ≡ true) (ap (λ o. unwrap_or o []) is) (ap (λ l. lists_id l y) (sym here) ∙ row-id own rows y ∙ e)

  pub fit-transfer_cells : (t : Transfer) → In t f.transfers → are_cells (columns_of file.Transfers) (transfer_cells (transfer_with n t)) ≡ true
  fit-transfer_cells t i =
      let p = and_parts _ _ (list_all-In (is_sound_transfer f) f.transfers sound.transfers t i) in
      let q = and_parts _ _ p.0 in
      let r = and_parts _ _ q.0 in
      let u = and_parts _ _ r.0 in
      let v = and_parts _ _ u.0 in
      let w = and_parts (if_given t.from_stop_id (is_stop_of f (0 ∷ 1 ∷ []))) _ v.0 in
      fit-cells (columns_of file.Transfers) (transfer_cells t) (transfer_cells (transfer_with n t))
      (fit-option "from_stop_id" kind.Stop t.from_stop_id (named-place t.from_stop_id w.0), (fit-option "to_stop_id" kind.Stop t.to_stop_id (named-place t.to_stop_id w.1), (fit-option "from_route_id" kind.Route t.from_route_id (named-row kind.Route (λ r. r.route_id) f.routes refl t.from_route_id v.1), (fit-option "to_route_id" kind.Route t.to_route_id (named-row kind.Route (λ r. r.route_id) f.routes refl t.to_route_id u.1), (fit-option "from_trip_id" kind.Trip t.from_trip_id (named-row kind.Trip (λ r. r.trip_id) f.trips refl t.from_trip_id r.1), (fit-option "to_trip_id" kind.Trip t.to_trip_id (named-row kind.Trip (λ r. r.trip_id) f.trips refl t.to_trip_id q.1), (stays, (stays, stays))))))))
      (cells-at (columns_of file.Transfers) transfer_cells f.transfers (sound.cells file.Transfers) t i)
