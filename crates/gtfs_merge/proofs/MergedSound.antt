-- The merged content of two sound feeds with one zone text is sound.
use Rattle.std.proofs.Common.{◌≡◌, ℕ, suc, true, false, not, List, [], ◌∷◌, ◌++◌, Some, refl, sym, ap, ◌∙◌, subst, inl, inr, map, length, bytes_eq, option_map, unwrap_or, slice_get, true≢false, ne_eqb, arith}
use Rattle.std.specs.Prelude.{◌==◌}
use Rattle.std.specs.List.{list_all}
use Rattle.std.specs.Ordering.{nat_cmp, int_cmp, on}
use Rattle.std.specs.Cmp.Lexicographic.{nat_list_cmp_total}
use Rattle.std.specs.declared.cmp.Ordering.TheVariants.{Less}
use Rattle.std.proofs.lemmas.Bool.{and_parts, and_from, not-false}
use Rattle.gtfs_field.specs.TextOrder.{text_cmp}
use Rattle.gtfs_table.specs.declared.file.File.{File}
use Rattle.gtfs_table.specs.declared.file.File.TheVariants as file
use Rattle.gtfs_schema.specs.Columns.{columns_of}
use Rattle.gtfs_schema.proofs.SiteFacts.{text_is as same_bytes}
use Rattle.gtfs_rows.specs.Cells.{are_cells, is_clean}
use Rattle.gtfs_rows.specs.Content.{Content}
use Rattle.gtfs_rows.specs.TransferOrder.{Ascends, transfer_key, transfer_key_cmp}
use Rattle.gtfs_rows.specs.RowCells.{agency_cells, stop_cells, route_cells, trip_cells, stop_time_cells, week_cells, exception_cells, frequency_cells, transfer_cells, week_list, stop_times_of, weeks_of, exceptions_of, frequencies_of, cells_in}
use Rattle.gtfs_rows.specs.Rows.{Agency, Stop, Route, ServiceRow, Trip, Transfer}
use Rattle.gtfs_rows.specs.SoundContent.{IsSound, IsInOrder, is_sound_agency, is_sound_stop, is_sound_route, is_sound_service, is_sound_trip, is_sound_transfer}
use Rattle.gtfs_rows.proofs.ContentAgain.{transfer_total}
use Rattle.gtfs_rows.proofs.SameElements.{pairs-map}
use Rattle.gtfs_rows.proofs.Members.{In, In-append, In-held, In-map, all-In, all-cells, all-from, list_all-In, list_all-from}
use Rattle.gtfs_merge.specs.MergedDepartures.{AreFew, IsNearness}
use Rattle.gtfs_merge.specs.Merged.{merged, by_id, zone_texts_differ, zone_text, agency_with, service_with, transfer_with}
use Rattle.gtfs_merge.specs.Renaming.{Names, Nearness, Renaming, ids, names_a, names_b, stop_with, route_with, stop_row_with, trip_with}
use Rattle.gtfs_merge.specs.declared.kind.Kind.{Kind}
use Rattle.gtfs_merge.specs.declared.kind.Kind.TheVariants as kind
use Rattle.gtfs_merge.proofs.Lookups.{list_any-In, bytes_same}
use Rattle.gtfs_merge.proofs.Equal.{exact-text}
use Rattle.gtfs_merge.proofs.MergedRows.{has_own}
use Rattle.gtfs_merge.proofs.Carried.{trip_id_of, service_id_of}
use Rattle.gtfs_merge.proofs.Stops.{stop_id_of}
use Rattle.gtfs_merge.proofs.Kept.{In-by_key, ascends-by_key}
use Rattle.gtfs_merge.proofs.Fitting.{Fits, fit-stop, fit-route, fit-trip, fit-transfer}
use Rattle.gtfs_merge.proofs.FitRows.{fit-agency_cells, fit-stop_cells, fit-route_cells, fit-trip_cells, fit-time_cells, fit-frequency_cells, fit-week_cells, fit-exception_cells, fit-transfer_cells, time_cells_fit, frequency_cells_fit, week_cells_fit, exception_cells_fit}
use Rattle.gtfs_merge.proofs.NewNames.{either}
use Rattle.gtfs_merge.proofs.MergedNames.{id_part, part-a, part-b, fits-a, fits-b}

-- what holds of the rows of both lists holds of each row by id
each-of : {X : Type 0} (id : X → List ℕ) (f g : X → X) (xs ys : List X) (P : X → Type 0) → ((x : X) → In x xs → P (f x)) → ((x : X) → In x ys → P (g x))
    → (r : X) → In r (by_id id (map f xs ++ map g ys)) → P r
each-of id f g xs ys P of_a of_b r i = elim (either id f g xs ys r i) as (λ w. P r) [
  | inl x ↦ subst P x.2 (of_a x.0 x.1)
  | inr x ↦ subst P x.2 (of_b x.0 x.1)
]

module _ (near : Nearness) (nearness : IsNearness near) (a b : Content) (sound_a : IsSound a) (sound_b : IsSound b) (few : (c : Kind) → AreFew c a b) where
  abbrev m : Content
  m = merged near a b

  abbrev na : Names
  na = names_a a b

  abbrev nb : Names
  nb = names_b near a b

  abbrev agency_id_of : Agency → List ℕ
  agency_id_of r = r.agency_id

  abbrev route_id_of : Route → List ℕ
  route_id_of r = r.route_id

  abbrev fa : Fits m a na
  fa = fits-a near nearness a b sound_a sound_b few

  abbrev fb : Fits m b nb
  fb = fits-b near nearness a b sound_a sound_b few

  -- ---- what holds of both feeds' rows under their names holds of the merged rows

  each-agency : (P : Agency → Type 0) → ((x : Agency) → In x a.agencies → P (agency_with na.agency x)) → ((x : Agency) → In x b.agencies → P (agency_with nb.agency x)) → (r : Agency) → In r m.agencies → P r
  each-agency P = each-of agency_id_of (agency_with na.agency) (agency_with nb.agency) a.agencies b.agencies P

  each-stop : (P : Stop → Type 0) → ((x : Stop) → In x a.stops → P (stop_with na.stop x)) → ((x : Stop) → In x b.stops → P (stop_with nb.stop x)) → (r : Stop) → In r m.stops → P r
  each-stop P = each-of stop_id_of (stop_with na.stop) (stop_with nb.stop) a.stops b.stops P

  each-route : (P : Route → Type 0) → ((x : Route) → In x a.routes → P (route_with na.route na.agency x)) → ((x : Route) → In x b.routes → P (route_with nb.route nb.agency x)) → (r : Route) → In r m.routes → P r
  each-route P = each-of route_id_of (route_with na.route na.agency) (route_with nb.route nb.agency) a.routes b.routes P

  each-service : (P : ServiceRow → Type 0) → ((x : ServiceRow) → In x a.services → P (service_with na.service x)) → ((x : ServiceRow) → In x b.services → P (service_with nb.service x)) → (r : ServiceRow) → In r m.services → P r
  each-service P = each-of service_id_of (service_with na.service) (service_with nb.service) a.services b.services P

  abbrev trip_under : Names → Trip → Trip
  trip_under n t = trip_with n.trip n.route n.service n.stop t

  each-trip : (P : Trip → Type 0) → ((x : Trip) → In x a.trips → P (trip_under na x)) → ((x : Trip) → In x b.trips → P (trip_under nb x)) → (r : Trip) → In r m.trips → P r
  each-trip P = each-of trip_id_of (trip_under na) (trip_under nb) a.trips b.trips P

  each-transfer : (P : Transfer → Type 0) → ((x : Transfer) → In x a.transfers → P (transfer_with na x)) → ((x : Transfer) → In x b.transfers → P (transfer_with nb x)) → (r : Transfer) → In r m.transfers → P r
  each-transfer P of_a of_b r i =
      elim (In-append (map (transfer_with na) a.transfers) (map (transfer_with nb) b.transfers) r (In-by_key transfer_key_cmp transfer_total transfer_key (map (transfer_with na) a.transfers ++ map (transfer_with nb) b.transfers) r i)) as (λ w. P r) [
        | inl j ↦ let x = In-map (transfer_with na) a.transfers r j in subst P x.2 (of_a x.0 x.1)
        | inr j ↦ let x = In-map (transfer_with nb) b.transfers r j in subst P x.2 (of_b x.0 x.1)
      ]

  -- ---- cells

  sound-cells : (x : File) → list_all (are_cells (columns_of x)) (cells_in m x) ≡ true
  sound-cells file.Agency = all-cells (columns_of file.Agency) agency_cells m.agencies
      (each-agency (λ r. are_cells (columns_of file.Agency) (agency_cells r) ≡ true) (fit-agency_cells m a na fa sound_a) (fit-agency_cells m b nb fb sound_b))
  sound-cells file.Stops = all-cells (columns_of file.Stops) stop_cells m.stops
      (each-stop (λ r. are_cells (columns_of file.Stops) (stop_cells r) ≡ true) (fit-stop_cells m a na fa sound_a) (fit-stop_cells m b nb fb sound_b))
  sound-cells file.Routes = all-cells (columns_of file.Routes) route_cells m.routes
      (each-route (λ r. are_cells (columns_of file.Routes) (route_cells r) ≡ true) (fit-route_cells m a na fa sound_a) (fit-route_cells m b nb fb sound_b))
  sound-cells file.Trips = all-cells (columns_of file.Trips) trip_cells m.trips
      (each-trip (λ r. are_cells (columns_of file.Trips) (trip_cells r) ≡ true) (fit-trip_cells m a na fa sound_a) (fit-trip_cells m b nb fb sound_b))
  sound-cells file.StopTimes = all-cells (columns_of file.StopTimes) stop_time_cells (stop_times_of m) (λ p i.
      let h = In-held (λ t. t.trip_id) (λ t. t.stop_rows) m.trips p i in
      let fit = each-trip (λ t. time_cells_fit m a na fa sound_a t ≡ true) (fit-time_cells m a na fa sound_a) (fit-time_cells m b nb fb sound_b) h.0 h.1 in
      ap (λ v. are_cells (columns_of file.StopTimes) (stop_time_cells v)) (sym h.4) ∙ list_all-In _ h.0.stop_rows fit h.2 h.3)
  sound-cells file.Calendar = all-cells (columns_of file.Calendar) week_cells (weeks_of m) (λ p i.
      let h = In-held (λ s. s.service_id) (λ s. week_list s.service.week) m.services p i in
      let fit = each-service (λ s. week_cells_fit m a na fa sound_a s ≡ true) (fit-week_cells m a na fa sound_a) (fit-week_cells m b nb fb sound_b) h.0 h.1 in
      ap (λ v. are_cells (columns_of file.Calendar) (week_cells v)) (sym h.4) ∙ list_all-In _ (week_list h.0.service.week) fit h.2 h.3)
  sound-cells file.CalendarDates = all-cells (columns_of file.CalendarDates) exception_cells (exceptions_of m) (λ p i.
      let h = In-held (λ s. s.service_id) (λ s. s.service.exceptions) m.services p i in
      let fit = each-service (λ s. exception_cells_fit m a na fa sound_a s ≡ true) (fit-exception_cells m a na fa sound_a) (fit-exception_cells m b nb fb sound_b) h.0 h.1 in
      ap (λ v. are_cells (columns_of file.CalendarDates) (exception_cells v)) (sym h.4) ∙ list_all-In _ h.0.service.exceptions fit h.2 h.3)
  sound-cells file.Frequencies = all-cells (columns_of file.Frequencies) frequency_cells (frequencies_of m) (λ p i.
      let h = In-held (λ t. t.trip_id) (λ t. t.frequencies) m.trips p i in
      let fit = each-trip (λ t. frequency_cells_fit m a na fa sound_a t ≡ true) (fit-frequency_cells m a na fa sound_a) (fit-frequency_cells m b nb fb sound_b) h.0 h.1 in
      ap (λ v. are_cells (columns_of file.Frequencies) (frequency_cells v)) (sym h.4) ∙ list_all-In _ h.0.frequencies fit h.2 h.3)
  sound-cells file.Transfers = all-cells (columns_of file.Transfers) transfer_cells m.transfers
      (each-transfer (λ r. are_cells (columns_of file.Transfers) (transfer_cells r) ≡ true) (fit-transfer_cells m a na fa sound_a) (fit-transfer_cells m b nb fb sound_b))

  -- ---- order

  abbrev RowsAscend : Trip → Type 0
  RowsAscend t = Ascends (on (λ r. r.stop_sequence) nat_cmp) t.stop_rows

  rows-ascend : (f : Content) → IsSound f → (n : Names) (t : Trip) → In t f.trips → RowsAscend (trip_under n t)
  rows-ascend f s n t i = pairs-map (stop_row_with n.stop) (λ x y. nat_cmp x.stop_sequence y.stop_sequence ≡ Less) t.stop_rows (all-In RowsAscend f.trips s.in_order.stop_rows t i)

  abbrev PeriodsAscend : Trip → Type 0
  PeriodsAscend t = Ascends (on (λ p. p.start_time) nat_cmp) t.frequencies

  abbrev ExceptionsAscend : ServiceRow → Type 0
  ExceptionsAscend s = Ascends (on (λ e. e.0) int_cmp) s.service.exceptions

  sound-order : IsInOrder m
  sound-order = record {
    agencies = ascends-by_key text_cmp nat_list_cmp_total agency_id_of (map (agency_with na.agency) a.agencies ++ map (agency_with nb.agency) b.agencies);
    stops = ascends-by_key text_cmp nat_list_cmp_total stop_id_of (map (stop_with na.stop) a.stops ++ map (stop_with nb.stop) b.stops);
    routes = ascends-by_key text_cmp nat_list_cmp_total route_id_of (map (route_with na.route na.agency) a.routes ++ map (route_with nb.route nb.agency) b.routes);
    services = ascends-by_key text_cmp nat_list_cmp_total service_id_of (map (service_with na.service) a.services ++ map (service_with nb.service) b.services);
    trips = ascends-by_key text_cmp nat_list_cmp_total trip_id_of (map (trip_under na) a.trips ++ map (trip_under nb) b.trips);
    transfers = ascends-by_key transfer_key_cmp transfer_total transfer_key (map (transfer_with na) a.transfers ++ map (transfer_with nb) b.transfers);
    stop_rows = all-from RowsAscend m.trips (each-trip RowsAscend (rows-ascend a sound_a na) (rows-ascend b sound_b nb));
    frequencies = all-from PeriodsAscend m.trips (each-trip PeriodsAscend (all-In PeriodsAscend a.trips sound_a.in_order.frequencies) (all-In PeriodsAscend b.trips sound_b.in_order.frequencies));
    exceptions = all-from ExceptionsAscend m.services (each-service ExceptionsAscend (all-In ExceptionsAscend a.services sound_a.in_order.exceptions) (all-In ExceptionsAscend b.services sound_b.in_order.exceptions));
  }

  -- ---- agencies

  some_agency : not (length m.agencies == 0) ≡ true
  some_agency =
      let r = a-row a.agencies sound_a.has_agency in
      let h = fa.named kind.Agency r.0.agency_id (has_own agency_id_of a.agencies r.0 r.1) in
      let x = list_any-In (bytes_eq (na.agency r.0.agency_id)) (ids kind.Agency m) h in
      let y = In-map agency_id_of m.agencies x.0 x.1 in
      there m.agencies y.0 y.1
    where
      a-row : (xs : List Agency) → not (length xs == 0) ≡ true → (r : Agency) × In r xs
      a-row [] e = absurd (true≢false (sym e))
      a-row (x ∷ xs) e = (x, inl refl)

      there : (xs : List Agency) (r : Agency) → In r xs → not (length xs == 0) ≡ true
      there [] r i = elim i [ ]
      there (x ∷ xs) r i = ap not (ne_eqb (suc (length xs)) 0 (λ e. absurd (omega arith)))

  abbrev same_zones : List Agency → Type 0
  same_zones xs = (x y : Agency) → In x xs → In y xs → x.agency_timezone ≡ y.agency_timezone

  zone-is : (f : Content) → IsSound f → (r : Agency) → In r f.agencies → zone_text f ≡ Some r.agency_timezone
  zone-is f s r i = by f.agencies (λ x y p q. same_bytes _ _ (list_all-In (λ b. bytes_eq x.agency_timezone b.agency_timezone) f.agencies (zones_of x p) y q)) r i
    where
      zones_of : (x : Agency) → In x f.agencies → list_all (λ b. bytes_eq x.agency_timezone b.agency_timezone) f.agencies ≡ true
      zones_of x p = (and_parts _ (list_all (λ b. bytes_eq x.agency_timezone b.agency_timezone) f.agencies) (list_all-In (is_sound_agency f) f.agencies s.agencies x p)).1

      by : (xs : List Agency) → same_zones xs → (r : Agency) → In r xs → option_map (λ a. a.agency_timezone) (slice_get xs 0) ≡ Some r.agency_timezone
      by [] h r i = elim i [ ]
      by (x ∷ xs) h r i = ap Some (h x r (inl refl) i)

  sound-agencies : zone_texts_differ a b ≡ false → list_all (is_sound_agency m) m.agencies ≡ true
  sound-agencies z = list_all-from (is_sound_agency m) m.agencies (λ r i.
      elim (either agency_id_of (agency_with na.agency) (agency_with nb.agency) a.agencies b.agencies r i) as (λ w. is_sound_agency m r ≡ true) [
        | inl x ↦ ap (is_sound_agency m) (sym x.2) ∙ fit-agency a sound_a na.agency x.0 x.1 (part-a near nearness a b sound_a sound_b few x.0 x.1) (zone-is a sound_a x.0 x.1)
        | inr x ↦ ap (is_sound_agency m) (sym x.2) ∙ fit-agency b sound_b nb.agency x.0 x.1 (part-b near nearness a b sound_a sound_b few x.0 x.1) (same ∙ zone-is b sound_b x.0 x.1)
      ])
    where
      same : zone_text a ≡ zone_text b
      same = exact-text (zone_text a) (zone_text b) (not-false _ z)

      all-zone : (r : Agency) → In r m.agencies → zone_text a ≡ Some r.agency_timezone
      all-zone r i = elim (either agency_id_of (agency_with na.agency) (agency_with nb.agency) a.agencies b.agencies r i) as (λ w. zone_text a ≡ Some r.agency_timezone) [
        | inl x ↦ zone-is a sound_a x.0 x.1 ∙ ap (λ v. Some v.agency_timezone) x.2
        | inr x ↦ same ∙ zone-is b sound_b x.0 x.1 ∙ ap (λ v. Some v.agency_timezone) x.2
      ]

      fit-agency : (f : Content) → IsSound f → (rename : Renaming) (x : Agency) → In x f.agencies → id_part near nearness a b sound_a sound_b few (agency_with rename x) ≡ true → zone_text a ≡ Some x.agency_timezone → is_sound_agency m (agency_with rename x) ≡ true
      fit-agency f s rename x i part zone =
          and_from _ _ (and_parts (is_clean (rename x.agency_id)) _ part).1
          (list_all-from (λ b. bytes_eq x.agency_timezone b.agency_timezone) m.agencies (λ r j. bytes_same _ _ (ap (λ o. unwrap_or o []) (sym zone ∙ all-zone r j))))

  pub merged-sound : zone_texts_differ a b ≡ false → IsSound m
  merged-sound z = record {
    cells = sound-cells;
    in_order = sound-order;
    has_agency = some_agency;
    agencies = sound-agencies z;
    stops = list_all-from (is_sound_stop m) m.stops (each-stop (λ r. is_sound_stop m r ≡ true)
        (λ x i. fit-stop m a na fa x (list_all-In (is_sound_stop a) a.stops sound_a.stops x i))
        (λ x i. fit-stop m b nb fb x (list_all-In (is_sound_stop b) b.stops sound_b.stops x i)));
    routes = list_all-from (is_sound_route m) m.routes (each-route (λ r. is_sound_route m r ≡ true)
        (λ x i. fit-route m a na fa x (list_all-In (is_sound_route a) a.routes sound_a.routes x i))
        (λ x i. fit-route m b nb fb x (list_all-In (is_sound_route b) b.routes sound_b.routes x i)));
    services = list_all-from is_sound_service m.services (each-service (λ r. is_sound_service r ≡ true)
        (list_all-In is_sound_service a.services sound_a.services)
        (list_all-In is_sound_service b.services sound_b.services));
    trips = list_all-from (is_sound_trip m) m.trips (each-trip (λ r. is_sound_trip m r ≡ true)
        (λ x i. fit-trip m a na fa x (list_all-In (is_sound_trip a) a.trips sound_a.trips x i))
        (λ x i. fit-trip m b nb fb x (list_all-In (is_sound_trip b) b.trips sound_b.trips x i)));
    transfers = list_all-from (is_sound_transfer m) m.transfers (each-transfer (λ r. is_sound_transfer m r ≡ true)
        (λ x i. fit-transfer m a na fa x (list_all-In (is_sound_transfer a) a.transfers sound_a.transfers x i))
        (λ x i. fit-transfer m b nb fb x (list_all-In (is_sound_transfer b) b.transfers sound_b.transfers x i)));
  }
