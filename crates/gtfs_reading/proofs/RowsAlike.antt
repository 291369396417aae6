-- The lists that were read of a dataset are its rows, their numbers read by the ids of the lists themselves.
use Rattle.std.proofs.Common.{◌≡◌, ℕ, ◌∷◌, [], List, length, map, true, refl, sym, ap, ◌∙◌, subst}
use Rattle.std.specs.Prelude.{◌&&◌, nat_lt, option_map}
use Rattle.std.specs.Cmp.Lexicographic.{nat_list_cmp_total}
use Rattle.std.specs.List.{list_all}
use Rattle.std.proofs.lemmas.List.{length-map}
use Rattle.std.proofs.lemmas.Simd.{map-map}
use Rattle.gtfs_field.specs.TextOrder.{text_cmp}
use Rattle.gtfs_table.specs.FieldOffsets.{parts}
use Rattle.gtfs_table.specs.Tables.{Dataset}
use Rattle.gtfs_table.specs.declared.file.File.TheVariants as file
use Rattle.gtfs_schema.specs.Columns.{id, optional, required}
use Rattle.gtfs_schema.specs.Problems.{Passes}
use Rattle.gtfs_schema.specs.steps.Ids.{FirstRows, ids_of as ids_of_column}
use Rattle.gtfs_rows.specs.ContentRead.{agency_in, content_of, route_in, service_row_in, services_named, stop_in, trip_in}
use Rattle.gtfs_rows.specs.RowsInMemory.{agency_of, frequency_of, is_number_within, service_of}
use Rattle.gtfs_reading.specs.declared.feed_rows.FeedRows.{FeedRows}
use Rattle.gtfs_reading.specs.CutStopTimes.{IsCutInto}
use Rattle.gtfs_reading.specs.FeedRows.{AreRowsOf, NumbersWithin}
use Rattle.gtfs_reading.specs.NamedTexts.{ids_of}
use Rattle.gtfs_rows.specs.NamedRows.{names_agency, names_parent, names_route_and_service, route_named, stop_named, trip_named, without_rows}
use Rattle.gtfs_reading.specs.ServiceIds.{service_ids}
use Rattle.gtfs_rows.specs.TransferEnds.{names_ends, transfer_named}
use Rattle.gtfs_reading.proofs.ByIds.{by_key_made}
use Rattle.gtfs_reading.proofs.IdTexts.{content_ids}

-- ids of rows are those of what they stand for
own_ids : {X Y : Type 0} (f : X → Y) (own : X → List ℕ) (key : Y → List ℕ) (xs : List X) (ys : List Y) (ids : List (List ℕ))
    → ((x : X) → key (f x) ≡ own x) → map f xs ≡ ys → map key ys ≡ ids → map own xs ≡ ids
own_ids f own key xs ys ids same are keys = alike xs ∙ ap (map key) are ∙ keys
  where
    alike : (xs : List _) → map own xs ≡ map key (map f xs)
    alike [] = refl
    alike (x ∷ xs) = λ i. sym (same x) i ∷ alike xs i

-- a cut by the ids of one column
pub same_cut : {X : Type 0} (i j : FirstRows) (starts : List ℕ) (xs : List X) → i ≡ j → IsCutInto (length (ids_of_column i)) starts xs → IsCutInto (length (ids_of_column j)) starts xs
same_cut i j starts xs same = subst (λ i. IsCutInto (length (ids_of_column i)) starts xs) same

-- what the functions of the lists promise
pub record AreLists (d : Dataset) (r : FeedRows) : Type 0 where
  pub agencies : map agency_of r.agencies ≡ (content_of d).agencies
  pub stops : map (stop_named (ids_of d file.Stops "stop_id")) r.stops ≡ (content_of d).stops
  pub parents : list_all (names_parent (ids_of d file.Stops "stop_id")) r.stops ≡ true
  pub routes : map (route_named (ids_of d file.Agency "agency_id")) r.routes ≡ (content_of d).routes
  pub agency_numbers : list_all (names_agency (ids_of d file.Agency "agency_id")) r.routes ≡ true
  pub services : map service_of r.services ≡ (content_of d).services
  pub trips : map (trip_named (ids_of d file.Routes "route_id") (service_ids d)) r.trips ≡ map without_rows (content_of d).trips
  pub trip_numbers : list_all (names_route_and_service (ids_of d file.Routes "route_id") (service_ids d)) r.trips ≡ true
  pub transfers : map (transfer_named (ids_of d file.Stops "stop_id") (ids_of d file.Routes "route_id") (ids_of d file.Trips "trip_id")) r.transfers ≡ (content_of d).transfers
  pub ends : list_all (names_ends (ids_of d file.Stops "stop_id") (ids_of d file.Routes "route_id") (ids_of d file.Trips "trip_id")) r.transfers ≡ true
  pub frequencies : map (map frequency_of) (parts r.frequency_starts r.frequencies) ≡ map (λ t. t.frequencies) (content_of d).trips
  pub cut : IsCutInto (length (ids_of d file.Trips "trip_id")) r.frequency_starts r.frequencies

module _ (d : Dataset) (passes : Passes d) (r : FeedRows) (are : AreLists d r) where
  agency_ids : map (λ a. a.agency_id) r.agencies ≡ ids_of d file.Agency "agency_id"
  agency_ids = own_ids agency_of (λ a. a.agency_id) (λ a. a.agency_id) r.agencies (content_of d).agencies _ (λ a. refl) are.agencies
      (content_ids d passes file.Agency "agency_id" (optional "agency_id" id) refl refl (λ a. a.agency_id) (agency_in d) (λ n. refl))

  stop_ids : map (λ s. s.stop_id) r.stops ≡ ids_of d file.Stops "stop_id"
  stop_ids = own_ids (stop_named (ids_of d file.Stops "stop_id")) (λ s. s.stop_id) (λ s. s.stop_id) r.stops (content_of d).stops _ (λ s. refl) are.stops
      (content_ids d passes file.Stops "stop_id" (required "stop_id" id) refl refl (λ s. s.stop_id) (stop_in d) (λ n. refl))

  route_ids : map (λ x. x.route_id) r.routes ≡ ids_of d file.Routes "route_id"
  route_ids = own_ids (route_named (ids_of d file.Agency "agency_id")) (λ x. x.route_id) (λ x. x.route_id) r.routes (content_of d).routes _ (λ x. refl) are.routes
      (content_ids d passes file.Routes "route_id" (required "route_id" id) refl refl (λ x. x.route_id) (route_in d) (λ n. refl))

  named_services : map (λ s. s.service_id) (content_of d).services ≡ service_ids d
  named_services =
      ap (map (λ s. s.service_id)) (by_key_made text_cmp (service_row_in d) nat_list_cmp_total (λ s. s.service_id) (λ t. t) (services_named d) (λ k e h. refl))
      ∙ back (service_ids d)
    where
      back : (ts : List (List ℕ)) → map (λ s. s.service_id) (map (service_row_in d) ts) ≡ ts
      back [] = refl
      back (t ∷ ts) = ap (λ us. t ∷ us) (back ts)

  own_services : map (λ s. s.service_id) r.services ≡ service_ids d
  own_services = own_ids service_of (λ s. s.service_id) (λ s. s.service_id) r.services (content_of d).services (service_ids d) (λ s. refl) are.services named_services

  trip_ids : map (λ t. t.trip_id) r.trips ≡ ids_of d file.Trips "trip_id"
  trip_ids = own_ids (trip_named (ids_of d file.Routes "route_id") (service_ids d)) (λ t. t.trip_id) (λ t. t.trip_id) r.trips (map without_rows (content_of d).trips) _ (λ t. refl) are.trips
      (map-map (λ t. t.trip_id) without_rows (content_of d).trips
      ∙ content_ids d passes file.Trips "trip_id" (required "trip_id" id) refl refl (λ t. t.trip_id) (trip_in d) (λ n. refl))

  -- as many ids as rows
  stop_count : length (ids_of d file.Stops "stop_id") ≡ length r.stops
  stop_count = sym (ap length stop_ids) ∙ length-map r.stops (λ s. s.stop_id)

  agency_count : length (ids_of d file.Agency "agency_id") ≡ length r.agencies
  agency_count = sym (ap length agency_ids) ∙ length-map r.agencies (λ a. a.agency_id)

  route_count : length (ids_of d file.Routes "route_id") ≡ length r.routes
  route_count = sym (ap length route_ids) ∙ length-map r.routes (λ x. x.route_id)

  service_count : length (service_ids d) ≡ length r.services
  service_count = sym (ap length own_services) ∙ length-map r.services (λ s. s.service_id)

  trip_count : length (ids_of d file.Trips "trip_id") ≡ length r.trips
  trip_count = sym (ap length trip_ids) ∙ length-map r.trips (λ t. t.trip_id)

  numbers_within : NumbersWithin r
  numbers_within = record {
    stops = sym (ap (λ k. list_all (λ s. is_number_within k (option_map (λ n. n.0) s.parent_station)) r.stops) stop_count) ∙ are.parents;
    routes = sym (ap (λ k. list_all (λ x. nat_lt x.agency_id.0 k) r.routes) agency_count) ∙ are.agency_numbers;
    trips = sym (λ i. list_all (λ t. nat_lt t.route_id.0 (route_count i) && nat_lt t.service_id.0 (service_count i)) r.trips) ∙ are.trip_numbers;
    transfers = sym (λ i. list_all (λ t. is_number_within (stop_count i) (option_map (λ n. n.0) t.from_stop_id) && is_number_within (stop_count i) (option_map (λ n. n.0) t.to_stop_id)
        && is_number_within (route_count i) (option_map (λ n. n.0) t.from_route_id) && is_number_within (route_count i) (option_map (λ n. n.0) t.to_route_id)
        && is_number_within (trip_count i) (option_map (λ n. n.0) t.from_trip_id) && is_number_within (trip_count i) (option_map (λ n. n.0) t.to_trip_id)) r.transfers) ∙ are.ends;
  }

  pub rows_alike : AreRowsOf d r
  rows_alike = record {
    agencies = are.agencies;
    stops = ap (λ ids. map (stop_named ids) r.stops) stop_ids ∙ are.stops;
    routes = ap (λ ids. map (route_named ids) r.routes) agency_ids ∙ are.routes;
    services = are.services;
    trips = (λ i. map (trip_named (route_ids i) (own_services i)) r.trips) ∙ are.trips;
    transfers = (λ i. map (transfer_named (stop_ids i) (route_ids i) (trip_ids i)) r.transfers) ∙ are.transfers;
    frequencies = are.frequencies;
    cut = subst (λ k. IsCutInto k r.frequency_starts r.frequencies) trip_count are.cut;
    within = numbers_within;
  }
