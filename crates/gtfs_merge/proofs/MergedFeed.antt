-- All lists of a merged feed stand for the merged content, and make a feed.
use Rattle.std.proofs.Common.{◌≡◌, ◌∙◌, List, [], ◌∷◌, true, false, length, map, refl, sym, ap, subst}
use Rattle.std.specs.Prelude.{◌&&◌, nat_lt, option_map}
use Rattle.std.specs.List.{list_all}
use Rattle.std.specs.declared.cmp.Ordering.TheVariants.{Less}
use Rattle.std.proofs.lemmas.List.{length-map}
use Rattle.gtfs_field.proofs.ListFacts.{first_is as first-is, map_alike as read-alike, rest_is as rest-is}
use Rattle.gtfs_rows.specs.NamedRows.{route_named, stop_named, trip_named, without_rows}
use Rattle.gtfs_rows.specs.TransferEnds.{transfer_named}
use Rattle.gtfs_rows.specs.TransferOrder.{Ascends}
use Rattle.gtfs_rows.specs.Rows.{Trip}
use Rattle.gtfs_rows.specs.SoundContent.{IsSound}
use Rattle.gtfs_rows.specs.RowsInMemory.{IsCut, IsSoundParts, agency_ids, agency_of, content_of_parts, frequency_of, is_number_within, route_ids, service_ids, service_of, stop_ids, stop_row_of, trip_ids, trip_of, trips_of}
use Rattle.gtfs_rows.specs.declared.frequency.Frequency.{Frequency as FrequencyRow}
use Rattle.gtfs_rows.specs.declared.parts.Parts.{Parts}
use Rattle.gtfs_stop_times.specs.StopTimesByTrip.{StopTimesOfTrips}
use Rattle.gtfs_stop_times.specs.declared.stop_row.StopRow.{StopRow as StopTime}
use Rattle.gtfs_rows.specs.declared.transfer.Transfer.{Transfer as TransferRow}
use Rattle.gtfs_rows.specs.declared.trip.Trip.{Trip as TripRow}
use Rattle.gtfs_rows.proofs.SameElements.{pairs-map}
use Rattle.gtfs_rows.specs.NamedRows.{has_numbers_below, stop_row_named}
use Rattle.gtfs_field.specs.TextOrder.{text_cmp}
use Rattle.gtfs_table.specs.FieldOffsets.{parts}
use Rattle.gtfs_merge.specs.Headsigns.{AreHeadsigns, HeadsignTable}
use Rattle.gtfs_merge.specs.IdRows.{AreIdRows}
use Rattle.gtfs_merge.specs.KindEntries.{AllEntries, AreMergedKinds}
use Rattle.gtfs_merge.specs.MergedDepartures.{AreFew}
use Rattle.gtfs_merge.specs.Merged.{zone_texts_differ}
use Rattle.gtfs_merge.specs.MergedLists.{parts_with}
use Rattle.gtfs_merge.specs.MergedSides.{nearness_of, merged_parts, merged_ids}
use Rattle.gtfs_merge.specs.Transfers.{merged_transfers}
use Rattle.gtfs_merge.specs.TripRows.{StandInTurn, frequencies_from, stop_rows_from}
use Rattle.gtfs_merge.specs.declared.rows.with_ids.IdRows.{IdRows}
use Rattle.gtfs_merge.specs.declared.kind.Kind.{Kind}
use Rattle.gtfs_merge.specs.declared.kind.Kind.TheVariants as kind
use Rattle.gtfs_merge.specs.declared.rows.frequencies.Frequencies.{Frequencies}
use Rattle.gtfs_merge.specs.declared.sides.Sides.{Sides}
use Rattle.gtfs_merge.proofs.InTurn.{starts-in_turn}
use Rattle.gtfs_merge.proofs.MergedSound.{merged-sound}
use Rattle.gtfs_merge.proofs.MergedStopTimes.{merged-periods, merged-rows, merged-within}
use Rattle.gtfs_merge.proofs.MergedTransfers.{transfers-named, transfers-within}
use Rattle.gtfs_merge.proofs.Stops.{is-nearness}

-- ---- trips

module _ (p : Parts) where
  abbrev as_named : TripRow → Trip
  as_named = trip_named (route_ids p) (service_ids p)

  -- a trip is its own row, its stop times and its frequencies
  trip-made : (t : TripRow) (r : List StopTime) (f : List FrequencyRow) (u : Trip) → as_named t ≡ without_rows u → map (stop_row_of p) r ≡ u.stop_rows
      → map frequency_of f ≡ u.frequencies → trip_of p t r f ≡ u
  trip-made t r f u own rows periods = λ i. record {
    route_id = (own i).route_id;
    service_id = (own i).service_id;
    trip_id = (own i).trip_id;
    trip_headsign = (own i).trip_headsign;
    trip_short_name = (own i).trip_short_name;
    direction_id = (own i).direction_id;
    wheelchair_accessible = (own i).wheelchair_accessible;
    bikes_allowed = (own i).bikes_allowed;
    stop_rows = rows i;
    frequencies = periods i;
  }

  trips-made : (ts : List TripRow) (rs : List (List StopTime)) (fs : List (List FrequencyRow)) (us : List Trip)
      → map as_named ts ≡ map without_rows us → map (map (stop_row_of p)) rs ≡ map (λ u. u.stop_rows) us → map (map frequency_of) fs ≡ map (λ u. u.frequencies) us
      → trips_of p ts rs fs ≡ us
  trips-made [] rs fs [] own rows periods = refl
  trips-made [] rs fs (u ∷ us) own rows periods = cc own
  trips-made (t ∷ ts) rs fs [] own rows periods = cc own
  trips-made (t ∷ ts) [] fs (u ∷ us) own rows periods = cc rows
  trips-made (t ∷ ts) (r ∷ rs) [] (u ∷ us) own rows periods = cc periods
  trips-made (t ∷ ts) (r ∷ rs) (f ∷ fs) (u ∷ us) own rows periods = λ i.
      trip-made t r f u (first-is _ _ _ _ own) (first-is _ _ _ _ rows) (first-is _ _ _ _ periods) i
      ∷ trips-made ts rs fs us (rest-is _ _ _ _ own) (rest-is _ _ _ _ rows) (rest-is _ _ _ _ periods) i

-- ---- the merged feed

module _ (sides : Sides) (sound_a : IsSoundParts sides.a.now) (sound_b : IsSoundParts sides.b.now) (few : (c : Kind) → AreFew c (content_of_parts sides.a.now) (content_of_parts sides.b.now))
    (zone : zone_texts_differ (content_of_parts sides.a.now) (content_of_parts sides.b.now) ≡ false) (k : AllEntries) (are : AreMergedKinds sides k) (hs : HeadsignTable) (are_h : AreHeadsigns sides hs)
    (r : IdRows) (are_r : AreIdRows sides r) (st : StopTimesOfTrips) (are_st : StandInTurn (map (stop_rows_from sides k.stops.numbers hs) k.trips.rows) st.starts st.rows)
    (fr : Frequencies) (are_fr : StandInTurn (map (frequencies_from sides) k.trips.rows) fr.starts.items fr.rows.items)
    (ts : List TransferRow) (are_ts : ts ≡ merged_transfers sides k) where
  abbrev m : Parts
  m = parts_with r ts st fr hs.texts

  content-sound : IsSound (merged_parts sides)
  content-sound = merged-sound (nearness_of sides) (is-nearness sides.near) (content_of_parts sides.a.now) (content_of_parts sides.b.now) sound_a.content sound_b.content few zone

  -- ---- ids

  agencies-are : agency_ids m ≡ merged_ids kind.Agency sides
  agencies-are = read-alike agency_of (λ a. a.agency_id) (λ a. a.agency_id) (λ a. refl) r.agencies ∙ ap (map (λ a. a.agency_id)) are_r.agencies

  stops-are : stop_ids m ≡ merged_ids kind.Stop sides
  stops-are = read-alike (stop_named (merged_ids kind.Stop sides)) (λ s. s.stop_id) (λ s. s.stop_id) (λ s. refl) r.stops ∙ ap (map (λ s. s.stop_id)) are_r.stops

  routes-are : route_ids m ≡ merged_ids kind.Route sides
  routes-are = read-alike (route_named (merged_ids kind.Agency sides)) (λ x. x.route_id) (λ x. x.route_id) (λ x. refl) r.routes ∙ ap (map (λ x. x.route_id)) are_r.routes

  services-are : service_ids m ≡ merged_ids kind.Service sides
  services-are = read-alike service_of (λ s. s.service_id) (λ s. s.service_id) (λ s. refl) r.services ∙ ap (map (λ s. s.service_id)) are_r.services

  trips-are : trip_ids m ≡ merged_ids kind.Trip sides
  trips-are =
      read-alike (trip_named (merged_ids kind.Route sides) (merged_ids kind.Service sides)) (λ t. t.trip_id) (λ t. t.trip_id) (λ t. refl) r.trips
      ∙ ap (map (λ t. t.trip_id)) are_r.trips ∙ sym (read-alike without_rows (λ t. t.trip_id) (λ t. t.trip_id) (λ t. refl) (merged_parts sides).trips)

  -- ---- as many rows as ids

  agency-count : length (merged_ids kind.Agency sides) ≡ length r.agencies
  agency-count = sym (ap length agencies-are) ∙ length-map r.agencies (λ a. a.agency_id)

  stop-count : length (merged_ids kind.Stop sides) ≡ length r.stops
  stop-count = sym (ap length stops-are) ∙ length-map r.stops (λ s. s.stop_id)

  route-count : length (merged_ids kind.Route sides) ≡ length r.routes
  route-count = sym (ap length routes-are) ∙ length-map r.routes (λ x. x.route_id)

  service-count : length (merged_ids kind.Service sides) ≡ length r.services
  service-count = sym (ap length services-are) ∙ length-map r.services (λ s. s.service_id)

  trip-count : length (merged_ids kind.Trip sides) ≡ length r.trips
  trip-count = sym (ap length trips-are) ∙ length-map r.trips (λ t. t.trip_id)

  -- ---- trips

  trips-own : map (as_named m) r.trips ≡ map without_rows (merged_parts sides).trips
  trips-own = (λ i. map (trip_named (routes-are i) (services-are i)) r.trips) ∙ are_r.trips

  trips-rows : map (map (stop_row_of m)) (parts m.stop_times.starts m.stop_times.rows) ≡ map (λ u. u.stop_rows) (merged_parts sides).trips
  trips-rows = (λ i. map (map (stop_row_named (stops-are i) hs.texts)) (are_st.stretches i)) ∙ merged-rows sides sound_a sound_b k are hs are_h

  trips-periods : map (map frequency_of) (parts m.frequency_starts m.frequencies) ≡ map (λ u. u.frequencies) (merged_parts sides).trips
  trips-periods = ap (map (map frequency_of)) are_fr.stretches ∙ merged-periods sides sound_a sound_b k are hs are_h

  -- ---- transfers

  stops-up : Ascends text_cmp (merged_ids kind.Stop sides)
  stops-up = pairs-map (λ s. s.stop_id) (λ s t. text_cmp s t ≡ Less) (merged_parts sides).stops content-sound.in_order.stops

  routes-up : Ascends text_cmp (merged_ids kind.Route sides)
  routes-up = pairs-map (λ s. s.route_id) (λ s t. text_cmp s t ≡ Less) (merged_parts sides).routes content-sound.in_order.routes

  trips-up : Ascends text_cmp (merged_ids kind.Trip sides)
  trips-up = pairs-map (λ s. s.trip_id) (λ s t. text_cmp s t ≡ Less) (merged_parts sides).trips content-sound.in_order.trips

  pub content-is : content_of_parts m ≡ merged_parts sides
  content-is = λ i. record {
    agencies = are_r.agencies i;
    stops = ((λ j. map (stop_named (stops-are j)) r.stops) ∙ are_r.stops) i;
    routes = ((λ j. map (route_named (agencies-are j)) r.routes) ∙ are_r.routes) i;
    services = are_r.services i;
    trips = trips-made m r.trips (parts m.stop_times.starts m.stop_times.rows) (parts m.frequency_starts m.frequencies) (merged_parts sides).trips trips-own trips-rows trips-periods i;
    transfers = ((λ j. map (transfer_named (stops-are j) (routes-are j) (trips-are j)) (are_ts j)) ∙ transfers-named sides sound_a sound_b k are stops-up routes-up trips-up) i;
  }

  -- ---- a feed

  entry-count : length k.trips.rows ≡ length r.trips
  entry-count = sym (length-map k.trips.rows (λ e. e.id)) ∙ ap length (are kind.Trip).rows.ids ∙ trip-count

  row-cut : IsCut m st.starts st.rows
  row-cut = (starts-in_turn _ _ _ are_st ∙ length-map k.trips.rows (stop_rows_from sides k.stops.numbers hs) ∙ entry-count, are_st.rising, are_st.from_first)

  period-cut : IsCut m fr.starts.items fr.rows.items
  period-cut = (starts-in_turn _ _ _ are_fr ∙ length-map k.trips.rows (frequencies_from sides) ∙ entry-count, are_fr.rising, are_fr.from_first)

  pub make-a-feed : IsSoundParts m
  make-a-feed = record {
    names_rows = record {
      stops = subst (λ n. list_all (λ s. is_number_within n (option_map (λ x. x.0) s.parent_station)) r.stops ≡ true) stop-count are_r.parents;
      routes = subst (λ n. list_all (λ x. nat_lt x.agency_id.0 n) r.routes ≡ true) agency-count are_r.route_agencies;
      trips = subst (λ n. list_all (λ t. nat_lt t.route_id.0 n && nat_lt t.service_id.0 (length r.services)) r.trips ≡ true) route-count
          (subst (λ n. list_all (λ t. nat_lt t.route_id.0 (length (merged_ids kind.Route sides)) && nat_lt t.service_id.0 n) r.trips ≡ true) service-count are_r.trip_references);
      stop_rows = (λ i. list_all (has_numbers_below (sym stop-count i) (length hs.texts)) (are_st.whole i)) ∙ merged-within sides sound_a sound_b k are hs are_h;
      transfers = (λ i. list_all (λ t. is_number_within (sym stop-count i) (option_map (λ n. n.0) t.from_stop_id) && is_number_within (sym stop-count i) (option_map (λ n. n.0) t.to_stop_id)
          && is_number_within (sym route-count i) (option_map (λ n. n.0) t.from_route_id) && is_number_within (sym route-count i) (option_map (λ n. n.0) t.to_route_id)
          && is_number_within (sym trip-count i) (option_map (λ n. n.0) t.from_trip_id) && is_number_within (sym trip-count i) (option_map (λ n. n.0) t.to_trip_id)) (are_ts i))
          ∙ transfers-within sides sound_a sound_b k are;
    };
    stop_rows = row-cut;
    frequencies = period-cut;
    content = subst IsSound (sym content-is) content-sound;
  }
