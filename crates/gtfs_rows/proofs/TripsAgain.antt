-- The trips of a written content, read again, are its trips; so are its stops.
use Rattle.std.proofs.Common.{◌≡◌, ◌+◌, ◌<◌, ℕ, List, length, get_or, map, Some, refl, ap, ◌∙◌}
use Rattle.std.specs.Prelude.{bytes_eq, filter}
use Rattle.std.specs.FinMap as table
use Rattle.std.specs.Cmp.{IsTotalOrder, nat_cmp_total}
use Rattle.std.specs.Cmp.Lexicographic.{nat_list_cmp_total}
use Rattle.std.specs.Ordering.{nat_cmp, on}
use Rattle.std.specs.declared.cmp.Ordering.{Ordering}
use Rattle.std.proofs.lemmas.List.{map-id}
use Rattle.gtfs_field.specs.TextOrder.{text_cmp}
use Rattle.gtfs_table.specs.declared.file.File.TheVariants as file
use Rattle.gtfs_table.specs.Rows.{rows}
use Rattle.gtfs_schema.specs.RowConditions.{word_in}
use Rattle.gtfs_schema.specs.FieldValues.{is_word}
use Rattle.gtfs_rows.specs.Content.{Content}
use Rattle.gtfs_rows.specs.TransferOrder.{Ascends, by_key}
use Rattle.gtfs_rows.specs.ContentRead.{stop_in, stop_row_in, frequency_in, trip_in, rows_of, text_at}
use Rattle.gtfs_rows.specs.RowCells.{stop_cells, trip_cells, stop_time_cells, frequency_cells, stop_times_of, frequencies_of}
use Rattle.gtfs_rows.specs.Rows.{Stop, StopRow, Frequency, Trip}
use Rattle.gtfs_rows.specs.SoundContent.{IsSound}
use Rattle.gtfs_rows.specs.WrittenContent.{written_beside}
use Rattle.gtfs_rows.proofs.ByKey.{by_key_is}
use Rattle.gtfs_rows.proofs.Held.{text_antisymmetric, held_at}
use Rattle.gtfs_rows.proofs.RangeLists.{map_range, map_filter_range}
use Rattle.gtfs_rows.proofs.SameElements.{SameElements}
use Rattle.gtfs_rows.proofs.Views.{rows_are, word_at, amount_at, number_in_at, given_at, choice_at}

pub same_itself : {X : Type 0} (xs : List X) → SameElements xs xs
same_itself xs = record { there = λ x at. at; back = λ x at. at }

-- ascending rows stand by their key
pub by_key_again : {K X : Type 0} (order : K → K → Ordering) → IsTotalOrder order → table.IsAntisymmetric order → (key : X → K) (xs : List X) → Ascends (on key order) xs → by_key order key xs ≡ xs
by_key_again order o anti key xs up = by_key_is order o key anti xs xs (same_itself xs) up

module _ (others : List (List ℕ)) (c : Content) (sound : IsSound c) where
  -- ---- stops

  stop_again : (k : ℕ) (e : Stop) → k < length c.stops → stop_in (written_beside others c) (k + 2) ≡ get_or c.stops k e
  stop_again k e within =
      let s = get_or c.stops k e in
      λ i. record {
        stop_id = given_at others c file.Stops c.stops stop_cells refl (sound.cells file.Stops) k e within "stop_id" refl s.stop_id refl i;
        stop_code = word_at others c file.Stops c.stops stop_cells refl (sound.cells file.Stops) k e within "stop_code" refl s.stop_code refl i;
        stop_name = word_at others c file.Stops c.stops stop_cells refl (sound.cells file.Stops) k e within "stop_name" refl s.stop_name refl i;
        tts_stop_name = word_at others c file.Stops c.stops stop_cells refl (sound.cells file.Stops) k e within "tts_stop_name" refl s.tts_stop_name refl i;
        stop_desc = word_at others c file.Stops c.stops stop_cells refl (sound.cells file.Stops) k e within "stop_desc" refl s.stop_desc refl i;
        stop_lat = amount_at others c file.Stops c.stops stop_cells refl (sound.cells file.Stops) k e within "stop_lat" refl s.stop_lat refl i;
        stop_lon = amount_at others c file.Stops c.stops stop_cells refl (sound.cells file.Stops) k e within "stop_lon" refl s.stop_lon refl i;
        stop_url = word_at others c file.Stops c.stops stop_cells refl (sound.cells file.Stops) k e within "stop_url" refl s.stop_url refl i;
        location_type = choice_at others c file.Stops c.stops stop_cells refl (sound.cells file.Stops) k e within "location_type" refl s.location_type refl i;
        parent_station = word_at others c file.Stops c.stops stop_cells refl (sound.cells file.Stops) k e within "parent_station" refl s.parent_station refl i;
        wheelchair_boarding = choice_at others c file.Stops c.stops stop_cells refl (sound.cells file.Stops) k e within "wheelchair_boarding" refl s.wheelchair_boarding refl i;
        platform_code = word_at others c file.Stops c.stops stop_cells refl (sound.cells file.Stops) k e within "platform_code" refl s.platform_code refl i;
      }

  pub stops_again : by_key text_cmp (λ s. s.stop_id) (map (stop_in (written_beside others c)) (rows (written_beside others c) file.Stops)) ≡ c.stops
  stops_again =
      ap (λ ns. by_key text_cmp (λ s. s.stop_id) (map (stop_in (written_beside others c)) ns)) (rows_are others c file.Stops c.stops stop_cells refl (sound.cells file.Stops))
      ∙ ap (by_key text_cmp (λ s. s.stop_id)) (map_range (stop_in (written_beside others c)) (λ s. s) 2 c.stops (record { at = stop_again }) ∙ map-id c.stops)
      ∙ by_key_again text_cmp nat_list_cmp_total text_antisymmetric (λ s. s.stop_id) c.stops sound.in_order.stops

  -- ---- stop rows

  stop_row_again : (k : ℕ) (e : List ℕ × StopRow) → k < length (stop_times_of c) → stop_row_in (written_beside others c) (k + 2) ≡ (get_or (stop_times_of c) k e).1
  stop_row_again k e within =
      let r = (get_or (stop_times_of c) k e).1 in
      λ i. record {
        arrival_time = number_in_at others c file.StopTimes (stop_times_of c) stop_time_cells refl (sound.cells file.StopTimes) k e within "arrival_time" refl r.arrival_time refl i;
        departure_time = number_in_at others c file.StopTimes (stop_times_of c) stop_time_cells refl (sound.cells file.StopTimes) k e within "departure_time" refl r.departure_time refl i;
        stop_id = given_at others c file.StopTimes (stop_times_of c) stop_time_cells refl (sound.cells file.StopTimes) k e within "stop_id" refl r.stop_id refl i;
        stop_sequence = choice_at others c file.StopTimes (stop_times_of c) stop_time_cells refl (sound.cells file.StopTimes) k e within "stop_sequence" refl r.stop_sequence refl i;
        stop_headsign = word_at others c file.StopTimes (stop_times_of c) stop_time_cells refl (sound.cells file.StopTimes) k e within "stop_headsign" refl r.stop_headsign refl i;
        pickup_type = choice_at others c file.StopTimes (stop_times_of c) stop_time_cells refl (sound.cells file.StopTimes) k e within "pickup_type" refl r.pickup_type refl i;
        drop_off_type = choice_at others c file.StopTimes (stop_times_of c) stop_time_cells refl (sound.cells file.StopTimes) k e within "drop_off_type" refl r.drop_off_type refl i;
        timepoint = number_in_at others c file.StopTimes (stop_times_of c) stop_time_cells refl (sound.cells file.StopTimes) k e within "timepoint" refl r.timepoint refl i;
      }

  -- a row names a trip just where it is one of its own
  stop_row_named : (q : List ℕ) (k : ℕ) (e : List ℕ × StopRow) → k < length (stop_times_of c)
      → is_word (word_in (written_beside others c) file.StopTimes (k + 2) "trip_id") q ≡ bytes_eq q (get_or (stop_times_of c) k e).0
  stop_row_named q k e within =
      ap (λ o. is_word o q) (word_at others c file.StopTimes (stop_times_of c) stop_time_cells refl (sound.cells file.StopTimes) k e within "trip_id" refl (Some (get_or (stop_times_of c) k e).0) refl)

  stop_rows_of : (k : ℕ) (e : Trip) → k < length c.trips
      → map (stop_row_in (written_beside others c)) (rows_of (written_beside others c) file.StopTimes (get_or c.trips k e).trip_id) ≡ (get_or c.trips k e).stop_rows
  stop_rows_of k e within =
      let q = (get_or c.trips k e).trip_id in
      ap (λ ns. map (stop_row_in (written_beside others c)) (filter (λ m. is_word (word_in (written_beside others c) file.StopTimes m "trip_id") q) ns)) (rows_are others c file.StopTimes (stop_times_of c) stop_time_cells refl (sound.cells file.StopTimes))
      ∙ map_filter_range (λ m. is_word (word_in (written_beside others c) file.StopTimes m "trip_id") q) (λ p. bytes_eq q p.0) (stop_row_in (written_beside others c)) (λ p. p.1) 2 (stop_times_of c)
      (record { at = stop_row_named q }) (record { at = stop_row_again })
      ∙ held_at (λ t. t.trip_id) (λ t. t.stop_rows) c.trips k e within sound.in_order.trips

  -- ---- frequencies

  frequency_again : (k : ℕ) (e : List ℕ × Frequency) → k < length (frequencies_of c) → frequency_in (written_beside others c) (k + 2) ≡ (get_or (frequencies_of c) k e).1
  frequency_again k e within =
      let r = (get_or (frequencies_of c) k e).1 in
      λ i. record {
        start_time = choice_at others c file.Frequencies (frequencies_of c) frequency_cells refl (sound.cells file.Frequencies) k e within "start_time" refl r.start_time refl i;
        end_time = choice_at others c file.Frequencies (frequencies_of c) frequency_cells refl (sound.cells file.Frequencies) k e within "end_time" refl r.end_time refl i;
        headway_secs = choice_at others c file.Frequencies (frequencies_of c) frequency_cells refl (sound.cells file.Frequencies) k e within "headway_secs" refl r.headway_secs refl i;
        exact_times = choice_at others c file.Frequencies (frequencies_of c) frequency_cells refl (sound.cells file.Frequencies) k e within "exact_times" refl r.exact_times refl i;
      }

  frequency_named : (q : List ℕ) (k : ℕ) (e : List ℕ × Frequency) → k < length (frequencies_of c)
      → is_word (word_in (written_beside others c) file.Frequencies (k + 2) "trip_id") q ≡ bytes_eq q (get_or (frequencies_of c) k e).0
  frequency_named q k e within =
      ap (λ o. is_word o q) (word_at others c file.Frequencies (frequencies_of c) frequency_cells refl (sound.cells file.Frequencies) k e within "trip_id" refl (Some (get_or (frequencies_of c) k e).0) refl)

  frequencies_at : (k : ℕ) (e : Trip) → k < length c.trips
      → map (frequency_in (written_beside others c)) (rows_of (written_beside others c) file.Frequencies (get_or c.trips k e).trip_id) ≡ (get_or c.trips k e).frequencies
  frequencies_at k e within =
      let q = (get_or c.trips k e).trip_id in
      ap (λ ns. map (frequency_in (written_beside others c)) (filter (λ m. is_word (word_in (written_beside others c) file.Frequencies m "trip_id") q) ns)) (rows_are others c file.Frequencies (frequencies_of c) frequency_cells refl (sound.cells file.Frequencies))
      ∙ map_filter_range (λ m. is_word (word_in (written_beside others c) file.Frequencies m "trip_id") q) (λ p. bytes_eq q p.0) (frequency_in (written_beside others c)) (λ p. p.1) 2 (frequencies_of c)
      (record { at = frequency_named q }) (record { at = frequency_again })
      ∙ held_at (λ t. t.trip_id) (λ t. t.frequencies) c.trips k e within sound.in_order.trips

  -- ---- trips

  trip_again : (k : ℕ) (e : Trip) → k < length c.trips → trip_in (written_beside others c) (k + 2) ≡ get_or c.trips k e
  trip_again k e within =
      let t = get_or c.trips k e in
      let named : text_at (written_beside others c) file.Trips (k + 2) "trip_id" ≡ t.trip_id = given_at others c file.Trips c.trips trip_cells refl (sound.cells file.Trips) k e within "trip_id" refl t.trip_id refl in
      let stops : by_key nat_cmp (λ r. r.stop_sequence) (map (stop_row_in (written_beside others c)) (rows_of (written_beside others c) file.StopTimes (text_at (written_beside others c) file.Trips (k + 2) "trip_id"))) ≡ t.stop_rows =
      ap (λ q. by_key nat_cmp (λ r. r.stop_sequence) (map (stop_row_in (written_beside others c)) (rows_of (written_beside others c) file.StopTimes q))) named
      ∙ ap (by_key nat_cmp (λ r. r.stop_sequence)) (stop_rows_of k e within)
      ∙ by_key_again nat_cmp nat_cmp_total table.nat_cmp-IsAntisymmetric (λ r. r.stop_sequence) t.stop_rows (sound.in_order.stop_rows k e within) in
      let periods : by_key nat_cmp (λ r. r.start_time) (map (frequency_in (written_beside others c)) (rows_of (written_beside others c) file.Frequencies (text_at (written_beside others c) file.Trips (k + 2) "trip_id"))) ≡ t.frequencies =
      ap (λ q. by_key nat_cmp (λ r. r.start_time) (map (frequency_in (written_beside others c)) (rows_of (written_beside others c) file.Frequencies q))) named
      ∙ ap (by_key nat_cmp (λ r. r.start_time)) (frequencies_at k e within)
      ∙ by_key_again nat_cmp nat_cmp_total table.nat_cmp-IsAntisymmetric (λ r. r.start_time) t.frequencies (sound.in_order.frequencies k e within) in
      λ i. record {
        route_id = given_at others c file.Trips c.trips trip_cells refl (sound.cells file.Trips) k e within "route_id" refl t.route_id refl i;
        service_id = given_at others c file.Trips c.trips trip_cells refl (sound.cells file.Trips) k e within "service_id" refl t.service_id refl i;
        trip_id = named i;
        trip_headsign = word_at others c file.Trips c.trips trip_cells refl (sound.cells file.Trips) k e within "trip_headsign" refl t.trip_headsign refl i;
        trip_short_name = word_at others c file.Trips c.trips trip_cells refl (sound.cells file.Trips) k e within "trip_short_name" refl t.trip_short_name refl i;
        direction_id = number_in_at others c file.Trips c.trips trip_cells refl (sound.cells file.Trips) k e within "direction_id" refl t.direction_id refl i;
        wheelchair_accessible = choice_at others c file.Trips c.trips trip_cells refl (sound.cells file.Trips) k e within "wheelchair_accessible" refl t.wheelchair_accessible refl i;
        bikes_allowed = choice_at others c file.Trips c.trips trip_cells refl (sound.cells file.Trips) k e within "bikes_allowed" refl t.bikes_allowed refl i;
        stop_rows = stops i;
        frequencies = periods i;
      }

  pub trips_again : by_key text_cmp (λ t. t.trip_id) (map (trip_in (written_beside others c)) (rows (written_beside others c) file.Trips)) ≡ c.trips
  trips_again =
      ap (λ ns. by_key text_cmp (λ t. t.trip_id) (map (trip_in (written_beside others c)) ns)) (rows_are others c file.Trips c.trips trip_cells refl (sound.cells file.Trips))
      ∙ ap (by_key text_cmp (λ t. t.trip_id)) (map_range (trip_in (written_beside others c)) (λ t. t) 2 c.trips (record { at = trip_again }) ∙ map-id c.trips)
      ∙ by_key_again text_cmp nat_list_cmp_total text_antisymmetric (λ t. t.trip_id) c.trips sound.in_order.trips
