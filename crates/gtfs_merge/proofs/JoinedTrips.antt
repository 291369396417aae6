-- Trips that are joined, with their stop times and frequencies.
use Rattle.std.proofs.Common.{◌≡◌, ◌<◌, ◌+◌, ◌^◌, ℕ, zero, suc, Bool, List, [], ◌∷◌, Some, None, Option, sym, ap, ◌∙◌, inl, inr, length, map, get_or, bytes_eq, nat_eq, option_map, arith}
use Rattle.std.specs.Prelude.{if◌then◌else◌}
use Rattle.std.specs.List.{slice_get, position}
use Rattle.std.specs.Option.{option_eq}
use Rattle.std.proofs.lemmas.List.{length-map}
use Rattle.std.proofs.lemmas.List.Quantifiers.{position-Some}
use Rattle.std.proofs.lemmas.Option.{get_or_from_slice_get, slice_get-get_or}
use Rattle.gtfs_field.proofs.ListFacts.{some_of}
use Rattle.gtfs_rows.specs.Content.{Content}
use Rattle.gtfs_rows.specs.Rows.{Trip}
use Rattle.gtfs_rows.specs.declared.frequency.Frequency.{Frequency}
use Rattle.gtfs_rows.specs.declared.parts.Parts.{Parts}
use Rattle.gtfs_stop_times.specs.declared.stop_row.StopRow.{StopRow}
use Rattle.gtfs_rows.specs.declared.trip.Trip.{Trip as TripRow}
use Rattle.gtfs_rows.specs.RowsInMemory.{IsSoundParts, content_of_parts, text_of_number, route_ids, service_ids, trip_ids, trip_of}
use Rattle.gtfs_rows.specs.Trips.{stop_rows_by_trip, frequencies_by_trip}
use Rattle.gtfs_rows.proofs.SoundOrder.{in_order}
use Rattle.gtfs_rows.proofs.TripsAt.{content_trip}
use Rattle.gtfs_rows.proofs.Members.{In}
use Rattle.gtfs_merge.specs.JoinedNumbers.{joined_number, joined_numbers}
use Rattle.gtfs_merge.specs.Renaming.{Renaming, ids, kept_as_is, joined_route, joined_service, route_b, service_b, stop_b, trip_with}
use Rattle.gtfs_merge.specs.SameRows.{same_trip}
use Rattle.gtfs_merge.specs.SameByNumber.{same_route_id_in, same_service_id_in, same_trip_in}
use Rattle.gtfs_merge.specs.MergedSides.{nearness_of}
use Rattle.gtfs_merge.specs.declared.kind.Kind.TheVariants as kind
use Rattle.gtfs_merge.specs.declared.sides.Sides.{Sides}
use Rattle.gtfs_merge.proofs.JoinedKinds.{id-at, ids-known}
use Rattle.gtfs_merge.proofs.JoinedNames.{joined-at-index, rule-meets}
use Rattle.gtfs_merge.proofs.JoinedRows.{number-same}

in-at : {X : Type 0} (xs : List X) (k : ℕ) (x : X) → slice_get xs k ≡ Some x → In x xs
in-at [] k x at = cc
in-at (y ∷ ys) zero x at = inl (get_or_from_slice_get (y ∷ ys) 0 x y at)
in-at (y ∷ ys) (suc k) x at = inr (in-at ys k x at)

module _ (q : Parts) (sound_q : IsSoundParts q) where
  abbrev b : Content
  b = content_of_parts q

  -- each trip stands in the content
  pub content-at : (k : ℕ) → k < length q.trips → (t : Trip) × (slice_get b.trips k ≡ Some t)
  content-at k within =
      let named : length b.trips ≡ length q.trips = sym (length-map b.trips (λ t. t.trip_id)) ∙ ap length (ids-known kind.Trip q sound_q) ∙ length-map q.trips (λ t. t.trip_id) in
      let inside : k < length b.trips = omega arith in
      let d = some_of b.trips k inside in
      (get_or b.trips k d, slice_get-get_or b.trips k d inside)

  pub content-id : (k : ℕ) (t : Trip) → slice_get b.trips k ≡ Some t → get_or (trip_ids q) k [] ≡ t.trip_id
  content-id k t at = ap (λ xs. get_or xs k []) (sym (ids-known kind.Trip q sound_q)) ∙ id-at (λ t. t.trip_id) b.trips k t at

module _ (sides : Sides) (sound_a : IsSoundParts sides.a.now) (sound_b : IsSoundParts sides.b.now) where
  abbrev a : Content
  a = content_of_parts sides.a.now

  abbrev c : Content
  c = content_of_parts sides.b.now

  -- a route of A and one of B have one new id exactly where they are joined
  pub route-meets : {T : Type 0} (number : T → ℕ) (routes : List (Option T)) → map (option_map number) routes ≡ joined_numbers kind.Route sides → length (ids kind.Route a) + length (ids kind.Route c) < 2 ^ 65
      → (x y : TripRow) → x.route_id.0 < length sides.a.now.routes → y.route_id.0 < length sides.b.now.routes → (same : Bool) → same ≡ option_eq nat_eq (Some x.route_id.0) (get_or (map (option_map number) routes) y.route_id.0 None)
      → same_route_id_in sides.a.now sides.b.now (route_b a c) x y ≡ same
  route-meets number routes known few x y within_p within_q same is =
      let t = text_of_number (route_ids sides.b.now) y.route_id.0 in
      rule-meets (λ r. r.route_id) sides.a.now.routes (in_order sides.a.now sound_a).routes (ids kind.Route a) (ids kind.Route c) (ids-known kind.Route sides.a.now sound_a) (joined_route a c) (omega arith) x.route_id.0 within_p t
      ∙ ap (option_eq nat_eq (Some x.route_id.0)) (sym (joined-at-index number kind.Route sides routes y.route_id.0 known (omega (arith, length-map sides.b.now.routes (λ r. r.route_id)))))
      ∙ sym is

  pub service-meets : {T : Type 0} (number : T → ℕ) (services : List (Option T)) → map (option_map number) services ≡ joined_numbers kind.Service sides → length (ids kind.Service a) + length (ids kind.Service c) < 2 ^ 65
      → (x y : TripRow) → x.service_id.0 < length sides.a.now.services → y.service_id.0 < length sides.b.now.services → (same : Bool) → same ≡ option_eq nat_eq (Some x.service_id.0) (get_or (map (option_map number) services) y.service_id.0 None)
      → same_service_id_in sides.a.now sides.b.now (service_b a c) x y ≡ same
  service-meets number services known few x y within_p within_q same is =
      let t = text_of_number (service_ids sides.b.now) y.service_id.0 in
      rule-meets (λ r. r.service_id) sides.a.now.services (in_order sides.a.now sound_a).services (ids kind.Service a) (ids kind.Service c) (ids-known kind.Service sides.a.now sound_a) (joined_service a c) (omega arith) x.service_id.0 within_p t
      ∙ ap (option_eq nat_eq (Some x.service_id.0)) (sym (joined-at-index number kind.Service sides services y.service_id.0 known (omega (arith, length-map sides.b.now.services (λ r. r.service_id)))))
      ∙ sym is

  -- a trip of the content is its row with its stop times and frequencies
  pub trip-same : (m k : ℕ) (x y : TripRow) (xs ys : List StopRow) (us vs : List Frequency) (s t : Trip) → slice_get sides.a.now.trips m ≡ Some x → slice_get (stop_rows_by_trip sides.a.now) m ≡ Some xs → slice_get (frequencies_by_trip sides.a.now) m ≡ Some us
      → slice_get sides.b.now.trips k ≡ Some y → slice_get (stop_rows_by_trip sides.b.now) k ≡ Some ys → slice_get (frequencies_by_trip sides.b.now) k ≡ Some vs
      → slice_get a.trips m ≡ Some s → slice_get c.trips k ≡ Some t → (route service stop : Renaming) (result : Bool) → same_trip_in sides.a.now sides.b.now route service stop x xs us y ys vs ≡ result
      → result ≡ same_trip s (trip_with kept_as_is route service stop t)
  trip-same m k x y xs ys us vs s t at_x at_xs at_us at_y at_ys at_vs at_s at_t route service stop result is =
      let e : trip_of sides.a.now x xs us ≡ s = cc (content_trip sides.a.now m x xs us at_x at_xs at_us) in
      let f : trip_of sides.b.now y ys vs ≡ t = cc (content_trip sides.b.now k y ys vs at_y at_ys at_vs) in
      sym is ∙ (λ i. same_trip (e i) (trip_with kept_as_is route service stop (f i)))

  pub trip-joined : (n k : ℕ) (id : List ℕ) (s t : Trip) (same : Bool) → slice_get a.trips n ≡ Some s → slice_get c.trips k ≡ Some t → get_or (trip_ids sides.b.now) k [] ≡ id → position (bytes_eq id) (trip_ids sides.a.now) ≡ Some n
      → same ≡ same_trip s (trip_with kept_as_is (route_b a c) (service_b a c) (stop_b (nearness_of sides) a c) t)
      → joined_number kind.Trip sides (get_or (trip_ids sides.b.now) k []) ≡ (if same then Some n else None)
  trip-joined n k id s t same at_s at_t named numbered is =
      let own = content-id sides.b.now sound_b k t at_t in
      ap (joined_number kind.Trip sides) own
      ∙ number-same (λ t. t.trip_id) (λ row other. same_trip row (trip_with kept_as_is (route_b a c) (service_b a c) (stop_b (nearness_of sides) a c) other)) a.trips c.trips
      sound_a.content.in_order.trips sound_b.content.in_order.trips k t at_t (trip_ids sides.a.now) (ids-known kind.Trip sides.a.now sound_a) n s
      (ap (λ x. position (bytes_eq x) (trip_ids sides.a.now)) (sym own ∙ named) ∙ numbered) at_s
      ∙ ap (λ z. if z then Some n else None) (sym is)

-- the number of a text that was found is that of a row
pub number-below : {X : Type 0} (texts : List (List ℕ)) (x : List ℕ) (n : ℕ) → position (bytes_eq x) texts ≡ Some n → (rows : List X) (id : X → List ℕ) → texts ≡ map id rows → n < length rows
number-below texts x n numbered rows id named =
    let there = position-Some (bytes_eq x) texts n [] numbered in
    let e : length texts ≡ length rows = ap length named ∙ length-map rows id in
    let below : n < length texts = there.0 in
    omega arith
