-- The merged transfers by number are the merged transfers by id.
use Rattle.std.proofs.Common.{◌≡◌, ◌<◌, ◌∙◌, ◌++◌, ℕ, List, [], ◌∷◌, true, Option, Some, None, length, map, get_or, refl, sym, ap, subst, inl, inr}
use Rattle.std.specs.Prelude.{◌&&◌, IfSome, option_map}
use Rattle.std.specs.List.{list_all}
use Rattle.std.proofs.lemmas.Bool.{and_from, and_parts, ltb-true}
use Rattle.std.proofs.lemmas.List.{length-map, map-append}
use Rattle.gtfs_rows.specs.TransferEnds.{names_ends, transfer_named, transfer_numbers}
use Rattle.gtfs_rows.specs.TransferOrder.{Ascends, transfer_key, transfer_key_cmp}
use Rattle.gtfs_rows.specs.Rows.{Transfer}
use Rattle.gtfs_rows.specs.RowsInMemory.{IsSoundParts, is_number_within, names_route, names_stop, names_trip, route_ids, stop_ids, transfer_names_rows, transfer_of, trip_ids}
use Rattle.gtfs_rows.specs.declared.numbers.RouteNo.{RouteNo}
use Rattle.gtfs_stop_times.specs.declared.numbers.StopNo.{StopNo}
use Rattle.gtfs_rows.specs.declared.numbers.TripNo.{TripNo}
use Rattle.gtfs_rows.specs.declared.parts.Parts.{Parts}
use Rattle.gtfs_rows.specs.declared.transfer.Transfer.{Transfer as ByNumber}
use Rattle.gtfs_rows.proofs.ContentAgain.{transfer_antisymmetric as text_key_antisymmetric, transfer_total}
use Rattle.gtfs_field.specs.TextOrder.{text_cmp}
use Rattle.gtfs_rows.proofs.Members.{In, In-append, In-map, list_all-In, list_all-from}
use Rattle.gtfs_merge.specs.KindEntries.{AllEntries, AreMergedKinds}
use Rattle.gtfs_merge.specs.Merged.{by_transfer, transfer_with}
use Rattle.gtfs_merge.specs.NewNumbers.{numbers_of}
use Rattle.gtfs_merge.specs.MergedSides.{merged_ids, merged_parts, side_names, side_parts}
use Rattle.gtfs_merge.specs.Transfers.{IsWithin, ends_cmp, merged_transfers, transfer_on, transfers_on}
use Rattle.gtfs_merge.specs.declared.kind.Kind.TheVariants as kind
use Rattle.gtfs_merge.specs.declared.kind.Side.{Side}
use Rattle.gtfs_merge.specs.declared.kind.Side.TheVariants as side
use Rattle.gtfs_merge.specs.declared.sides.Sides.{Sides}
use Rattle.gtfs_merge.proofs.Kept.{In-by_key}
use Rattle.gtfs_merge.proofs.KeyedOrders.{by_key-carried}
use Rattle.gtfs_merge.proofs.TripsOfSides.{In-get}
use Rattle.gtfs_merge.proofs.ReferenceNumbers.{numbers-length, option-named, option-within}
use Rattle.gtfs_merge.proofs.TransferOrder.{ends_antisymmetric, ends_total, key-order}
use Rattle.gtfs_merge.proofs.MergedLists.{side-sound}

-- ---- numbers

abbrev stop_no : ℕ → StopNo
stop_no n = record { 0 = n }

abbrev stop_number : StopNo → ℕ
stop_number n = n.0

abbrev route_no : ℕ → RouteNo
route_no n = record { 0 = n }

abbrev route_number : RouteNo → ℕ
route_number n = n.0

abbrev trip_no : ℕ → TripNo
trip_no n = record { 0 = n }

abbrev trip_number : TripNo → ℕ
trip_number n = n.0

-- ---- what a transfer of a side names has a new number

number_there : {N : Type 0} (number : N → ℕ) (count : ℕ) (o : Option N) → is_number_within count (option_map number o) ≡ true → IfSome o (λ n. number n < count)
number_there number count None within = tt
number_there number count (Some n) within = ltb-true (number n) count within

record NamesRowsOf (p : Parts) (t : ByNumber) : Type 0 where
  pub from_stop : IfSome t.from_stop_id (λ n. n.0 < length p.stops)
  pub to_stop : IfSome t.to_stop_id (λ n. n.0 < length p.stops)
  pub from_route : IfSome t.from_route_id (λ n. n.0 < length p.routes)
  pub to_route : IfSome t.to_route_id (λ n. n.0 < length p.routes)
  pub from_trip : IfSome t.from_trip_id (λ n. n.0 < length p.trips)
  pub to_trip : IfSome t.to_trip_id (λ n. n.0 < length p.trips)

names-rows : (p : Parts) (t : ByNumber) → transfer_names_rows p t ≡ true → NamesRowsOf p t
names-rows p t h =
    let v = and_parts (names_stop p t.from_stop_id && names_stop p t.to_stop_id && names_route p t.from_route_id && names_route p t.to_route_id && names_trip p t.from_trip_id) (names_trip p t.to_trip_id) h in
    let u = and_parts (names_stop p t.from_stop_id && names_stop p t.to_stop_id && names_route p t.from_route_id && names_route p t.to_route_id) (names_trip p t.from_trip_id) v.0 in
    let w = and_parts (names_stop p t.from_stop_id && names_stop p t.to_stop_id && names_route p t.from_route_id) (names_route p t.to_route_id) u.0 in
    let x = and_parts (names_stop p t.from_stop_id && names_stop p t.to_stop_id) (names_route p t.from_route_id) w.0 in
    let y = and_parts (names_stop p t.from_stop_id) (names_stop p t.to_stop_id) x.0 in
    record {
      from_stop = number_there (λ n. n.0) (length p.stops) t.from_stop_id y.0;
      to_stop = number_there (λ n. n.0) (length p.stops) t.to_stop_id y.1;
      from_route = number_there (λ n. n.0) (length p.routes) t.from_route_id x.1;
      to_route = number_there (λ n. n.0) (length p.routes) t.to_route_id w.1;
      from_trip = number_there (λ n. n.0) (length p.trips) t.from_trip_id u.1;
      to_trip = number_there (λ n. n.0) (length p.trips) t.to_trip_id v.1;
    }

as_many : {N : Type 0} (number : N → ℕ) (o : Option N) (m n : ℕ) → m ≡ n → IfSome o (λ x. number x < m) → IfSome o (λ x. number x < n)
as_many number o m n same h = subst (λ k. IfSome o (λ x. number x < k)) same h

module _ (sides : Sides) (sound_a : IsSoundParts sides.a.now) (sound_b : IsSoundParts sides.b.now) (k : AllEntries) (are : AreMergedKinds sides k) where
  abbrev stops : List (List ℕ)
  stops = merged_ids kind.Stop sides

  abbrev routes : List (List ℕ)
  routes = merged_ids kind.Route sides

  abbrev trips : List (List ℕ)
  trips = merged_ids kind.Trip sides

  abbrev named : ByNumber → Transfer
  named = transfer_named stops routes trips

  module _ (s : Side) where
    abbrev own : Parts
    own = side_parts s sides

    names : (t : ByNumber) → In t own.transfers → NamesRowsOf own t
    names t i = names-rows own t (list_all-In (transfer_names_rows own) own.transfers (side-sound s sides sound_a sound_b).names_rows.transfers t i)

    stop_count : length own.stops ≡ length (stop_ids own)
    stop_count = sym (length-map own.stops (λ x. x.stop_id))

    route_count : length own.routes ≡ length (route_ids own)
    route_count = sym (length-map own.routes (λ x. x.route_id))

    trip_count : length own.trips ≡ length (trip_ids own)
    trip_count = sym (length-map own.trips (λ x. x.trip_id))

    new_stops : length (numbers_of k.stops.numbers s) ≡ length (stop_ids own)
    new_stops = numbers-length stops _ (stop_ids own) _ ((are kind.Stop).numbers s)

    new_routes : length (numbers_of k.routes.numbers s) ≡ length (route_ids own)
    new_routes = numbers-length routes _ (route_ids own) _ ((are kind.Route).numbers s)

    new_trips : length (numbers_of k.trips.numbers s) ≡ length (trip_ids own)
    new_trips = numbers-length trips _ (trip_ids own) _ ((are kind.Trip).numbers s)

    pub within-side : (t : ByNumber) → In t own.transfers → IsWithin k s t
    within-side t i =
        let n = names t i in
        record {
          from_stop = as_many (λ n. n.0) t.from_stop_id _ _ (stop_count ∙ sym new_stops) n.from_stop;
          to_stop = as_many (λ n. n.0) t.to_stop_id _ _ (stop_count ∙ sym new_stops) n.to_stop;
          from_route = as_many (λ n. n.0) t.from_route_id _ _ (route_count ∙ sym new_routes) n.from_route;
          to_route = as_many (λ n. n.0) t.to_route_id _ _ (route_count ∙ sym new_routes) n.to_route;
          from_trip = as_many (λ n. n.0) t.from_trip_id _ _ (trip_count ∙ sym new_trips) n.from_trip;
          to_trip = as_many (λ n. n.0) t.to_trip_id _ _ (trip_count ∙ sym new_trips) n.to_trip;
        }

    pub within-index : (ts : List ByNumber) → ts ≡ own.transfers → (n : ℕ) (d : ByNumber) → n < length ts → IsWithin k s (get_or ts n d)
    within-index ts are_own n d within = within-side (get_or ts n d) (subst (λ (us : List ByNumber). In (get_or ts n d) us) are_own (In-get ts n d within))

    -- a transfer with new numbers is the transfer with new ids
    transfer-is : (t : ByNumber) → In t own.transfers → named (transfer_on k s t) ≡ transfer_with (side_names s sides) (transfer_of own t)
    transfer-is t i =
        let n = names t i in
        λ j. record (transfer_of own t) {
          from_stop_id = option-named stops _ (stop_ids own) _ ((are kind.Stop).numbers s) stop_number stop_no t.from_stop_id (λ n. refl) (as_many (λ n. n.0) t.from_stop_id _ _ stop_count n.from_stop) j;
          to_stop_id = option-named stops _ (stop_ids own) _ ((are kind.Stop).numbers s) stop_number stop_no t.to_stop_id (λ n. refl) (as_many (λ n. n.0) t.to_stop_id _ _ stop_count n.to_stop) j;
          from_route_id = option-named routes _ (route_ids own) _ ((are kind.Route).numbers s) route_number route_no t.from_route_id (λ n. refl) (as_many (λ n. n.0) t.from_route_id _ _ route_count n.from_route) j;
          to_route_id = option-named routes _ (route_ids own) _ ((are kind.Route).numbers s) route_number route_no t.to_route_id (λ n. refl) (as_many (λ n. n.0) t.to_route_id _ _ route_count n.to_route) j;
          from_trip_id = option-named trips _ (trip_ids own) _ ((are kind.Trip).numbers s) trip_number trip_no t.from_trip_id (λ n. refl) (as_many (λ n. n.0) t.from_trip_id _ _ trip_count n.from_trip) j;
          to_trip_id = option-named trips _ (trip_ids own) _ ((are kind.Trip).numbers s) trip_number trip_no t.to_trip_id (λ n. refl) (as_many (λ n. n.0) t.to_trip_id _ _ trip_count n.to_trip) j;
        }

    -- and names merged rows
    ends-within : (t : ByNumber) → In t own.transfers → names_ends stops routes trips (transfer_on k s t) ≡ true
    ends-within t i =
        let n = names t i in
        let a = option-within stops _ (stop_ids own) _ ((are kind.Stop).numbers s) stop_number stop_no t.from_stop_id (λ n. refl) (as_many (λ n. n.0) t.from_stop_id _ _ stop_count n.from_stop) in
        let b = option-within stops _ (stop_ids own) _ ((are kind.Stop).numbers s) stop_number stop_no t.to_stop_id (λ n. refl) (as_many (λ n. n.0) t.to_stop_id _ _ stop_count n.to_stop) in
        let c = option-within routes _ (route_ids own) _ ((are kind.Route).numbers s) route_number route_no t.from_route_id (λ n. refl) (as_many (λ n. n.0) t.from_route_id _ _ route_count n.from_route) in
        let d = option-within routes _ (route_ids own) _ ((are kind.Route).numbers s) route_number route_no t.to_route_id (λ n. refl) (as_many (λ n. n.0) t.to_route_id _ _ route_count n.to_route) in
        let e = option-within trips _ (trip_ids own) _ ((are kind.Trip).numbers s) trip_number trip_no t.from_trip_id (λ n. refl) (as_many (λ n. n.0) t.from_trip_id _ _ trip_count n.from_trip) in
        let f = option-within trips _ (trip_ids own) _ ((are kind.Trip).numbers s) trip_number trip_no t.to_trip_id (λ n. refl) (as_many (λ n. n.0) t.to_trip_id _ _ trip_count n.to_trip) in
        and_from _ _ (and_from _ _ (and_from _ _ (and_from _ _ (and_from _ _ a b) c) d) e) f

    pub all-ends : (t : ByNumber) → In t (transfers_on sides k s) → names_ends stops routes trips t ≡ true
    all-ends t i = let from = In-map (transfer_on k s) own.transfers t i in ap (names_ends stops routes trips) (sym from.2) ∙ ends-within from.0 from.1

    mapped : (ts : List ByNumber) → ((t : ByNumber) → In t ts → In t own.transfers) → map named (map (transfer_on k s) ts) ≡ map (transfer_with (side_names s sides)) (map (transfer_of own) ts)
    mapped [] inside = refl
    mapped (t ∷ ts) inside = λ j. transfer-is t (inside t (inl refl)) j ∷ mapped ts (λ u i. inside u (inr i)) j

    pub side-named : map named (transfers_on sides k s) ≡ map (transfer_with (side_names s sides)) (map (transfer_of own) own.transfers)
    side-named = mapped own.transfers (λ t i. i)

  abbrev both : List ByNumber
  both = transfers_on sides k side.A ++ transfers_on sides k side.B

  both-end : (t : ByNumber) → In t both → names_ends stops routes trips t ≡ true
  both-end t i = elim (In-append (transfers_on sides k side.A) (transfers_on sides k side.B) t i) as (λ w. names_ends stops routes trips t ≡ true) [
    | inl a ↦ all-ends side.A t a
    | inr b ↦ all-ends side.B t b
  ]

  -- ---- what the merged feed cites

  pub transfers-within : list_all (names_ends stops routes trips) (merged_transfers sides k) ≡ true
  transfers-within = list_all-from (names_ends stops routes trips) (merged_transfers sides k) (λ t i. both-end t (In-by_key ends_cmp ends_total transfer_numbers both t i))

  module _ (stops_up : Ascends text_cmp stops) (routes_up : Ascends text_cmp routes) (trips_up : Ascends text_cmp trips) where
    pub transfers-named : map named (merged_transfers sides k) ≡ (merged_parts sides).transfers
    transfers-named =
        sym (by_key-carried ends_cmp ends_total transfer_key_cmp transfer_total ends_antisymmetric text_key_antisymmetric transfer_numbers transfer_key named both
        (λ t u i j. key-order stops routes trips stops_up routes_up trips_up t u (both-end t i) (both-end u j)))
        ∙ ap by_transfer (map-append named (transfers_on sides k side.A) (transfers_on sides k side.B) ∙ (λ i. side-named side.A i ++ side-named side.B i))
