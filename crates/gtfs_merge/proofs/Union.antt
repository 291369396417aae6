-- The departures of the merged feed are those of both feeds, and both share those of joined trips.
use Rattle.std.proofs.Common.{◌≡◌, ℕ, Bool, true, List, [], ◌∷◌, ◌++◌, refl, sym, ap, ◌∙◌, subst, inl, inr, ◌⊎◌, map, option_map}
use Rattle.gtfs_rows.specs.Rows.{ServiceRow, StopRow, Trip}
use Rattle.gtfs_rows.specs.Content.{Content}
use Rattle.gtfs_rows.specs.Key.{Key}
use Rattle.gtfs_rows.specs.Departures.{Origins, departs_from, is_departure, any_row}
use Rattle.gtfs_merge.specs.SameRows.{same_trip, same_service}
use Rattle.gtfs_merge.specs.Renaming.{Names, Nearness, kept_as_is, lists_id, ids, trip_with, stop_row_with, names_a, names_b, trip_b, route_b, service_b, stop_b, joined_trip, joined_service}
use Rattle.gtfs_merge.specs.Merged.{service_with, merged}
use Rattle.gtfs_merge.specs.DeparturesOfBoth.{key_with, IsImage, HasUnion, SharesJoined}
use Rattle.gtfs_merge.specs.declared.kind.Kind.TheVariants as kind
pub use Rattle.gtfs_merge.specs.MergedDepartures.{AreFew}
use Rattle.gtfs_times.specs.Filling.{timed}
use Rattle.gtfs_times.specs.declared.times.Times.{Times}
use Rattle.gtfs_merge.proofs.TimedIds.{carried-timed, ids-timed, keys-timed, look-back, named-timed}
use Rattle.gtfs_merge.proofs.Lookups.{keyed-by_id}
use Rattle.gtfs_merge.proofs.Fresh.{renamed_into_a, joined_stays, renamed_apart}
use Rattle.gtfs_merge.proofs.Equal.{exact-service, exact-trip}
use Rattle.gtfs_merge.proofs.MergedRows.{found, has_found, has_own, joined-rows, merged-a, merged-from, merged-renamed}
use Rattle.gtfs_merge.proofs.Carried.{trip_id_of, service_id_of, HasKeys, NamesServices, trip_by, IsCarried, departs-carried, departs-has}

map_kept : (rows : List StopRow) → map (stop_row_with kept_as_is) rows ≡ rows
map_kept [] = refl
map_kept (r ∷ rs) = λ i. r ∷ map_kept rs i

module _ (near : Nearness) (a b : Content) (keys_a : HasKeys a) (keys_b : HasKeys b)
    (few_trips : AreFew kind.Trip a b) (few_services : AreFew kind.Service a b) where
  abbrev m : Content
  m = merged near a b

  abbrev na : Names
  na = names_a a b

  abbrev nb : Names
  nb = names_b near a b

  pub keys_merged : HasKeys (merged near a b)
  keys_merged = record {
    trips = keyed-by_id trip_id_of (map (trip_by na) a.trips ++ map (trip_by nb) b.trips);
    services = keyed-by_id service_id_of (map (service_with na.service) a.services ++ map (service_with nb.service) b.services);
  }

  carried-a : IsCarried m a na
  carried-a = record {
    trips = λ x h. let r = found trip_id_of a.trips x h in
        merged-a trip_id_of (trip_by na) (trip_by nb) nb.trip a.trips b.trips (λ t. refl) (λ t. refl) x r.0 r.1 ∙ ap (option_map (trip_by na)) (sym r.1);
    services = λ x h. let r = found service_id_of a.services x h in
        merged-a service_id_of (service_with na.service) (service_with nb.service) nb.service a.services b.services (λ t. refl) (λ t. refl) x r.0 r.1 ∙ ap (option_map (service_with na.service)) (sym r.1);
  }

  abbrev same_t : Trip → Trip → Bool
  same_t row other = same_trip row (trip_with kept_as_is (route_b a b) (service_b a b) (stop_b near a b) other)

  abbrev same_s : ServiceRow → ServiceRow → Bool
  same_s row other = same_service row.service other.service

  agree_trips : (r s : Trip) → r.trip_id ≡ s.trip_id → trip_b near a b s.trip_id ≡ s.trip_id → same_t r s ≡ true → trip_by na r ≡ trip_by nb s
  agree_trips r s e f h =
      let other = trip_with kept_as_is (route_b a b) (service_b a b) (stop_b near a b) s in
      let kept : trip_by na r ≡ r = λ i. record r { stop_rows = map_kept r.stop_rows i } in
      let new : other ≡ trip_by nb s = λ i. record (trip_by nb s) { trip_id = sym f i } in
      kept ∙ exact-trip r other e h ∙ new

  agree_services : (r s : ServiceRow) → r.service_id ≡ s.service_id → service_b a b s.service_id ≡ s.service_id → same_s r s ≡ true → service_with na.service r ≡ service_with nb.service s
  agree_services r s e f h = λ i. record { service_id = (e ∙ sym f) i; service = exact-service r.service s.service h i }

  carried-b : IsCarried m b nb
  carried-b = record {
    trips = merged-renamed trip_id_of (trip_by na) (trip_by nb) nb.trip a.trips b.trips (λ t. refl) (λ t. refl) same_t keys_a.trips keys_b.trips
        (renamed_apart (ids kind.Trip a) (ids kind.Trip b) (joined_trip near a b) few_trips)
        (renamed_into_a (ids kind.Trip a) (ids kind.Trip b) (joined_trip near a b) few_trips)
        agree_trips;
    services = merged-renamed service_id_of (service_with na.service) (service_with nb.service) nb.service a.services b.services (λ t. refl) (λ t. refl) same_s keys_a.services keys_b.services
        (renamed_apart (ids kind.Service a) (ids kind.Service b) (joined_service a b) few_services)
        (renamed_into_a (ids kind.Service a) (ids kind.Service b) (joined_service a b) few_services)
        agree_services;
  }

  module _ (choice : Times) (named_a : NamesServices a) (named_b : NamesServices b) where
    keys_m : HasKeys (timed choice m)
    keys_m = keys-timed choice m keys_merged

    keys_ta : HasKeys (timed choice a)
    keys_ta = keys-timed choice a keys_a

    keys_tb : HasKeys (timed choice b)
    keys_tb = keys-timed choice b keys_b

    has-a : (origin : Origins) (k : Key) → is_departure (timed choice a) origin k ≡ true → lists_id (ids kind.Trip a) k.trip ≡ true
    has-a origin k e = sym (ids-timed choice a k.trip) ∙ (departs-has (timed choice a) keys_ta.trips origin any_row k e).2

    has-b : (origin : Origins) (k : Key) → is_departure (timed choice b) origin k ≡ true → lists_id (ids kind.Trip b) k.trip ≡ true
    has-b origin k e = sym (ids-timed choice b k.trip) ∙ (departs-has (timed choice b) keys_tb.trips origin any_row k e).2

    -- a departure of the merged feed, by the side of its trip
    pub departs-a : (origin : Origins) (test : StopRow → Bool) (k : Key) → lists_id (ids kind.Trip a) k.trip ≡ true
        → departs_from (timed choice (merged near a b)) origin test k ≡ departs_from (timed choice a) origin test k
    departs-a origin test k h = departs-carried (timed choice m) (timed choice a) na keys_m keys_ta (named-timed choice a named_a) (carried-timed choice m a na carried-a) origin test k (ids-timed choice a k.trip ∙ h)

    pub departs-b : (origin : Origins) (test : StopRow → Bool) (k : Key) → lists_id (ids kind.Trip b) k.trip ≡ true
        → departs_from (timed choice (merged near a b)) origin test (key_with (trip_b near a b) k) ≡ departs_from (timed choice b) origin (λ r. test (stop_row_with (stop_b near a b) r)) k
    departs-b origin test k h = departs-carried (timed choice m) (timed choice b) nb keys_m keys_tb (named-timed choice b named_b) (carried-timed choice m b nb carried-b) origin test k (ids-timed choice b k.trip ∙ h)

    -- whose trip it is
    pub side-of : (origin : Origins) (test : StopRow → Bool) (k : Key) → departs_from (timed choice (merged near a b)) origin test k ≡ true
        → (lists_id (ids kind.Trip a) k.trip ≡ true) ⊎ ((x : List ℕ) × (lists_id (ids kind.Trip b) x ≡ true) × (trip_b near a b x ≡ k.trip))
    side-of origin test k e =
        let d = departs-has (timed choice m) keys_m.trips origin test k e in
        let r = look-back choice m k.trip d.0 d.1 in
        elim (merged-from trip_id_of (trip_by na) (trip_by nb) nb.trip a.trips b.trips (λ t. refl) (λ t. refl) k.trip r.0 r.1)
        as (λ w. (lists_id (ids kind.Trip a) k.trip ≡ true) ⊎ ((x : List ℕ) × (lists_id (ids kind.Trip b) x ≡ true) × (trip_b near a b x ≡ k.trip))) [
          | inl h ↦ inl h
          | inr s ↦ inr (s.1.trip_id, has_own trip_id_of b.trips s.1 s.2, s.3)
        ]

    pub has-union : HasUnion choice near a b
    has-union origin k = (split, from_a, from_b)
      where
        split : is_departure (timed choice (merged near a b)) origin k ≡ true → IsImage (timed choice a) origin (names_a a b) k ⊎ IsImage (timed choice b) origin (names_b near a b) k
        split e = elim (side-of origin any_row k e) as (λ w. IsImage (timed choice a) origin (names_a a b) k ⊎ IsImage (timed choice b) origin (names_b near a b) k) [
          | inl h ↦ inl (k, sym (departs-a origin any_row k h) ∙ e, refl)
          | inr s ↦
              let k0 : Key = record k { trip = s.0 } in
              let p : k ≡ key_with (trip_b near a b) k0 = λ i. record k { trip = sym s.2 i } in
              inr (k0, sym (departs-b origin any_row k0 s.1) ∙ ap (is_departure (timed choice m) origin) (sym p) ∙ e, p)
        ]

        from_a : IsImage (timed choice a) origin (names_a a b) k → is_departure (timed choice (merged near a b)) origin k ≡ true
        from_a w =
            ap (is_departure (timed choice m) origin) w.2 ∙ departs-a origin any_row w.0 (has-a origin w.0 w.1) ∙ w.1

        from_b : IsImage (timed choice b) origin (names_b near a b) k → is_departure (timed choice (merged near a b)) origin k ≡ true
        from_b w =
            ap (is_departure (timed choice m) origin) w.2 ∙ departs-b origin any_row w.0 (has-b origin w.0 w.1) ∙ w.1

    pub shares-joined : SharesJoined choice near a b
    shares-joined origin k w =
        let from_a : is_departure (timed choice a) origin k ≡ true = ap (is_departure (timed choice a) origin) w.2 ∙ w.1 in
        let ha = has-a origin k from_a in (
          λ v.
              let hb = has-b origin v.0 v.1 in
              let e : k.trip ≡ trip_b near a b v.0.trip = ap (λ x. x.trip) v.2 in
              let s = renamed_into_a (ids kind.Trip a) (ids kind.Trip b) (joined_trip near a b) few_trips v.0.trip (subst (λ x. lists_id (ids kind.Trip a) x ≡ true) e ha) in
              subst (λ x. joined_trip near a b x ≡ true) (sym (e ∙ s.0)) s.1,
          λ j.
              let r = joined-rows trip_id_of same_t a.trips b.trips keys_a.trips keys_b.trips k.trip j in
              let hb = has_found trip_id_of b.trips k.trip r.1 r.3 in
              let stays = joined_stays (ids kind.Trip a) (ids kind.Trip b) (joined_trip near a b) few_trips k.trip j in
              let p : k ≡ key_with (trip_b near a b) k = λ i. record k { trip = sym stays i } in
              (k, sym (departs-b origin any_row k hb) ∙ ap (is_departure (timed choice m) origin) (sym p) ∙ departs-a origin any_row k ha ∙ from_a, p),
        )
