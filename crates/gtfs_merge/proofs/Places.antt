-- The board of a stop of the merged feed lists what both feeds list of the stops that became it.
use Rattle.std.proofs.Common.{◌≡◌, ℕ, Bool, true, false, List, ◌++◌, Some, None, Option, refl, sym, ap, ◌∙◌, subst, inl, inr, ◌⊎◌, map, bytes_eq, option_map, unwrap_or, true≢false}
use Rattle.std.specs.Prelude.{◌&&◌, ◌||◌, ◌==◌}
use Rattle.std.proofs.lemmas.Bool.{and_parts, and_from, or_cases, or_left, or_right}
use Rattle.std.proofs.Math.Bool.{and_assoc as and_three}
use Rattle.gtfs_rows.specs.Rows.{Stop, StopRow}
use Rattle.gtfs_times.specs.Filling.{timed}
use Rattle.gtfs_times.specs.declared.times.Times.{Times}
use Rattle.gtfs_merge.proofs.TimedIds.{ids-timed, keys-timed}
use Rattle.gtfs_merge.proofs.TimedFeeds.{places-timed}
use Rattle.gtfs_rows.specs.Content.{Content}
use Rattle.gtfs_schema.specs.FieldValues.{if_there}
use Rattle.gtfs_schema.proofs.SiteFacts.{text_is as same_bytes}
use Rattle.gtfs_rows.specs.Key.{Key}
use Rattle.gtfs_rows.specs.Departures.{is_above, is_within, Origins, departs_at, departs_from}
use Rattle.gtfs_rows.specs.Places.{is_plain_stop, is_in_place}
use Rattle.gtfs_merge.specs.Renaming.{Nearness, kept_as_is, lists_id, ids, names_a, names_b, stop_with, stop_b, trip_b}
use Rattle.gtfs_merge.specs.Merged.{merged}
use Rattle.gtfs_merge.specs.DeparturesOfBoth.{key_with, IsImageAt, HasBoards}
use Rattle.gtfs_merge.specs.declared.kind.Kind.TheVariants as kind
use Rattle.gtfs_merge.proofs.Lookups.{bytes_same, list_any-alike, holds_at, look, IsKeyed, keyed-by_id}
use Rattle.gtfs_merge.proofs.MergedRows.{found, found_id}
use Rattle.gtfs_merge.proofs.Carried.{HasKeys, NamesServices, departs-has, departs-row}
use Rattle.gtfs_merge.proofs.Union.{AreFew, departs-a, departs-b, side-of}
use Rattle.gtfs_merge.proofs.Stops.{stop_id_of, IsNearness, HasPlaces, settled, merged-stop-a, merged-stop-b}

-- what a stop says of its place
abbrev says_place : Option Stop → List ℕ → Bool
says_place o s = holds_at o (λ y. is_plain_stop y && if_there y.parent_station (bytes_eq s))

place-look : (f : Content) → IsKeyed stop_id_of f.stops → (s x : List ℕ) → is_in_place f s x ≡ (bytes_eq x s || says_place (look stop_id_of f.stops x) s)
place-look f keyed s x = ap (λ b. bytes_eq x s || b)
    (list_any-alike _ (λ y. bytes_eq y.stop_id x && (is_plain_stop y && if_there y.parent_station (bytes_eq s))) f.stops (λ y i. and_three (bytes_eq y.stop_id x) (is_plain_stop y) (if_there y.parent_station (bytes_eq s)))
    ∙ keyed x (λ y. is_plain_stop y && if_there y.parent_station (bytes_eq s)))

text-is : (o : Option (List ℕ)) (s : List ℕ) → if_there o (bytes_eq s) ≡ true → o ≡ Some s
text-is None s e = absurd (true≢false (sym e))
text-is (Some x) s e = ap Some (sym (same_bytes s x e))

module _ (choice : Times) (near : Nearness) (nearness : IsNearness near) (a b : Content) (keys_a : HasKeys a) (keys_b : HasKeys b)
    (few_trips : AreFew kind.Trip a b) (few_services : AreFew kind.Service a b) (named_a : NamesServices a) (named_b : NamesServices b)
    (places_a : HasPlaces a) (places_b : HasPlaces b) (few : AreFew kind.Stop a b) where
  abbrev m : Content
  m = merged near a b

  abbrev new : List ℕ → List ℕ
  new = stop_b near a b

  keyed_m : IsKeyed stop_id_of m.stops
  keyed_m = keyed-by_id stop_id_of (map (stop_with kept_as_is) a.stops ++ map (stop_with new) b.stops)

  -- places of stops of A
  place-a : (s x : List ℕ) → lists_id (ids kind.Stop a) x ≡ true → is_in_place m s x ≡ is_in_place a s x
  place-a s x h =
      let y = found stop_id_of a.stops x h in
      place-look m keyed_m s x ∙ ap (λ o. bytes_eq x s || says_place o s) (merged-stop-a near nearness a b places_a places_b few x y.0 y.1 ∙ sym y.1) ∙ sym (place-look a places_a.keyed s x)

  -- places of stops of B, both ways
  place-b : (s0 x : List ℕ) → lists_id (ids kind.Stop b) x ≡ true → is_in_place b s0 x ≡ true → is_in_place m (new s0) (new x) ≡ true
  place-b s0 x h e =
      let y = found stop_id_of b.stops x h in
      let z = merged-stop-b near nearness a b places_a places_b few x y.0 y.1 in
      place-look m keyed_m (new s0) (new x) ∙ elim (or_cases (bytes_eq x s0) (says_place (look stop_id_of b.stops x) s0) (sym (place-look b places_b.keyed s0 x) ∙ e))
      as (λ w. (bytes_eq (new x) (new s0) || says_place (look stop_id_of m.stops (new x)) (new s0)) ≡ true) [
        | inl same ↦ or_left _ _ (bytes_same _ _ (ap new (same_bytes x s0 same)))
        | inr says ↦
            let p = and_parts _ _ (sym (ap (λ o. says_place o s0) y.1) ∙ says) in
            let i = (found_id stop_id_of b.stops x y.0 y.1).0 in
            let parent = z.3 (settled near nearness a b places_a places_b few y.0 i p.0) ∙ ap (option_map new) (text-is y.0.parent_station s0 p.1) in
            or_right _ _ (ap (λ o. says_place o (new s0)) z.1 ∙ and_from _ _ (ap (λ l. l == 0) z.2 ∙ p.0) (ap (λ o. if_there o (bytes_eq (new s0))) parent ∙ bytes_same (new s0) (new s0) refl))
      ]

  place-from-b : (s x : List ℕ) → lists_id (ids kind.Stop b) x ≡ true → is_in_place m s (new x) ≡ true → (s0 : List ℕ) × (lists_id (ids kind.Stop b) s0 ≡ true) × (new s0 ≡ s) × (is_in_place b s0 x ≡ true)
  place-from-b s x h e =
      let y = found stop_id_of b.stops x h in
      let i = (found_id stop_id_of b.stops x y.0 y.1).0 in
      let z = merged-stop-b near nearness a b places_a places_b few x y.0 y.1 in
      elim (or_cases (bytes_eq (new x) s) (says_place (look stop_id_of m.stops (new x)) s) (sym (place-look m keyed_m s (new x)) ∙ e))
      as (λ w. (s0 : List ℕ) × (lists_id (ids kind.Stop b) s0 ≡ true) × (new s0 ≡ s) × (is_in_place b s0 x ≡ true)) [
        | inl same ↦ (x, h, same_bytes (new x) s same, place-look b places_b.keyed x x ∙ or_left _ _ (bytes_same x x refl))
        | inr says ↦
            let p = and_parts _ _ (sym (ap (λ o. says_place o s) z.1) ∙ says) in
            let plain : is_plain_stop y.0 ≡ true = sym (ap (λ l. l == 0) z.2) ∙ p.0 in
            let parent : option_map new y.0.parent_station ≡ Some s = sym (z.3 (settled near nearness a b places_a places_b few y.0 i plain)) ∙ text-is z.0.parent_station s p.1 in
            let q = parent_of y.0.parent_station s parent in (
              q.0,
              places_b.parents_named y.0 i q.0 q.1,
              q.2,
              place-look b places_b.keyed q.0 x ∙ or_right _ _ (ap (λ o. says_place o q.0) y.1 ∙ and_from _ _ plain (ap (λ o. if_there o (bytes_eq q.0)) q.1 ∙ bytes_same q.0 q.0 refl)),
            )
      ]
    where
      parent_of : (o : Option (List ℕ)) (s : List ℕ) → option_map new o ≡ Some s → (p : List ℕ) × (o ≡ Some p) × (new p ≡ s)
      parent_of None s e = absurd (true≢false (sym (ap has e)))
        where
          has : Option (List ℕ) → Bool
          has None = false
          has (Some x) = true
      parent_of (Some p) s e = (p, refl, ap (λ o. unwrap_or o s) e)

  -- a stop at whose place a stop of A stands is one of A
  place-named : (s x : List ℕ) → lists_id (ids kind.Stop a) x ≡ true → is_in_place a s x ≡ true → lists_id (ids kind.Stop a) s ≡ true
  place-named s x h e =
      let y = found stop_id_of a.stops x h in
      let i = (found_id stop_id_of a.stops x y.0 y.1).0 in
      elim (or_cases (bytes_eq x s) (says_place (look stop_id_of a.stops x) s) (sym (place-look a places_a.keyed s x) ∙ e)) as (λ w. lists_id (ids kind.Stop a) s ≡ true) [
        | inl same ↦ subst (λ q. lists_id (ids kind.Stop a) q ≡ true) (same_bytes x s same) h
        | inr says ↦
            let p = and_parts _ _ (sym (ap (λ o. says_place o s) y.1) ∙ says) in
            places_a.parents_named y.0 i s (text-is y.0.parent_station s p.1)
      ]

  -- ---- departures at a place

  trip-a : (origin : Origins) (test : StopRow → Bool) (k : Key) → departs_from (timed choice a) origin test k ≡ true → lists_id (ids kind.Trip a) k.trip ≡ true
  trip-a origin test k e = sym (ids-timed choice a k.trip) ∙ (departs-has (timed choice a) (keys-timed choice a keys_a).trips origin test k e).2

  trip-b : (origin : Origins) (test : StopRow → Bool) (k : Key) → departs_from (timed choice b) origin test k ≡ true → lists_id (ids kind.Trip b) k.trip ≡ true
  trip-b origin test k e = sym (ids-timed choice b k.trip) ∙ (departs-has (timed choice b) (keys-timed choice b keys_b).trips origin test k e).2

  at-a : (origin : Origins) (s : List ℕ) (k : Key) → IsImageAt (timed choice a) origin (names_a a b) s k → departs_at (timed choice m) origin s k ≡ true
  at-a origin s k w =
      let s0 = w.0 in
      let k0 = w.3 in
      let r = departs-row (timed choice a) (keys-timed choice a keys_a).trips origin (λ row. is_in_place a s0 row.stop_id) k0 w.4 in
      let h = (places-timed choice a places_a).rows_named r.0 r.2 r.1 r.3 in
      ap (departs_at (timed choice m) origin s) w.5
      ∙ departs-a near a b keys_a keys_b few_trips few_services choice named_a named_b origin (λ row. is_in_place m s row.stop_id) k0 (trip-a origin (λ row. is_in_place a s0 row.stop_id) k0 w.4)
      ∙ r.5 (λ row. is_in_place m s row.stop_id) (place-a s r.1.stop_id h ∙ ap (λ q. is_in_place a q r.1.stop_id) (sym w.2) ∙ r.4)

  at-b : (origin : Origins) (s : List ℕ) (k : Key) → IsImageAt (timed choice b) origin (names_b near a b) s k → departs_at (timed choice m) origin s k ≡ true
  at-b origin s k w =
      let s0 = w.0 in
      let k0 = w.3 in
      let r = departs-row (timed choice b) (keys-timed choice b keys_b).trips origin (λ row. is_in_place b s0 row.stop_id) k0 w.4 in
      let h = (places-timed choice b places_b).rows_named r.0 r.2 r.1 r.3 in
      ap (departs_at (timed choice m) origin s) w.5
      ∙ departs-b near a b keys_a keys_b few_trips few_services choice named_a named_b origin (λ row. is_in_place m s row.stop_id) k0 (trip-b origin (λ row. is_in_place b s0 row.stop_id) k0 w.4)
      ∙ r.5 (λ row. is_in_place m s (new row.stop_id)) (ap (λ q. is_in_place m q (new r.1.stop_id)) (sym w.2) ∙ place-b s0 r.1.stop_id h r.4)

  at-both : (origin : Origins) (s : List ℕ) (k : Key) → departs_at (timed choice m) origin s k ≡ true → IsImageAt (timed choice a) origin (names_a a b) s k ⊎ IsImageAt (timed choice b) origin (names_b near a b) s k
  at-both origin s k e = elim (side-of near a b keys_a keys_b few_trips few_services choice named_a named_b origin (λ row. is_in_place m s row.stop_id) k e)
      as (λ w. IsImageAt (timed choice a) origin (names_a a b) s k ⊎ IsImageAt (timed choice b) origin (names_b near a b) s k) [
        | inl h ↦
            let d = sym (departs-a near a b keys_a keys_b few_trips few_services choice named_a named_b origin (λ row. is_in_place m s row.stop_id) k h) ∙ e in
            let r = departs-row (timed choice a) (keys-timed choice a keys_a).trips origin (λ row. is_in_place m s row.stop_id) k d in
            let hr = (places-timed choice a places_a).rows_named r.0 r.2 r.1 r.3 in
            let at = sym (place-a s r.1.stop_id hr) ∙ r.4 in
            inl (s, place-named s r.1.stop_id hr at, refl, k, r.5 (λ row. is_in_place a s row.stop_id) at, refl)
        | inr x ↦
            let k0 : Key = record k { trip = x.0 } in
            let p : k ≡ key_with (trip_b near a b) k0 = λ i. record k { trip = sym x.2 i } in
            let d = sym (departs-b near a b keys_a keys_b few_trips few_services choice named_a named_b origin (λ row. is_in_place m s row.stop_id) k0 x.1) ∙ ap (departs_at (timed choice m) origin s) (sym p) ∙ e in
            let r = departs-row (timed choice b) (keys-timed choice b keys_b).trips origin (λ row. is_in_place m s (new row.stop_id)) k0 d in
            let hr = (places-timed choice b places_b).rows_named r.0 r.2 r.1 r.3 in
            let q = place-from-b s r.1.stop_id hr r.4 in
            inr (q.0, q.1, q.2, k0, r.5 (λ row. is_in_place b q.0 row.stop_id) q.3, p)
      ]

  pub has-boards : HasBoards choice near a b
  has-boards origin s from until after k h = (
    λ e.
        let p = and_parts _ (is_above after k) e in
        let q = and_parts (departs_at (timed choice m) origin s k) (is_within from until k.instant) p.0 in
        (at-both origin s k q.0, and_from _ _ q.1 p.1),
    λ w.
        let p = and_parts (is_within from until k.instant) (is_above after k) w.1 in
        let d : departs_at (timed choice m) origin s k ≡ true = elim w.0 as (λ v. departs_at (timed choice m) origin s k ≡ true) [ inl x ↦ at-a origin s k x | inr x ↦ at-b origin s k x ] in
        and_from _ _ (and_from _ _ d p.0) p.1,
  )
