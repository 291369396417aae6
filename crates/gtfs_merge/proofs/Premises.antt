-- What the laws of a merge ask of a feed follows from its soundness.
use Rattle.std.proofs.Common.{◌≡◌, ℕ, true, false, List, [], ◌∷◌, Some, None, Option, refl, sym, ap, ◌∙◌, subst, inl, inr, map, bytes_eq, find, true≢false, eqb-true}
use Rattle.std.specs.Prelude.{◌==◌, not, if◌then◌else◌}
use Rattle.std.specs.List.{list_any}
use Rattle.std.specs.Ordering.{on}
use Rattle.std.proofs.lemmas.Bool.{and_parts, or_cases}
use Rattle.gtfs_field.proofs.ListFacts.{any_mapped as list_any-map}
use Rattle.gtfs_field.specs.TextOrder.{text_cmp}
use Rattle.gtfs_schema.specs.FieldValues.{if_there}
use Rattle.gtfs_field.proofs.TextOrderFacts.{texts_total}
use Rattle.gtfs_schema.proofs.NamedFacts.{text_turned as bytes_flip}
use Rattle.gtfs_rows.specs.Content.{Content}
use Rattle.gtfs_rows.specs.TransferOrder.{Ascends}
use Rattle.gtfs_rows.specs.Rows.{Stop, StopRow, Trip}
use Rattle.gtfs_rows.specs.SoundContent.{has_id as has_row, IsSound, is_sound_trip, is_sound_stop, is_sound_in, is_sound_stop_row, is_stop_of, has_right_parent}
use Rattle.gtfs_rows.proofs.ByKey.{by_key_is}
use Rattle.gtfs_rows.proofs.Held.{text_antisymmetric}
use Rattle.gtfs_rows.proofs.Members.{In, list_all-In}
use Rattle.gtfs_merge.specs.Merged.{by_id}
use Rattle.gtfs_merge.specs.Renaming.{lists_id}
use Rattle.gtfs_merge.proofs.Lookups.{list_any-alike, look, IsKeyed, keyed-by_id}
use Rattle.gtfs_merge.proofs.MergedRows.{has_found, found_id}
use Rattle.gtfs_merge.proofs.Carried.{trip_id_of, service_id_of, HasKeys, NamesServices}
use Rattle.gtfs_merge.proofs.Stops.{stop_id_of, HasPlaces}

-- ascending rows are what they are by their ids
pub by_id-ascending : {X : Type 0} (id : X → List ℕ) (rows : List X) → Ascends (on id text_cmp) rows → by_id id rows ≡ rows
by_id-ascending id rows up = by_key_is text_cmp texts_total id text_antisymmetric rows rows (record { there = λ x i. i; back = λ x i. i }) up

pub keyed-ascending : {X : Type 0} (id : X → List ℕ) (rows : List X) → Ascends (on id text_cmp) rows → IsKeyed id rows
keyed-ascending id rows up = subst (IsKeyed id) (by_id-ascending id rows up) (keyed-by_id id rows)

-- the id of a row is an id of its kind
pub row-id : {X : Type 0} (id : X → List ℕ) (rows : List X) (x : List ℕ) → lists_id (map id rows) x ≡ has_row id rows x
row-id id rows x = list_any-map (bytes_eq x) id rows ∙ list_any-alike _ _ rows (λ r i. bytes_flip x (id r))

pub sound-keys : (f : Content) → IsSound f → HasKeys f
sound-keys f s = record {
  trips = keyed-ascending trip_id_of f.trips s.in_order.trips;
  services = keyed-ascending service_id_of f.services s.in_order.services;
}

pub sound-services : (f : Content) → IsSound f → NamesServices f
sound-services f s t i =
    let p = and_parts _ _ (list_all-In (is_sound_trip f) f.trips s.trips t i) in
    let q = and_parts _ _ p.0 in
    let r = and_parts _ _ q.0 in
    row-id (λ s. s.service_id) f.services t.service_id ∙ r.1

-- a stop of some type is there
pub of_type-found : (f : Content) (types : List ℕ) (x : List ℕ) → is_stop_of f types x ≡ true
    → (s : Stop) × (look stop_id_of f.stops x ≡ Some s) × (list_any (λ t. t == s.location_type) types ≡ true)
of_type-found f types x e = by (find (λ s. bytes_eq s.stop_id x) f.stops) refl
  where
    by : (o : Option Stop) → find (λ s. bytes_eq s.stop_id x) f.stops ≡ o → (s : Stop) × (look stop_id_of f.stops x ≡ Some s) × (list_any (λ t. t == s.location_type) types ≡ true)
    by None n = absurd (true≢false (sym e ∙ ap (λ o. if_there o (λ s. list_any (λ t. t == s.location_type) types)) n))
    by (Some s) n = (s, n, sym (ap (λ o. if_there o (λ s. list_any (λ t. t == s.location_type) types)) n) ∙ e)

pub sound-row : (f : Content) → IsSound f → (t : Trip) → In t f.trips → (row : StopRow) → In row t.stop_rows → is_sound_stop_row f row ≡ true
sound-row f s t i row j =
    let p = and_parts _ _ (list_all-In (is_sound_trip f) f.trips s.trips t i) in
    let q = and_parts _ _ p.0 in
    let r = and_parts _ _ (list_all-In (is_sound_in f t.stop_rows) t.stop_rows q.1 row j) in
    (and_parts _ _ r.0).0

sound-row_stop : (f : Content) → IsSound f → (t : Trip) → In t f.trips → (row : StopRow) → In row t.stop_rows → is_stop_of f (0 ∷ []) row.stop_id ≡ true
sound-row_stop f s t i row j = (and_parts _ _ (sound-row f s t i row j)).0

pub sound-parent : (f : Content) → IsSound f → (s : Stop) → In s f.stops → has_right_parent f s.location_type s.parent_station ≡ true
sound-parent f h s i = (and_parts _ _ (list_all-In (is_sound_stop f) f.stops h.stops s i)).1

-- a parent is there, of type 0 where the stop is a boarding area, else of type 1
pub right-parent : (f : Content) (type : ℕ) (p : List ℕ) → has_right_parent f type (Some p) ≡ true → is_stop_of f ((if type == 4 then 0 else 1) ∷ []) p ≡ true
right-parent f type p e = (and_parts (not (type == 1)) (is_stop_of f ((if type == 4 then 0 else 1) ∷ []) p) e).1

station-type : (x : ℕ) → list_any (λ t. t == x) (1 ∷ []) ≡ true → x ≡ 1
station-type x e = elim (or_cases (1 == x) false e) as (λ w. x ≡ 1) [
  | inl h ↦ sym (eqb-true 1 x h)
  | inr h ↦ absurd (true≢false (sym h))
]

no-parent : (f : Content) (o : Option (List ℕ)) → has_right_parent f 1 o ≡ true → o ≡ None
no-parent f None e = refl
no-parent f (Some p) e = absurd (true≢false (sym e))

pub sound-places : (f : Content) → IsSound f → HasPlaces f
sound-places f h = record {
  keyed = keyed-ascending stop_id_of f.stops h.in_order.stops;
  rows_named = λ t i row j. let w = of_type-found f (0 ∷ []) row.stop_id (sound-row_stop f h t i row j) in has_found stop_id_of f.stops row.stop_id w.0 w.1;
  parents_named = λ s i p e.
      let right : has_right_parent f s.location_type (Some p) ≡ true = ap (has_right_parent f s.location_type) (sym e) ∙ sound-parent f h s i in
      let w = of_type-found f ((if s.location_type == 4 then 0 else 1) ∷ []) p (right-parent f s.location_type p right) in
      has_found stop_id_of f.stops p w.0 w.1;
  stations = λ s i plain p q e l.
      let type : s.location_type ≡ 0 = eqb-true s.location_type 0 plain in
      let right : has_right_parent f 0 (Some p) ≡ true = sym (λ j. has_right_parent f (type j) (e j)) ∙ sound-parent f h s i in
      let w = of_type-found f (1 ∷ []) p (right-parent f 0 p right) in
      let same : w.0 ≡ q = ap (λ o. some_or o q) (sym w.1 ∙ l) in
      let station : q.location_type ≡ 1 = ap (λ v. v.location_type) (sym same) ∙ station-type w.0.location_type w.2 in
      let there : In q f.stops = (found_id stop_id_of f.stops p q l).0 in
      no-parent f q.parent_station (sym (λ j. has_right_parent f (station j) q.parent_station) ∙ sound-parent f h q there);
}
  where
    some_or : Option Stop → Stop → Stop
    some_or None d = d
    some_or (Some x) d = x
