-- Rows of two feeds that are joined, kind by kind.
use Rattle.std.proofs.Common.{◌≡◌, ◌<◌, ◌+◌, ◌^◌, ℕ, Bool, List, [], Some, None, Option, refl, sym, ap, ◌∙◌, length, map, get_or, bytes_eq, option_map, arith}
use Rattle.std.specs.Prelude.{if◌then◌else◌}
use Rattle.std.specs.List.{slice_get, position}
use Rattle.std.proofs.lemmas.List.{get_or-map}
use Rattle.std.proofs.lemmas.Option.{get_or_from_slice_get, slice_get_within}
use Rattle.std.proofs.lemmas.Simd.{map-map}
use Rattle.gtfs_field.proofs.ListFacts.{mapped_at as row-map}
use Rattle.gtfs_table.specs.FieldOffsets.{parts}
use Rattle.gtfs_table.proofs.PartFacts.{length-parts}
use Rattle.gtfs_days.specs.Service.{ServiceDates}
use Rattle.gtfs_rows.specs.declared.agency.Agency.{Agency}
use Rattle.gtfs_rows.specs.declared.parts.Parts.{Parts}
use Rattle.gtfs_rows.specs.RowsInMemory.{IsSoundParts, content_of_parts, agency_of, route_of, service_of, stop_of, agency_ids, service_ids}
use Rattle.gtfs_rows.proofs.SoundOrder.{trip_ids-kept}
use Rattle.gtfs_merge.specs.FeedIds.{known_ids}
use Rattle.gtfs_merge.specs.JoinedNumbers.{joined_number}
use Rattle.gtfs_merge.specs.Renaming.{ids}
use Rattle.gtfs_merge.specs.SameRows.{same_agency, same_service}
use Rattle.gtfs_merge.specs.declared.kind.Kind.{Kind}
use Rattle.gtfs_merge.specs.declared.kind.Kind.TheVariants as kind
use Rattle.gtfs_merge.specs.declared.sides.Sides.{Sides}
use Rattle.gtfs_merge.proofs.JoinedRows.{number-same}

-- the id of a row by its number
pub id-at : {X : Type 0} (id : X → List ℕ) (xs : List X) (k : ℕ) (x : X) → slice_get xs k ≡ Some x → get_or (map id xs) k [] ≡ id x
id-at id xs k x at = get_or-map id xs k x [] (slice_get_within xs k x at) ∙ ap id (get_or_from_slice_get xs k x x at)

-- ---- ids of the content

pub ids-known : (k : Kind) (p : Parts) → IsSoundParts p → ids k (content_of_parts p) ≡ known_ids k p
ids-known kind.Agency p sound = map-map (λ a. a.agency_id) agency_of p.agencies
ids-known kind.Stop p sound = map-map (λ s. s.stop_id) (stop_of p) p.stops
ids-known kind.Route p sound = map-map (λ r. r.route_id) (route_of p) p.routes
ids-known kind.Service p sound = map-map (λ s. s.service_id) service_of p.services
ids-known kind.Trip p sound = trip_ids-kept p p.trips (parts p.stop_times.starts p.stop_times.rows) (parts p.frequency_starts p.frequencies)
    (length-parts p.stop_times.starts p.stop_times.rows ∙ sound.stop_rows.0) (length-parts p.frequency_starts p.frequencies ∙ sound.frequencies.0)

pub few-known : (k : Kind) (sides : Sides) → IsSoundParts sides.a.now → IsSoundParts sides.b.now → length (known_ids k sides.a.now) < 2 ^ 64 → length (known_ids k sides.b.now) < 2 ^ 64 → length (ids k (content_of_parts sides.a.now)) + length (ids k (content_of_parts sides.b.now)) < 2 ^ 65
few-known k sides sound_a sound_b small_p small_q =
    let e : length (ids k (content_of_parts sides.a.now)) ≡ length (known_ids k sides.a.now) = ap length (ids-known k sides.a.now sound_a) in
    let f : length (ids k (content_of_parts sides.b.now)) ≡ length (known_ids k sides.b.now) = ap length (ids-known k sides.b.now sound_b) in
    omega arith

-- ---- rows

module _ (sides : Sides) (sound_a : IsSoundParts sides.a.now) (sound_b : IsSoundParts sides.b.now) where
  pub agency-joined : (k n : ℕ) (y x : Agency) (same : Bool) → slice_get sides.b.now.agencies k ≡ Some y → Some n ≡ position (bytes_eq y.agency_id) (agency_ids sides.a.now) → slice_get sides.a.now.agencies n ≡ Some x
      → same ≡ same_agency (agency_of x) (agency_of y) → joined_number kind.Agency sides (get_or (agency_ids sides.b.now) k []) ≡ (if same then Some n else None)
  agency-joined k n y x same at numbered found is =
      ap (joined_number kind.Agency sides) (id-at (λ a. a.agency_id) sides.b.now.agencies k y at)
      ∙ number-same (λ a. a.agency_id) same_agency (content_of_parts sides.a.now).agencies (content_of_parts sides.b.now).agencies sound_a.content.in_order.agencies sound_b.content.in_order.agencies
      k (agency_of y) (row-map agency_of sides.b.now.agencies k y at) (agency_ids sides.a.now) (ids-known kind.Agency sides.a.now sound_a) n (agency_of x) (sym numbered) (row-map agency_of sides.a.now.agencies n x found)
      ∙ ap (λ b. if b then Some n else None) (sym is)

  held : {X Y : Type 0} (f : X → Y) (o : Option X) (v : Y) → option_map f o ≡ Some v → (x : X) × (o ≡ Some x) × (f x ≡ v)
  held f None v e = cc
  held f (Some x) v e = (x, refl, cc)

  pub service-joined : (k n : ℕ) (t : List ℕ) (v u : ServiceDates) (same : Bool) → option_map (λ s. s.service) (slice_get sides.b.now.services k) ≡ Some v → get_or (service_ids sides.b.now) k [] ≡ t
      → Some n ≡ position (bytes_eq t) (service_ids sides.a.now) → option_map (λ s. s.service) (slice_get sides.a.now.services n) ≡ Some u
      → same ≡ same_service u v → joined_number kind.Service sides (get_or (service_ids sides.b.now) k []) ≡ (if same then Some n else None)
  service-joined k n t v u same at named numbered found is =
      let y = held (λ s. s.service) (slice_get sides.b.now.services k) v at in
      let x = held (λ s. s.service) (slice_get sides.a.now.services n) u found in
      let named_y : y.0.service_id ≡ t = sym (id-at (λ s. s.service_id) sides.b.now.services k y.0 y.1) ∙ named in
      ap (joined_number kind.Service sides) (named ∙ sym named_y)
      ∙ number-same (λ s. s.service_id) (λ row other. same_service row.service other.service) (content_of_parts sides.a.now).services (content_of_parts sides.b.now).services sound_a.content.in_order.services sound_b.content.in_order.services
      k (service_of y.0) (row-map service_of sides.b.now.services k y.0 y.1) (service_ids sides.a.now) (ids-known kind.Service sides.a.now sound_a) n (service_of x.0)
      (ap (λ w. position (bytes_eq w) (service_ids sides.a.now)) named_y ∙ sym numbered) (row-map service_of sides.a.now.services n x.0 x.1)
      ∙ ap (λ b. if b then Some n else None) ((λ i. same_service (x.2 i) (y.2 i)) ∙ sym is)
