-- Parts whose content is in order have their rows in order.
use Rattle.std.proofs.Common.{◌≡◌, ◌∙◌, ℕ, List, [], ◌∷◌, length, map, refl, ap, subst, arith}
use Rattle.std.specs.List.{AllPairs}
use Rattle.std.specs.Ordering.{on}
use Rattle.std.specs.declared.cmp.Ordering.TheVariants.{Less}
use Rattle.std.proofs.lemmas.Simd.{map-map}
use Rattle.gtfs_field.proofs.ListFacts.{pairs-from_map}
use Rattle.gtfs_field.specs.TextOrder.{text_cmp}
use Rattle.gtfs_table.specs.FieldOffsets.{parts}
use Rattle.gtfs_table.proofs.PartFacts.{length-parts}
use Rattle.gtfs_rows.specs.declared.frequency.Frequency.{Frequency}
use Rattle.gtfs_rows.specs.declared.parts.Parts.{Parts}
use Rattle.gtfs_stop_times.specs.declared.stop_row.StopRow.{StopRow}
use Rattle.gtfs_rows.specs.declared.trip.Trip.{Trip}
use Rattle.gtfs_rows.specs.TransferOrder.{Ascends}
use Rattle.gtfs_rows.specs.RowsInMemory.{IsSoundParts, content_of_parts, agency_of, stop_of, route_of, service_of, trips_of}
use Rattle.gtfs_rows.proofs.SameElements.{pairs-map}

-- rows with the same ids are in the same order
same_order : {X Y : Type 0} (f : X → List ℕ) (g : Y → List ℕ) (xs : List X) (ys : List Y) → map f xs ≡ map g ys → Ascends (on f text_cmp) xs → Ascends (on g text_cmp) ys
same_order f g xs ys same up =
    pairs-from_map g (λ a b. text_cmp a b ≡ Less) ys (subst (AllPairs (λ a b. text_cmp a b ≡ Less)) same (pairs-map f (λ a b. text_cmp a b ≡ Less) xs up))

pub trip_ids-kept : (p : Parts) (ts : List Trip) (rs : List (List StopRow)) (fs : List (List Frequency)) → length rs ≡ length ts → length fs ≡ length ts
    → map (λ t. t.trip_id) (trips_of p ts rs fs) ≡ map (λ t. t.trip_id) ts
trip_ids-kept p [] rs fs r f = refl
trip_ids-kept p (t ∷ ts) [] fs r f = absurd (omega (arith, r))
trip_ids-kept p (t ∷ ts) (x ∷ rs) [] r f = absurd (omega (arith, f))
trip_ids-kept p (t ∷ ts) (x ∷ rs) (y ∷ fs) r f = ap (λ ids. t.trip_id ∷ ids) (trip_ids-kept p ts rs fs (omega (arith, r)) (omega (arith, f)))

-- the rows of each kind ascend by their ids
pub record AreInOrder (p : Parts) : Type 0 where
  pub agencies : Ascends (on (λ a. a.agency_id) text_cmp) p.agencies
  pub stops : Ascends (on (λ s. s.stop_id) text_cmp) p.stops
  pub routes : Ascends (on (λ r. r.route_id) text_cmp) p.routes
  pub services : Ascends (on (λ s. s.service_id) text_cmp) p.services
  pub trips : Ascends (on (λ t. t.trip_id) text_cmp) p.trips

pub in_order : (p : Parts) → IsSoundParts p → AreInOrder p
in_order p sound =
    let c = content_of_parts p in
    let order = sound.content.in_order in
    record {
      agencies = same_order (λ a. a.agency_id) (λ a. a.agency_id) c.agencies p.agencies (map-map (λ a. a.agency_id) agency_of p.agencies) order.agencies;
      stops = same_order (λ s. s.stop_id) (λ s. s.stop_id) c.stops p.stops (map-map (λ s. s.stop_id) (stop_of p) p.stops) order.stops;
      routes = same_order (λ r. r.route_id) (λ r. r.route_id) c.routes p.routes (map-map (λ r. r.route_id) (route_of p) p.routes) order.routes;
      services = same_order (λ s. s.service_id) (λ s. s.service_id) c.services p.services (map-map (λ s. s.service_id) service_of p.services) order.services;
      trips = same_order (λ t. t.trip_id) (λ t. t.trip_id) c.trips p.trips
          (trip_ids-kept p p.trips (parts p.stop_times.starts p.stop_times.rows) (parts p.frequency_starts p.frequencies)
          (length-parts p.stop_times.starts p.stop_times.rows ∙ sound.stop_rows.0) (length-parts p.frequency_starts p.frequencies ∙ sound.frequencies.0)) order.trips;
    }
