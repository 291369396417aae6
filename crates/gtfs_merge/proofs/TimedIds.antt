-- A feed under a choice of times: its trips by their ids are those of the feed, filled.
use Rattle.std.proofs.Common.{◌≡◌, ◌∙◌, ℕ, List, Some, None, Option, refl, sym, ap, map, bytes_eq, option_map}
use Rattle.std.specs.List.{list_any}
use Rattle.std.proofs.lemmas.Simd.{map-map}
use Rattle.gtfs_field.proofs.ListFacts.{any_mapped}
use Rattle.gtfs_rows.specs.Content.{Content}
use Rattle.gtfs_rows.specs.Rows.{Trip}
use Rattle.gtfs_times.specs.Filling.{timed, timed_trip}
use Rattle.gtfs_times.specs.declared.times.Times.{Times}
use Rattle.gtfs_rows.proofs.Members.{In-map}
use Rattle.gtfs_merge.proofs.FilledNames.{trip-renamed}
use Rattle.gtfs_merge.specs.Renaming.{Names, lists_id, ids}
use Rattle.gtfs_merge.specs.declared.kind.Kind.TheVariants as kind
use Rattle.gtfs_merge.proofs.Lookups.{find-map, holds_at, holds_at-map, look}
use Rattle.gtfs_merge.proofs.Carried.{HasKeys, IsCarried, NamesServices, trip_by, trip_id_of}

module _ (choice : Times) where
  abbrev fill : Trip → Trip
  fill = timed_trip choice

  pub ids-timed : (f : Content) (x : List ℕ) → lists_id (ids kind.Trip (timed choice f)) x ≡ lists_id (ids kind.Trip f) x
  ids-timed f x = ap (list_any (bytes_eq x)) (map-map (λ t. t.trip_id) fill f.trips)

  look-timed : (ts : List Trip) (x : List ℕ) → look trip_id_of (map fill ts) x ≡ option_map fill (look trip_id_of ts x)
  look-timed ts x = find-map (λ t. bytes_eq t.trip_id x) fill ts

  pub keys-timed : (f : Content) → HasKeys f → HasKeys (timed choice f)
  keys-timed f keys = record {
    trips = λ q test. any_mapped (λ t. _) fill f.trips ∙ keys.trips q (λ t. test (fill t)) ∙ sym (holds_at-map fill (look trip_id_of f.trips q) test) ∙ sym (ap (λ o. holds_at o test) (look-timed f.trips q));
    services = keys.services;
  }

  pub named-timed : (f : Content) → NamesServices f → NamesServices (timed choice f)
  named-timed f named t i =
      let r = In-map fill f.trips t i in
      ap (λ (u : Trip). lists_id (ids kind.Service f) u.service_id) (sym r.2) ∙ named r.0 r.1

  renamed-filled : (n : Names) (o : Option Trip) → option_map fill (option_map (trip_by n) o) ≡ option_map (trip_by n) (option_map fill o)
  renamed-filled n None = refl
  renamed-filled n (Some t) = ap Some (trip-renamed choice n.trip n.route n.service n.stop t)

  pub carried-timed : (m f : Content) (n : Names) → IsCarried m f n → IsCarried (timed choice m) (timed choice f) n
  carried-timed m f n carried = record {
    trips = λ x h.
        look-timed m.trips (n.trip x) ∙ ap (option_map fill) (carried.trips x (sym (ids-timed f x) ∙ h))
        ∙ renamed-filled n (look trip_id_of f.trips x) ∙ ap (option_map (trip_by n)) (sym (look-timed f.trips x));
    services = carried.services;
  }

  -- a trip that is found there is one of the feed, filled
  pub look-back : (f : Content) (x : List ℕ) (t : Trip) → look trip_id_of (timed choice f).trips x ≡ Some t → (u : Trip) × (look trip_id_of f.trips x ≡ Some u)
  look-back f x t e = there (look trip_id_of f.trips x) (sym (look-timed f.trips x) ∙ e)
    where
      there : (o : Option Trip) → option_map fill o ≡ Some t → (u : Trip) × (o ≡ Some u)
      there None e = cc
      there (Some u) e = (u, refl)
