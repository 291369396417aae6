-- Parts whose services are trimmed: they stand for the trimmed content, and they make a feed.
use Rattle.std.proofs.Common.{◌≡◌, ◌∙◌, true, List, [], ◌∷◌, refl, sym, ap, subst, map, length}
use Rattle.std.specs.Prelude.{◌&&◌, nat_lt}
use Rattle.std.specs.List.{list_all}
use Rattle.std.proofs.lemmas.List.{length-map}
use Rattle.std.proofs.lemmas.Simd.{map-map}
use Rattle.gtfs_table.specs.FieldOffsets.{parts}
use Rattle.gtfs_days.specs.Cut.{cut_day}
use Rattle.gtfs_days.specs.Service.{is_service_day}
use Rattle.gtfs_days.specs.declared.cut.Cut.{Cut}
use Rattle.gtfs_rows.specs.SoundContent.{IsSound}
use Rattle.gtfs_rows.specs.TrimmedContent.{trimmed, trimmed_by_number, trimmed_parts, trimmed_row}
use Rattle.gtfs_rows.specs.RowsInMemory.{IsSoundParts, content_of_parts, service_of, service_ids, text_of_number, trips_of, trip_of}
use Rattle.gtfs_rows.specs.declared.frequency.Frequency.{Frequency}
use Rattle.gtfs_rows.specs.declared.parts.Parts.{Parts}
use Rattle.gtfs_rows.specs.declared.service.ServiceRow.{ServiceRow}
use Rattle.gtfs_stop_times.specs.declared.stop_row.StopRow.{StopRow}
use Rattle.gtfs_rows.specs.declared.trip.Trip.{Trip}
use Rattle.gtfs_rows.proofs.TrimmedSound.{trimmed-sound}

module _ (c : Cut) (p : Parts) where
  ids-stay : service_ids (trimmed_parts c p) ≡ service_ids p
  ids-stay = map-map (λ (s : ServiceRow). s.service_id) (trimmed_by_number c) p.services

  services-are : map service_of (trimmed_parts c p).services ≡ map (trimmed_row c) (map service_of p.services)
  services-are = map-map service_of (trimmed_by_number c) p.services ∙ sym (map-map (trimmed_row c) service_of p.services)

  trips-are : (ts : List Trip) (rs : List (List StopRow)) (fs : List (List Frequency)) → trips_of (trimmed_parts c p) ts rs fs ≡ trips_of p ts rs fs
  trips-are [] rs fs = refl
  trips-are (t ∷ ts) [] fs = refl
  trips-are (t ∷ ts) (r ∷ rs) [] = refl
  trips-are (t ∷ ts) (r ∷ rs) (f ∷ fs) = λ i. record (trip_of p t r f) { service_id = text_of_number (ids-stay i) t.service_id.0 } ∷ trips-are ts rs fs i

  pub content-trimmed : content_of_parts (trimmed_parts c p) ≡ trimmed c (content_of_parts p)
  content-trimmed = λ i. record (content_of_parts p) {
    services = services-are i;
    trips = trips-are p.trips (parts p.stop_times.starts p.stop_times.rows) (parts p.frequency_starts p.frequencies) i;
  }

  pub sound-parts : is_service_day (cut_day c) ≡ true → IsSoundParts p → IsSoundParts (trimmed_parts c p)
  sound-parts day sound = record {
    names_rows = record {
      stops = sound.names_rows.stops;
      routes = sound.names_rows.routes;
      trips = ap (λ n. list_all (λ (t : Trip). nat_lt t.route_id.0 (length p.routes) && nat_lt t.service_id.0 n) p.trips) (length-map p.services (trimmed_by_number c)) ∙ sound.names_rows.trips;
      stop_rows = sound.names_rows.stop_rows;
      transfers = sound.names_rows.transfers;
    };
    stop_rows = sound.stop_rows;
    frequencies = sound.frequencies;
    content = subst IsSound (sym content-trimmed) (trimmed-sound c day (content_of_parts p) sound.content);
  }
