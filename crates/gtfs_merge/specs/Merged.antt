-- The merged content of two feeds, and what a merge refuses.
use Rattle.std.specs.Prelude.{ℕ, Bool, List, ◌++◌, map, not, bytes_eq, slice_get, Option, option_map}
use Rattle.std.specs.Option.{option_eq}
use Rattle.std.specs.List.{list_any}
use Rattle.gtfs_field.specs.TextOrder.{text_cmp}
use Rattle.gtfs_table.specs.TablesRead.{kept_files}
use Rattle.gtfs_rows.specs.Content.{Content}
use Rattle.gtfs_rows.specs.FileTexts.{is_longer}
use Rattle.gtfs_rows.specs.TransferOrder.{by_key, transfer_key, transfer_key_cmp}
use Rattle.gtfs_rows.specs.Rows.{Agency, ServiceRow, Transfer}
use Rattle.gtfs_merge.specs.Renaming.{Renaming, Nearness, Names, names_a, names_b, stop_with, route_with, trip_with}

-- ---- rows in order

-- rows ascending by an id, the first row of each id staying
abbrev pub by_id : {X : Type 0} → (X → List ℕ) → List X → List X
by_id = by_key text_cmp

-- transfers ascending by their key, the first of each key staying
abbrev pub by_transfer : List Transfer → List Transfer
by_transfer = by_key transfer_key_cmp transfer_key

-- ---- a feed with its ids renamed

abbrev pub agency_with : Renaming → Agency → Agency
agency_with rename row = record row { agency_id = rename row.agency_id }

abbrev pub service_with : Renaming → ServiceRow → ServiceRow
service_with rename row = record row { service_id = rename row.service_id }

abbrev pub transfer_with : Names → Transfer → Transfer
transfer_with n t = record t {
  from_stop_id = option_map n.stop t.from_stop_id;
  to_stop_id = option_map n.stop t.to_stop_id;
  from_route_id = option_map n.route t.from_route_id;
  to_route_id = option_map n.route t.to_route_id;
  from_trip_id = option_map n.trip t.from_trip_id;
  to_trip_id = option_map n.trip t.to_trip_id;
}

abbrev pub renamed : Names → Content → Content
renamed n f = record {
  agencies = map (agency_with n.agency) f.agencies;
  stops = map (stop_with n.stop) f.stops;
  routes = map (route_with n.route n.agency) f.routes;
  services = map (service_with n.service) f.services;
  trips = map (trip_with n.trip n.route n.service n.stop) f.trips;
  transfers = map (transfer_with n) f.transfers;
}

-- ---- the merged content: the rows of A and then those of B, each id and each key once, the first row of each staying

abbrev pub union : Content → Content → Content
union a b = record {
  agencies = by_id (λ r. r.agency_id) (a.agencies ++ b.agencies);
  stops = by_id (λ r. r.stop_id) (a.stops ++ b.stops);
  routes = by_id (λ r. r.route_id) (a.routes ++ b.routes);
  services = by_id (λ r. r.service_id) (a.services ++ b.services);
  trips = by_id (λ r. r.trip_id) (a.trips ++ b.trips);
  transfers = by_transfer (a.transfers ++ b.transfers);
}

abbrev pub merged : Nearness → Content → Content → Content
merged near a b = union (renamed (names_a a b) a) (renamed (names_b near a b) b)

-- ---- what a merge refuses

-- the zone's text, which all agencies of a passing feed share
abbrev pub zone_text : Content → Option (List ℕ)
zone_text f = option_map (λ a. a.agency_timezone) (slice_get f.agencies 0)

abbrev pub zone_texts_differ : Content → Content → Bool
zone_texts_differ a b = not (option_eq bytes_eq (zone_text a) (zone_text b))

-- a written file is longer than the limit
abbrev pub is_too_large : ℕ → Content → Bool
is_too_large limit m = list_any (is_longer m limit) kept_files
