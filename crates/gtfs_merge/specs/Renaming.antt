-- Joining and renaming the ids of two feeds.
-- The rules are this project's; which columns name ids is read off the GTFS Schedule Reference (foreign ids).
use Rattle.std.specs.Prelude.{ℕ, zero, suc, ◌+◌, ◌==◌, ◌&&◌, ◌||◌, not, Bool, false, if◌then◌else◌, List, [], ◌∷◌, ◌++◌, length, map, filter, bytes_eq, Option, Some, None, option_map, option_and_then, unwrap_or, codes, find}
use Rattle.std.specs.List.{list_any, range_with_len}
use Rattle.std.specs.Fmt.{decimal}
use Rattle.gtfs_rows.specs.Content.{Content}
use Rattle.gtfs_merge.specs.SameRows.{same_agency, same_stop, same_route, same_service, same_trip}
use Rattle.gtfs_merge.specs.declared.kind.Kind.{Kind}
use Rattle.gtfs_merge.specs.declared.kind.Kind.TheVariants as kind
use Rattle.gtfs_rows.specs.Rows.{Stop, Route, StopRow, Trip}

-- a new id for each id of a kind
abbrev pub Renaming : Type 0
Renaming = List ℕ → List ℕ

abbrev pub kept_as_is : Renaming
kept_as_is x = x

abbrev pub lists_id : List (List ℕ) → List ℕ → Bool
lists_id ids x = list_any (bytes_eq x) ids

-- ---- new ids

-- x_merged_n
abbrev pub merged_id : List ℕ → ℕ → List ℕ
merged_id base n = base ++ codes "_merged_" ++ decimal n

-- the least n from 1 for which the id is not taken
abbrev pub free_number : List (List ℕ) → List ℕ → ℕ
free_number taken base = unwrap_or (find (λ n. not (lists_id taken (merged_id base n))) (range_with_len 1 (length taken + 1))) 0

abbrev pub free_id : List (List ℕ) → List ℕ → List ℕ
free_id taken base = merged_id base (free_number taken base)

-- an id of B stays where A lacks it or where it is joined; else it gets the first free id
abbrev pub renamed_b : List (List ℕ) → List (List ℕ) → (List ℕ → Bool) → Renaming
renamed_b ids_a ids_b is_joined x = if not (lists_id ids_a x) || is_joined x then x else free_id (ids_a ++ ids_b) x

-- an id is joined where both feeds have a row with it, and the rows are the same
abbrev pub joined_by : {X : Type 0} → (X → List ℕ) → (X → X → Bool) → List X → List X → List ℕ → Bool
joined_by id same rows_a rows_b x =
    list_any (λ row. bytes_eq (id row) x && list_any (λ other. bytes_eq (id other) x && same row other) rows_b) rows_a

-- ---- the ids of a kind

abbrev pub ids : Kind → Content → List (List ℕ)
ids kind.Agency f = map (λ a. a.agency_id) f.agencies
ids kind.Stop f = map (λ s. s.stop_id) f.stops
ids kind.Route f = map (λ r. r.route_id) f.routes
ids kind.Service f = map (λ s. s.service_id) f.services
ids kind.Trip f = map (λ t. t.trip_id) f.trips

-- ---- agencies name nothing; an empty id that is not joined gets a name on both sides

abbrev pub joined_agency : Content → Content → List ℕ → Bool
joined_agency a b = joined_by (λ r. r.agency_id) same_agency a.agencies b.agencies

abbrev pub agency_a : Content → Content → Renaming
agency_a a b x = if (length x == 0) && not (joined_agency a b x) then free_id (ids kind.Agency a ++ ids kind.Agency b) (codes "agency") else x

abbrev pub agency_b : Content → Content → Renaming
agency_b a b x =
    let taken = ids kind.Agency a ++ ids kind.Agency b in
    if (length x == 0) && not (joined_agency a b x)
    then free_id (if lists_id (ids kind.Agency a) [] then taken ++ agency_a a b [] ∷ [] else taken) (codes "agency")
    else renamed_b (ids kind.Agency a) (ids kind.Agency b) (joined_agency a b) x

-- ---- stops name their parents

abbrev pub stop_with : Renaming → Stop → Stop
stop_with rename s = record s { stop_id = rename s.stop_id; parent_station = option_map rename s.parent_station }

-- whether a stop of B, its parent renamed, is near a stop of A; without the option none is
abbrev pub Nearness : Type 0
Nearness = Renaming → Stop → Stop → Bool

abbrev pub never_near : Nearness
never_near rename y x = false

-- once parents are renamed so: the joined stops, and the least stop of A that a stop of B is near, by its bytes, as
-- the stops of a content stand
abbrev pub joined_stop_under : Renaming → Content → Content → List ℕ → Bool
joined_stop_under rename a b = joined_by (λ s. s.stop_id) (λ row other. same_stop row (stop_with rename other)) a.stops b.stops

abbrev pub near_stop_under : Nearness → Renaming → Content → Content → List ℕ → Option (List ℕ)
near_stop_under near rename a b x = option_and_then (λ y. option_map (λ s. s.stop_id) (find (near rename y) a.stops)) (find (λ y. bytes_eq y.stop_id x) b.stops)

-- a joined stop keeps its id, a near one gets the id of A's stop, and every other one goes by the rule of all kinds
abbrev pub stop_under : Nearness → Renaming → Content → Content → Renaming
stop_under near rename a b x =
    if joined_stop_under rename a b x then x
    else unwrap_or (near_stop_under near rename a b x) (renamed_b (ids kind.Stop a) (ids kind.Stop b) (joined_stop_under rename a b) x)

-- what n steps of parents decide: a stop without a parent needs one step, one with a station two, a boarding area three
abbrev pub stop_within : Nearness → ℕ → Content → Content → Renaming
stop_within near zero a b x = x
stop_within near (suc n) a b x = stop_under near (stop_within near n a b) a b x

abbrev pub stop_b : Nearness → Content → Content → Renaming
stop_b near a b x = stop_within near 3 a b x

abbrev pub joined_stop : Nearness → Content → Content → List ℕ → Bool
joined_stop near a b x = joined_stop_under (stop_b near a b) a b x

-- ---- routes name agencies

abbrev pub route_with : Renaming → Renaming → Route → Route
route_with rename agency r = record r { route_id = rename r.route_id; agency_id = agency r.agency_id }

abbrev pub joined_route : Content → Content → List ℕ → Bool
joined_route a b = joined_by (λ r. r.route_id)
    (λ row other. same_route (route_with kept_as_is (agency_a a b) row) (route_with kept_as_is (agency_b a b) other)) a.routes b.routes

abbrev pub route_b : Content → Content → Renaming
route_b a b = renamed_b (ids kind.Route a) (ids kind.Route b) (joined_route a b)

-- ---- services name nothing

abbrev pub joined_service : Content → Content → List ℕ → Bool
joined_service a b = joined_by (λ s. s.service_id) (λ row other. same_service row.service other.service) a.services b.services

abbrev pub service_b : Content → Content → Renaming
service_b a b = renamed_b (ids kind.Service a) (ids kind.Service b) (joined_service a b)

-- ---- trips name routes, services and stops

abbrev pub stop_row_with : Renaming → StopRow → StopRow
stop_row_with stop r = record r { stop_id = stop r.stop_id }

abbrev pub trip_with : Renaming → Renaming → Renaming → Renaming → Trip → Trip
trip_with rename route service stop t = record t {
  trip_id = rename t.trip_id;
  route_id = route t.route_id;
  service_id = service t.service_id;
  stop_rows = map (stop_row_with stop) t.stop_rows;
}

abbrev pub joined_trip : Nearness → Content → Content → List ℕ → Bool
joined_trip near a b = joined_by (λ t. t.trip_id)
    (λ row other. same_trip row (trip_with kept_as_is (route_b a b) (service_b a b) (stop_b near a b) other)) a.trips b.trips

abbrev pub trip_b : Nearness → Content → Content → Renaming
trip_b near a b = renamed_b (ids kind.Trip a) (ids kind.Trip b) (joined_trip near a b)

-- ---- all names of a side

pub record Names : Type 0 where
  pub agency : Renaming
  pub stop : Renaming
  pub route : Renaming
  pub service : Renaming
  pub trip : Renaming

abbrev pub names_a : Content → Content → Names
names_a a b = record { agency = agency_a a b; stop = kept_as_is; route = kept_as_is; service = kept_as_is; trip = kept_as_is }

abbrev pub names_b : Nearness → Content → Content → Names
names_b near a b = record { agency = agency_b a b; stop = stop_b near a b; route = route_b a b; service = service_b a b; trip = trip_b near a b }

abbrev pub renaming : Names → Kind → Renaming
renaming n kind.Agency = n.agency
renaming n kind.Stop = n.stop
renaming n kind.Route = n.route
renaming n kind.Service = n.service
renaming n kind.Trip = n.trip

abbrev pub is_joined : Nearness → Kind → Content → Content → List ℕ → Bool
is_joined near kind.Agency a b = joined_agency a b
is_joined near kind.Stop a b = joined_stop near a b
is_joined near kind.Route a b = joined_route a b
is_joined near kind.Service a b = joined_service a b
is_joined near kind.Trip a b = joined_trip near a b

-- the joined ids of a kind by their bytes, as the ids of a content stand
abbrev pub joined_ids : Nearness → Kind → Content → Content → List (List ℕ)
joined_ids near k a b = filter (is_joined near k a b) (ids k a)

-- what an id of a feed became, nothing where the feed lacks it
abbrev pub name_of_id : Names → Kind → Content → List ℕ → Option (List ℕ)
name_of_id n k f x = if lists_id (ids k f) x then Some (renaming n k x) else None
