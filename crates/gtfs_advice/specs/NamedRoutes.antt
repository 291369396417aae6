-- Routes by their agency, type and names, and those that stand behind one with the same.
use Rattle.std.specs.Prelude.{◌≡◌, ◌<◌, ℕ, List, drop, if◌then◌else◌, length, slice_index_or, Option, Some, None, option_map}
use Rattle.std.specs.List.{zip}
use Rattle.std.specs.Option.{option_cmp}
use Rattle.std.specs.Ordering.{is_eq, nat_cmp, ordering_then}
use Rattle.std.specs.declared.cmp.Ordering.{Ordering}
use Rattle.gtfs_field.specs.TextOrder.{text_cmp}
use Rattle.gtfs_rows.specs.declared.route.Route.{Route}
use Rattle.gtfs_advice.specs.declared.named_routes.NamedRoute.{NamedRoute}

-- the route of a number, with its names
pub record IsNamed (n : ℕ) (r : Route) (x : NamedRoute) : Type 0 where
  pub agency : x.agency ≡ r.agency_id
  pub route_type : x.route_type ≡ r.route_type
  pub short_name : option_map (λ t. t.now) x.short_name ≡ r.route_short_name
  pub long_name : option_map (λ t. t.now) x.long_name ≡ r.route_long_name
  pub number : x.number ≡ n

-- the routes by their numbers
pub record AreNamed (rs : List Route) (xs : List NamedRoute) : Type 0 where
  pub count : length xs ≡ length rs
  pub each : (k : ℕ) (d : Route) (e : NamedRoute) → k < length rs → IsNamed k (slice_index_or rs k d) (slice_index_or xs k e)

abbrev pub name_cmp : NamedRoute → NamedRoute → Ordering
name_cmp x y = ordering_then (ordering_then (ordering_then (nat_cmp x.agency.0 y.agency.0) (nat_cmp x.route_type y.route_type))
    (option_cmp (λ a b. text_cmp a.now b.now) x.short_name y.short_name)) (option_cmp (λ a b. text_cmp a.now b.now) x.long_name y.long_name)

-- routes with the same names by their numbers
abbrev pub listed_cmp : NamedRoute → NamedRoute → Ordering
listed_cmp x y = ordering_then (name_cmp x y) (nat_cmp x.number y.number)

-- each with the next one
abbrev pub neighbours : List NamedRoute → List (NamedRoute × NamedRoute)
neighbours xs = zip xs (drop 1 xs)

-- the number of the second, if it has the names of the first
abbrev pub repeated : NamedRoute × NamedRoute → Option ℕ
repeated w = if is_eq (name_cmp w.0 w.1) then Some w.1.number else None
