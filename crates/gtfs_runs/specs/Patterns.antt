-- The patterns of a route: its trips by direction and by the stops of their rows.
-- GTFS Schedule Reference, trips.txt (direction_id) and stop_times.txt. Stops and trips are numbered by the bytes of their ids.
use Rattle.std.specs.Prelude.{◌≡◌, ℕ, ◌==◌, ◌&&◌, not, Bool, true, List, [], ◌∷◌, length, map, filter, slice_get, Option, option_map, option_and_then, unwrap_or}
use Rattle.std.specs.List.{flat_map, list_all, range_with_len}
use Rattle.std.specs.List.Sorted.{IsPermutation, IsSorted}
use Rattle.std.specs.Option.{option_cmp, option_eq}
use Rattle.std.specs.declared.cmp.Ordering.{Ordering}
use Rattle.std.specs.Ordering.{nat_cmp, on, then_cmp}
use Rattle.std.specs.Cmp.Lexicographic.{slice_cmp, pointwise}
use Rattle.gtfs_table.specs.FieldOffsets.{parts}
use Rattle.gtfs_schema.specs.FieldValues.{if_there}
use Rattle.gtfs_rows.specs.RowChoices.{direction_code}
use Rattle.gtfs_stop_times.specs.declared.numbers.StopNo.{StopNo}
use Rattle.gtfs_rows.specs.declared.numbers.TripNo.{TripNo}
use Rattle.gtfs_rows.specs.declared.parts.Parts.{Parts}
use Rattle.gtfs_stop_times.specs.declared.stop_row.StopRow.{StopRow}
use Rattle.gtfs_runs.specs.declared.pattern.Headed.{Headed}
use Rattle.gtfs_runs.specs.declared.pattern.Pattern.{Pattern}

-- a direction, none where trips have none, and the stops of their rows
pub record Heading : Type 0 where
  pub direction : Option ℕ
  pub stops : List StopNo

-- a trip under its heading
pub record Entry : Type 0 where
  pub heading : Heading
  pub trip : TripNo

-- what a row of the code's list stands for
abbrev pub entry_value : Headed → Entry
entry_value t = record { heading = record { direction = t.direction; stops = t.stops.items }; trip = t.trip }

-- ---- the trips of a route

abbrev pub rows_of_number : Parts → ℕ → List StopRow
rows_of_number p n = unwrap_or (slice_get (parts p.stop_times.starts p.stop_times.rows) n) []

-- the trip of this number is one of the route, and has a stop row
abbrev pub is_of_route : Parts → ℕ → ℕ → Bool
is_of_route p route n = if_there (slice_get p.trips n) (λ t. t.route_id.0 == route) && not (length (rows_of_number p n) == 0)

abbrev pub direction_of_trip : Parts → ℕ → Option ℕ
direction_of_trip p n = option_and_then (λ t. option_map direction_code t.direction_id) (slice_get p.trips n)

abbrev pub entry_of : Parts → ℕ → Entry
entry_of p n = record {
  heading = record { direction = direction_of_trip p n; stops = map (λ row. row.stop_id) (rows_of_number p n) };
  trip = record { 0 = n };
}

-- the trips of the route that have a stop row, by their numbers
abbrev pub entries_of : Parts → ℕ → List Entry
entries_of p route = map (entry_of p) (filter (is_of_route p route) (range_with_len 0 (length p.trips)))

-- ---- order: no direction before 0, and 0 before 1; then the stops like the letters of words; then the trip

abbrev pub stops_cmp : List StopNo → List StopNo → Ordering
stops_cmp = slice_cmp (on (λ s. s.0) nat_cmp)

abbrev pub entry_cmp : Entry → Entry → Ordering
entry_cmp = then_cmp (on (λ e. e.heading.direction) (option_cmp nat_cmp))
    (then_cmp (on (λ e. e.heading.stops) stops_cmp)
    (on (λ e. e.trip.0) nat_cmp))

-- ---- patterns

abbrev pub heading_of : Pattern → Heading
heading_of x = record { direction = x.direction; stops = x.stops }

-- the trips of a pattern, each under the pattern's heading
abbrev pub entries_under : Pattern → List Entry
entries_under x = map (λ t. record { heading = heading_of x; trip = t }) x.trips

abbrev pub has_a_trip : Pattern → Bool
has_a_trip x = not (length x.trips == 0)

abbrev pub is_same_heading : Heading → Heading → Bool
is_same_heading x y = option_eq (λ a b. a == b) x.direction y.direction && pointwise (λ s t. s.0 == t.0) x.stops y.stops

-- no heading is the next one's
abbrev pub headings_change : List Heading → Bool
headings_change [] = true
headings_change (x ∷ []) = true
headings_change (x ∷ y ∷ xs) = not (is_same_heading x y) && headings_change (y ∷ xs)

-- each pattern has a trip, and neighbours have different headings
pub record AreGroups (xs : List Pattern) : Type 0 where
  pub filled : list_all has_a_trip xs ≡ true
  pub apart : headings_change (map heading_of xs) ≡ true

-- the patterns of a route: each of its trips that has a stop row stands once, under its heading, and all in order
pub record ArePatterns (p : Parts) (route : ℕ) (xs : List Pattern) : Type 0 where
  pub each_once : IsPermutation (entries_of p route) (flat_map entries_under xs)
  pub in_order : IsSorted entry_cmp (flat_map entries_under xs)
  pub groups : AreGroups xs
