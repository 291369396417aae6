-- The stops and platforms of a feed that have a parent, by the numbers of both, and what an index keeps.
-- GTFS Schedule Reference, stops.txt: location_type and parent_station.
use Rattle.std.specs.Prelude.{◌≡◌, ℕ, ◌==◌, ◌&&◌, not, All, Bool, nat_lt, List, cond, option_map, slice_get}
use Rattle.std.specs.List.Sorted.{IsSorted}
use Rattle.std.specs.Ordering.{nat_cmp, on, then_cmp}
use Rattle.std.specs.declared.cmp.Ordering.{Ordering}
use Rattle.gtfs_schema.specs.FieldValues.{if_there}
use Rattle.gtfs_rows.specs.RowChoices.{location_code}
use Rattle.gtfs_rows.specs.declared.parts.Parts.{Parts}
use Rattle.gtfs_times.specs.TimedRows.{timed_parts}
use Rattle.gtfs_times.specs.declared.times.Times.{Times}
use Rattle.gtfs_runs.specs.Tallies.{tally}
use Rattle.gtfs_runs.specs.StopIndex.{AreDepartureRows}
use Rattle.gtfs_runs.specs.declared.departure_row.DepartureRow.{DepartureRow}
use Rattle.gtfs_runs.specs.declared.stop_index.children.Child.{Child}
use Rattle.gtfs_runs.specs.declared.stop_index.indexed_trips.IndexedTrip.{IndexedTrip}
use Rattle.gtfs_runs.specs.steps.NotedRows.{IsNoted}
use Rattle.gtfs_runs.specs.steps.IndexedTrips.{IsRanked}

-- the second is a stop or platform, other than the first, which is its parent
abbrev pub is_child : Parts → ℕ → ℕ → Bool
is_child p s n = if_there (slice_get p.stops n) (λ row. (location_code row.location_type == 0) && not (n == s)
    && if_there (option_map (λ m. m.0) row.parent_station) (λ m. s == m))

-- by parent, and then by their own numbers
abbrev pub child_cmp : Child → Child → Ordering
child_cmp = then_cmp (on (λ x. x.parent) nat_cmp) (on (λ x. x.stop) nat_cmp)

-- that of this parent and this number
abbrev pub is_pair : ℕ → ℕ → Child → Bool
is_pair s n x = (n == x.stop) && (x.parent == s)

-- all of a feed, each once, by parent
pub record AreChildren (p : Parts) (xs : List Child) : Type 0 where
  pub in_order : IsSorted child_cmp xs
  pub told : (s n : ℕ) → tally (is_pair s n) xs ≡ cond (is_child p s n) 1 0

-- how many have a parent with a lower number
abbrev pub below_parent : List Child → ℕ → ℕ
below_parent xs s = tally (λ x. nat_lt x.parent s) xs

-- what an index of a feed keeps
pub record IsIndex (times : Times) (p : Parts) (index : List (List DepartureRow)) (xs : List Child) (ts : List IndexedTrip) : Type 0 where
  pub rows : AreDepartureRows times p index
  pub noted : All (All (IsNoted (timed_parts times p))) index
  pub children : AreChildren p xs
  pub trips : All (All (IsRanked p ts)) index
