-- The transfers of a merged feed, by the numbers of what they name.
use Rattle.std.specs.Prelude.{◌≡◌, ◌<◌, ℕ, List, ◌++◌, length, map, Option, IfSome, option_map, slice_index_or}
use Rattle.std.specs.FinMap as table
use Rattle.std.specs.Cmp.Lexicographic.{slice_cmp}
use Rattle.std.specs.Option.{option_cmp}
use Rattle.std.specs.Ordering.{nat_cmp}
use Rattle.std.specs.declared.cmp.Ordering.{Ordering}
use Rattle.gtfs_rows.specs.TransferEnds.{transfer_numbers}
use Rattle.gtfs_rows.specs.TransferOrder.{by_key}
use Rattle.gtfs_rows.specs.declared.transfer.Transfer.{Transfer}
use Rattle.gtfs_merge.specs.KindEntries.{AllEntries}
use Rattle.gtfs_merge.specs.NewNumbers.{numbers_of}
use Rattle.gtfs_merge.specs.MergedSides.{side_parts}
use Rattle.gtfs_merge.specs.declared.kind.Side.{Side}
use Rattle.gtfs_merge.specs.declared.kind.Side.TheVariants as side
use Rattle.gtfs_merge.specs.declared.sides.Sides.{Sides}

-- a transfer whose stops, routes and trips have their new numbers
abbrev pub renumbered_transfer : List ℕ → List ℕ → List ℕ → Transfer → Transfer
renumbered_transfer stops routes trips t = record t {
  from_stop_id = option_map (λ n. record { 0 = slice_index_or stops n.0 0 }) t.from_stop_id;
  to_stop_id = option_map (λ n. record { 0 = slice_index_or stops n.0 0 }) t.to_stop_id;
  from_route_id = option_map (λ n. record { 0 = slice_index_or routes n.0 0 }) t.from_route_id;
  to_route_id = option_map (λ n. record { 0 = slice_index_or routes n.0 0 }) t.to_route_id;
  from_trip_id = option_map (λ n. record { 0 = slice_index_or trips n.0 0 }) t.from_trip_id;
  to_trip_id = option_map (λ n. record { 0 = slice_index_or trips n.0 0 }) t.to_trip_id;
}

abbrev pub transfer_on : AllEntries → Side → Transfer → Transfer
transfer_on k s = renumbered_transfer (numbers_of k.stops.numbers s) (numbers_of k.routes.numbers s) (numbers_of k.trips.numbers s)

abbrev pub transfers_on : Sides → AllEntries → Side → List Transfer
transfers_on sides k s = map (transfer_on k s) (side_parts s sides).transfers

-- by the numbers of what a transfer names, part by part; a part that is not there is the least
abbrev pub ends_cmp : List (Option ℕ) → List (Option ℕ) → Ordering
ends_cmp = slice_cmp (option_cmp nat_cmp)

-- those of A and then those of B, ascending by their keys, the first of each key staying
abbrev pub merged_transfers : Sides → AllEntries → List Transfer
merged_transfers sides k = by_key ends_cmp transfer_numbers (transfers_on sides k side.A ++ transfers_on sides k side.B)

-- ---- in code

-- what a transfer of a side names has a new number
pub record IsWithin (k : AllEntries) (s : Side) (t : Transfer) : Type 0 where
  pub from_stop : IfSome t.from_stop_id (λ n. n.0 < length (numbers_of k.stops.numbers s))
  pub to_stop : IfSome t.to_stop_id (λ n. n.0 < length (numbers_of k.stops.numbers s))
  pub from_route : IfSome t.from_route_id (λ n. n.0 < length (numbers_of k.routes.numbers s))
  pub to_route : IfSome t.to_route_id (λ n. n.0 < length (numbers_of k.routes.numbers s))
  pub from_trip : IfSome t.from_trip_id (λ n. n.0 < length (numbers_of k.trips.numbers s))
  pub to_trip : IfSome t.to_trip_id (λ n. n.0 < length (numbers_of k.trips.numbers s))

-- the entries of a map into which these transfers were put, the first of each key staying
abbrev pub AreEntriesOf : List Transfer → List (List (Option ℕ) × Transfer) → Type 0
AreEntriesOf ts es = es ≡ table.entries (table.from_entries {R = ends_cmp} (map (λ t. (transfer_numbers t, t)) ts))
