-- Stops that are listed by name, type and parent, and a tree of them.
use Rattle.std.specs.Prelude.{◌≡◌, ◌<◌, ◌≤◌, ◌-◌, ◌∷◌, ℕ, true, max, min, map, length, List, Option, Some, None, option_map, slice_index_or}
use Rattle.std.specs.List.{Any, All}
use Rattle.std.specs.List.Sorted.{IsSorted}
use Rattle.std.specs.Ordering.{nat_cmp, ordering_then}
use Rattle.std.specs.declared.cmp.Ordering.{Ordering}
use Rattle.std.specs.declared.cmp.Ordering.TheVariants.{Equal}
use Rattle.gtfs_rows.specs.declared.stop.Stop.{Stop}
use Rattle.gtfs_nearby.specs.MapAreas.{area_joined, area_of, has}
use Rattle.gtfs_nearby.specs.PlacedStops.{IsPlacedStop, group_cmp, can_be_near}
use Rattle.gtfs_nearby.specs.declared.tree.TheConstants.{LEAF}
use Rattle.gtfs_nearby.specs.declared.block.Block.{Block}
use Rattle.gtfs_nearby.specs.declared.listed.Listed.{Listed}
use Rattle.gtfs_nearby.specs.declared.placed_stop.PlacedStop.{PlacedStop}
use Rattle.gtfs_nearby.specs.declared.run.Run.{Run}
use Rattle.gtfs_nearby.specs.declared.tree.Node.{Node}

-- ---- stops that are listed

-- a listed stop is one of these stops, under its own parent
pub record IsListed (stops : List Stop) (x : Listed) : Type 0 where
  pub within : x.number < length stops
  pub place : (d : Stop) → let s = slice_index_or stops x.number d in IsPlacedStop s (option_map (λ n. n.0) s.parent_station) x.place

-- all stops with a place are listed
pub record AreListed (stops : List Stop) (xs : List Listed) : Type 0 where
  pub listed : All (IsListed stops) xs
  pub all : (k : ℕ) (d : Stop) → k < length stops → can_be_near (slice_index_or stops k d) ≡ true → Any (λ x. x.number ≡ k) xs

-- whatever stops the first are, the second are those too
abbrev pub AreStillListed : List Listed → List Listed → Type 0
AreStillListed xs ys = (stops : List Stop) → AreListed stops xs → AreListed stops ys

abbrev pub listed_cmp : Listed → Listed → Ordering
listed_cmp x y = ordering_then (group_cmp x.place y.place) (nat_cmp x.order y.order)

-- the stops with the name, type and parent of a place stand from one index to before another
pub record IsRun (xs : List Listed) (p : PlacedStop) (run : Run) : Type 0 where
  pub order : run.from ≤ run.until
  pub within : run.until ≤ length xs
  pub inside : (k : ℕ) (d : Listed) → run.from ≤ k → k < run.until → group_cmp (slice_index_or xs k d).place p ≡ Equal
  pub all : (k : ℕ) (d : Listed) → k < length xs → group_cmp (slice_index_or xs k d).place p ≡ Equal → (run.from ≤ k) × (k < run.until)

-- ---- blocks

-- what two runs have in common
abbrev pub shared : Run → Run → Run
shared a b = record { from = max a.from b.from; until = min a.until b.until }

abbrev pub block_of_one : Listed → Block
block_of_one x = record { area = area_of x.place; least = x.number }

abbrev pub block_joined : Block → Block → Block
block_joined a b = record { area = area_joined a.area b.area; least = min a.least b.least }

-- the area has all stops of the run, and the number is the least of theirs
pub record IsBlock (xs : List Listed) (run : Run) (b : Block) : Type 0 where
  pub area : (k : ℕ) (d : Listed) → run.from ≤ k → k < run.until → has b.area (slice_index_or xs k d).place ≡ true
  pub least : (k : ℕ) (d : Listed) → run.from ≤ k → k < run.until → b.least ≤ (slice_index_or xs k d).number
  pub one : (k : ℕ) × (run.from ≤ k) × (k < run.until) × ((d : Listed) → (slice_index_or xs k d).number ≡ b.least)

-- ---- the tree

-- two nodes as one
abbrev pub node_joined : Node → Node → Node
node_joined m n = record { block = block_joined m.block n.block; stops = record { from = m.stops.from; until = n.stops.until }; first = m.first }

-- up to which stop the first k nodes reach: where the last of them ends
abbrev pub reach : List Node → ℕ → ℕ
reach ns k = slice_index_or (0 ∷ map (λ n. n.stops.until) ns) k 0

-- the node after the first k: those before its first one reach to where it begins,
-- and if it has more stops than a leaf, those before it reach to where it ends, so that its stops are theirs
pub record IsNode (xs : List Listed) (ns : List Node) (k : ℕ) (n : Node) : Type 0 where
  pub first : n.first ≤ k
  pub from : reach ns n.first ≡ n.stops.from
  pub parts : LEAF < n.stops.until - n.stops.from → reach ns k ≡ n.stops.until
  pub within : n.stops.until ≤ length xs
  pub block : IsBlock xs n.stops n.block

-- nodes that reach over so many stops
pub record IsTree (xs : List Listed) (count : ℕ) (ns : List Node) : Type 0 where
  pub all : reach ns (length ns) ≡ count
  pub nodes : (k : ℕ) (d : Node) → k < length ns → IsNode xs ns k (slice_index_or ns k d)

-- the last two nodes that are parts of no other: the last of all, and the one before its first one
abbrev pub last_of : List Node → Node → Node
last_of ns d = slice_index_or ns (length ns - 1) d

abbrev pub last_but_one : List Node → Node → Node
last_but_one ns d = slice_index_or ns ((last_of ns d).first - 1) d

-- they are there, and have equally many stops
pub record AreEven (ns : List Node) : Type 0 where
  pub some : 0 < length ns
  pub before : (d : Node) → (0 < (last_of ns d).first) × ((last_of ns d).first ≤ length ns)
  pub even : (d : Node) → (last_but_one ns d).stops.until - (last_but_one ns d).stops.from ≡ (last_of ns d).stops.until - (last_of ns d).stops.from

-- these two as one, if they are even
abbrev pub IsJoinedIfAny : List Node → Option Node → Type 0
IsJoinedIfAny ns None = ¬ AreEven ns
IsJoinedIfAny ns (Some n) = AreEven ns × ((d : Node) → n ≡ node_joined (last_but_one ns d) (last_of ns d))

pub record IsIndex (stops : List Stop) (xs : List Listed) (ns : List Node) : Type 0 where
  pub listed : AreListed stops xs
  pub in_order : IsSorted listed_cmp xs
  pub tree : IsTree xs (length xs) ns
