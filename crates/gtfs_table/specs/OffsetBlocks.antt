-- Offsets in blocks of 256, of which each is kept as its distance from the base of its block.
use Rattle.std.specs.Prelude.{ℕ, ◌+◌, ◌*◌, ◌/◌, ◌<◌, ◌≤◌, List, [], ◌∷◌, length, slice_index}
use Rattle.gtfs_table.specs.declared.blocks.Blocks.TheInside as blocks

-- the offsets at these distances, the first of which has this number
unfoldable pub offsets_from : ℕ → List ℕ → List ℕ → List ℕ
offsets_from number bases [] = []
offsets_from number bases (distance ∷ rest) = (slice_index bases (number / 256) + distance) ∷ offsets_from (number + 1) bases rest

abbrev pub offsets_in : blocks.Inside → List ℕ
offsets_in b = offsets_from 0 b.bases.items b.distances.items

-- as many bases as blocks begun
pub record HasBases (b : blocks.Inside) : Type 0 where
  pub enough : length b.distances.items ≤ 256 * length b.bases.items
  pub begun : 256 * length b.bases.items < length b.distances.items + 256
