-- The rows of a merged feed of one kind under their new ids, and the order in which they stand.
use Rattle.std.specs.Prelude.{ℕ, Bool, not, is_some, List, length, map, filter}
use Rattle.std.specs.List.{range_with_len}
use Rattle.gtfs_rows.specs.RowsInMemory.{text_of_number}
use Rattle.gtfs_merge.specs.FeedIds.{known_ids}
use Rattle.gtfs_merge.specs.Renaming.{renaming}
use Rattle.gtfs_merge.specs.MergedSides.{side_parts, side_names}
use Rattle.gtfs_merge.specs.Twins.{twin_number}
use Rattle.gtfs_merge.specs.declared.kind.Kind.{Kind}
use Rattle.gtfs_merge.specs.declared.kind.Side.{Side}
use Rattle.gtfs_merge.specs.declared.kind.Side.TheVariants as side
use Rattle.gtfs_merge.specs.declared.numbering.sorted_rows.MergedRow.{MergedRow}
use Rattle.gtfs_merge.specs.declared.sides.Sides.{Sides}

-- a row of the merged feed: its new id, the side that it is from, and its number there
pub record Entry : Type 0 where
  pub id : List ℕ
  pub side : Side
  pub number : ℕ

-- what a row of the code's list stands for
abbrev pub entry_value : MergedRow → Entry
entry_value r = record { id = r.id.now; side = r.side; number = r.number }

abbrev pub entry_of : Side → Kind → Sides → ℕ → Entry
entry_of s k sides n = record {
  id = renaming (side_names s sides) k (text_of_number (known_ids k (side_parts s sides)) n);
  side = s;
  number = n;
}

-- the row of this number of B has no twin
abbrev pub is_apart : Kind → Sides → ℕ → Bool
is_apart k sides n = not (is_some (twin_number k sides (text_of_number (known_ids k sides.b.now) n)))

abbrev pub rows_of_a : Kind → Sides → List Entry
rows_of_a k sides = map (entry_of side.A k sides) (range_with_len 0 (length (known_ids k sides.a.now)))

abbrev pub rows_of_b : Kind → Sides → List Entry
rows_of_b k sides = map (entry_of side.B k sides) (filter (is_apart k sides) (range_with_len 0 (length (known_ids k sides.b.now))))
