-- The numbers that the rows of both sides have in the merged feed.
use Rattle.std.specs.Prelude.{◌≡◌, ◌<◌, ℕ, List, All, length, map, slice_index_or, slice_set, Option, None, Some}
use Rattle.gtfs_rows.specs.RowsInMemory.{text_of_number}
use Rattle.gtfs_merge.specs.MergeEntries.{Entry}
use Rattle.gtfs_merge.specs.FeedIds.{known_ids}
use Rattle.gtfs_merge.specs.Renaming.{Renaming, renaming}
use Rattle.gtfs_merge.specs.MergedSides.{side_parts, side_names, merged_ids}
use Rattle.gtfs_merge.specs.declared.kind.Kind.{Kind}
use Rattle.gtfs_merge.specs.declared.kind.Side.{Side}
use Rattle.gtfs_merge.specs.declared.kind.Side.TheVariants as side
use Rattle.gtfs_merge.specs.declared.sides.Sides.{Sides}

-- the new numbers of one kind: at a row's number that in the merged feed
pub record NewNumbers : Type 0 where
  pub a : List ℕ
  pub b : List ℕ

abbrev pub numbers_of : NewNumbers → Side → List ℕ
numbers_of n side.A = n.a
numbers_of n side.B = n.b

-- the merged feed has at each new number what the id of that row became
pub record AreNewNumbers (merged : List (List ℕ)) (rename : Renaming) (olds : List (List ℕ)) (numbers : List ℕ) : Type 0 where
  pub within : All (λ n. n < length merged) numbers
  pub named : map (text_of_number merged) numbers ≡ map rename olds

abbrev pub AreRenumbered : Kind → Sides → NewNumbers → Type 0
AreRenumbered k sides n = (s : Side) → AreNewNumbers (merged_ids k sides) (renaming (side_names s sides) k) (known_ids k (side_parts s sides)) (numbers_of n s)

-- ---- how they are found

abbrev pub with_number : NewNumbers → Side → ℕ → ℕ → NewNumbers
with_number n side.A number index = record n { a = slice_set n.a number index }
with_number n side.B number index = record n { b = slice_set n.b number index }

-- the index of an entry of the same side and number
pub record IsIndexOf (all : List Entry) (e : Entry) (index : ℕ) : Type 0 where
  pub within : index < length all
  pub side : (d : Entry) → (slice_index_or all index d).side ≡ e.side
  pub number : (d : Entry) → (slice_index_or all index d).number ≡ e.number

-- the new number of each of these entries is such an index
abbrev pub AreNumbered : List Entry → NewNumbers → List Entry → Type 0
AreNumbered all n es = All (λ e. IsIndexOf all e (slice_index_or (numbers_of n e.side) e.number 0)) es

-- the new number of a row of B: that of its twin, else its own
abbrev pub number_or : List ℕ → Option ℕ → ℕ → ℕ
number_or numbers None own = own
number_or numbers (Some first) own = slice_index_or numbers first 0
