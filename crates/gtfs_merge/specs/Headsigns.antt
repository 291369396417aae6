-- The headsigns of the stop times of a merged feed: those of both feeds, each once.
use Rattle.std.specs.Prelude.{◌≡◌, ℕ, List, map, Option, Some, option_and_then, slice_get}
use Rattle.gtfs_rows.specs.Headsigns.{AreDistinct}
use Rattle.gtfs_merge.specs.MergedSides.{side_parts}
use Rattle.gtfs_merge.specs.declared.kind.Side.{Side}
use Rattle.gtfs_merge.specs.declared.kind.Side.TheVariants as side
use Rattle.gtfs_merge.specs.declared.sides.Sides.{Sides}

-- the texts by their new numbers, and at the number of a side's headsign its new number
pub record HeadsignTable : Type 0 where
  pub texts : List (List ℕ)
  pub a : List (Option ℕ)
  pub b : List (Option ℕ)

abbrev pub numbers_on : HeadsignTable → Side → List (Option ℕ)
numbers_on t side.A = t.a
numbers_on t side.B = t.b

-- each number is that of its text
abbrev pub AreNumbersOf : List (List ℕ) → List (List ℕ) → List (Option ℕ) → Type 0
AreNumbersOf texts olds numbers = map (option_and_then (slice_get texts)) numbers ≡ map Some olds

-- the headsigns of both feeds
pub record AreHeadsigns (sides : Sides) (t : HeadsignTable) : Type 0 where
  pub numbers : (s : Side) → AreNumbersOf t.texts (side_parts s sides).headsigns (numbers_on t s)
  -- no text stands there twice
  pub distinct : AreDistinct t.texts
