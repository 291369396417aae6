-- Which rows of two feeds are joined, by their numbers.
use Rattle.std.specs.Prelude.{ℕ, Bool, if◌then◌else◌, List, bytes_eq, map, position, Option, None}
use Rattle.gtfs_merge.specs.FeedIds.{known_ids}
use Rattle.gtfs_merge.specs.MergedSides.{is_joined_id}
use Rattle.gtfs_merge.specs.declared.kind.Kind.{Kind}
use Rattle.gtfs_merge.specs.declared.sides.Sides.{Sides}

-- the number of the row of A that a row of B is joined with, if it is joined
abbrev pub number_if : Bool → List (List ℕ) → List ℕ → Option ℕ
number_if joined ids x = if joined then position (bytes_eq x) ids else None

abbrev pub joined_number : Kind → Sides → List ℕ → Option ℕ
joined_number k sides x = number_if (is_joined_id k sides x) (known_ids k sides.a.now) x

-- the same for each row of B
abbrev pub joined_numbers : Kind → Sides → List (Option ℕ)
joined_numbers k sides = map (joined_number k sides) (known_ids k sides.b.now)
