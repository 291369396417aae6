-- Both feeds of a merge as their parts keep them, which stops are near, and the content that they make.
use Rattle.std.specs.Prelude.{ℕ, Bool, List}
use Rattle.gtfs_rows.specs.Content.{Content}
use Rattle.gtfs_rows.specs.RowsInMemory.{content_of_parts}
use Rattle.gtfs_rows.specs.declared.parts.Parts.{Parts}
use Rattle.gtfs_merge.specs.Merged.{merged}
use Rattle.gtfs_merge.specs.NearStops.{nearness}
use Rattle.gtfs_merge.specs.Renaming.{Names, Nearness, ids, is_joined, names_a, names_b}
use Rattle.gtfs_merge.specs.declared.kind.Kind.{Kind}
use Rattle.gtfs_merge.specs.declared.kind.Side.{Side}
use Rattle.gtfs_merge.specs.declared.kind.Side.TheVariants as side
use Rattle.gtfs_merge.specs.declared.sides.Sides.{Sides}

abbrev pub side_parts : Side → Sides → Parts
side_parts side.A sides = sides.a.now
side_parts side.B sides = sides.b.now

abbrev pub side_content : Side → Sides → Content
side_content s sides = content_of_parts (side_parts s sides)

abbrev pub content_a : Sides → Content
content_a sides = content_of_parts sides.a.now

abbrev pub content_b : Sides → Content
content_b sides = content_of_parts sides.b.now

-- which stops are near
abbrev pub nearness_of : Sides → Nearness
nearness_of sides = nearness sides.near

-- what the ids of a side become
abbrev pub side_names : Side → Sides → Names
side_names side.A sides = names_a (content_a sides) (content_b sides)
side_names side.B sides = names_b (nearness_of sides) (content_a sides) (content_b sides)

abbrev pub is_joined_id : Kind → Sides → List ℕ → Bool
is_joined_id k sides = is_joined (nearness_of sides) k (content_a sides) (content_b sides)

abbrev pub merged_parts : Sides → Content
merged_parts sides = merged (nearness_of sides) (content_a sides) (content_b sides)

-- the ids of the merged feed, by number
abbrev pub merged_ids : Kind → Sides → List (List ℕ)
merged_ids k sides = ids k (merged_parts sides)
