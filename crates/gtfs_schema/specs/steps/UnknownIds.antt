-- When an id names no row.
use Rattle.std.specs.Prelude.{ℕ, ◌&&◌, ◌||◌, not, Bool, List, is_some}
use Rattle.gtfs_schema.specs.steps.Ids.{FirstRows, first_row_with}
use Rattle.gtfs_schema.specs.ReadFields.{is_id}

-- no row of the column has the id
abbrev pub is_unknown : FirstRows → List ℕ → Bool
is_unknown i t = is_id t && not (is_some (first_row_with i t))

-- no row of either column has it
abbrev pub is_unknown_in_both : FirstRows → FirstRows → List ℕ → Bool
is_unknown_in_both i j t = is_id t && not (is_some (first_row_with i t) || is_some (first_row_with j t))
