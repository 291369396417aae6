-- Rows whose key is one id.
use Rattle.std.specs.Prelude.{ℕ, ◌&&◌, Bool, nat_lt, List}
use Rattle.gtfs_schema.specs.steps.Ids.{FirstRows, first_row_with}
use Rattle.gtfs_schema.specs.ReadFields.{is_id}
use Rattle.gtfs_schema.specs.FieldValues.{if_there}

-- an earlier row has the id of this row
abbrev pub is_repeated : FirstRows → List ℕ → ℕ → Bool
is_repeated i t n = is_id t && if_there (first_row_with i t) (λ m. nat_lt m n)
