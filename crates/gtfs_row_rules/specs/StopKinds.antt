-- The location types of the stops that rows name.
use Rattle.std.specs.Prelude.{ℕ, ◌&&◌, ◌||◌, not, Bool, List, [], ◌∷◌, Option, ℤ}
use Rattle.gtfs_row_rules.specs.declared.stop_kinds.NamedStop.{NamedStop}
use Rattle.gtfs_table.specs.Tables.{field_under}
use Rattle.gtfs_schema.specs.steps.StopTypes.{type_with}
use Rattle.gtfs_schema.specs.FieldValues.{is_one_of}

-- the type of the stop that a record names
abbrev pub named_type : NamedStop → List (List ℕ) → Option ℤ
named_type s r = type_with s.types.now s.stops.ids.now (field_under r s.column)

-- a parent of this type is not of the kind that a stop of that type has
abbrev pub is_other_parent : ℤ → ℤ → Bool
is_other_parent own parent = (is_one_of (0 ∷ 2 ∷ 3 ∷ []) own && not (is_one_of (1 ∷ []) parent)) || (is_one_of (4 ∷ []) own && not (is_one_of (0 ∷ []) parent))
