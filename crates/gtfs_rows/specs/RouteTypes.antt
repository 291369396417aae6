-- The numbers of route types.
-- GTFS Schedule Reference, `route_type` of routes.txt; the extended types are those from 100 on.
use Rattle.std.specs.Prelude.{ℕ, Bool, [], ◌∷◌}
use Rattle.gtfs_field.specs.Kinds.{is_in_ranges}

abbrev pub is_route_type : ℕ → Bool
is_route_type n = is_in_ranges ((0, 7) ∷ (11, 12) ∷ (100, 1799) ∷ []) n
