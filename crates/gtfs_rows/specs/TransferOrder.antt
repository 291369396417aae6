-- Rows in order of a key.
use Rattle.std.specs.Prelude.{◌≡◌, ℕ, List, [], ◌∷◌, map, Option}
use Rattle.std.specs.Option.{option_cmp}
use Rattle.std.specs.FinMap as table
use Rattle.std.specs.List.{AllPairs}
use Rattle.std.specs.Cmp.Lexicographic.{slice_cmp}
use Rattle.std.specs.declared.cmp.Ordering.{Ordering}
use Rattle.std.specs.declared.cmp.Ordering.TheVariants.{Less}
use Rattle.gtfs_field.specs.TextOrder.{text_cmp}
use Rattle.gtfs_rows.specs.Rows.{Transfer}

-- each element is below those after it
abbrev pub Ascends : {X : Type 0} → (X → X → Ordering) → List X → Type 0
Ascends order xs = AllPairs (λ x y. order x y ≡ Less) xs

-- rows ascending by a key, the first row of each key staying
abbrev pub by_key : {K X : Type 0} → (K → K → Ordering) → (X → K) → List X → List X
by_key order key xs = table.values (table.from_entries {R = order} (map (λ x. (key x, x)) xs))

-- the six parts of a transfer's key; a part that is not there stands before every id
abbrev pub transfer_key : Transfer → List (Option (List ℕ))
transfer_key t = t.from_stop_id ∷ t.to_stop_id ∷ t.from_route_id ∷ t.to_route_id ∷ t.from_trip_id ∷ t.to_trip_id ∷ []

abbrev pub transfer_key_cmp : List (Option (List ℕ)) → List (Option (List ℕ)) → Ordering
transfer_key_cmp = slice_cmp (option_cmp text_cmp)
