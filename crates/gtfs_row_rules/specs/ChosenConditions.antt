-- What the rules of presence say of a row, by the texts that they read.
use Rattle.std.specs.Prelude.{ℕ, Bool, List, [], ◌∷◌, codes}
use Rattle.gtfs_schema.specs.ReadFields.{choice_of}
use Rattle.gtfs_schema.specs.FieldValues.{if_there, is_count_between}

-- a choice from 0 to the greatest, an empty one standing for 0, is a number from low to high
abbrev pub is_chosen : ℕ → List ℕ → ℕ → ℕ → Bool
is_chosen greatest t low high =
    if_there (choice_of ((0, greatest) ∷ []) (codes "0") t) (is_count_between low high)
